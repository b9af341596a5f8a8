-- Nothing is written before all is judged: a refusal returns with the target as it was.
-- Where nothing is refused the picture is admitted and both descriptors are well made (`known`),
-- and the rows do the rest.
use Rattle.answer.specs.Answer.{told}
use Rattle.answer.proofs.Lent.{kept_by, made_by_lem}
use Rattle.answer.proofs.Variants.{err_undone, ok_done, handed_on}
use Rattle.std.proofs.lemmas.Result.{err_from_is_err_and}
use Rattle.picture.specs.declared.Depth.TheVariants.{OneBit}
use Rattle.picture.specs.Frame.{Holds}
use Rattle.element.specs.Descriptor.{well_made}
use Rattle.element.proofs.WellMade.{made_cells}
use Rattle.judge.specs.declared.Padding.TheVariants.{Free}
use Rattle.judge.specs.Tests.{Admitted}
use Rattle.judge.proofs.Admitted.{holds}
use Rattle.apply.proofs.Applied.{ready}
use Rattle.apply.proofs.Read.{fitting}
use Rattle.hit.proofs.Pairs.{whole, answer_is, pair_admitted, hit_given}
use lib.ListN.{length}
use mathlib.Core.Bool.{true}
use mathlib.Core.Path.{◌≡◌, sym, ap, ◌∙◌}
use native.Mathlib.Nat.{le_of_eq}
use native.Mathlib.Omega.{arith}
use Rattle.hit.proofs.hit_or_miss.Goals as goal
use Rattle.hit.proofs.hit_or_miss.Goals.{In_ok-refusal}

known : (c : In_ok-refusal) → let a = c.args in
    Admitted Free OneBit a.w a.h a.source.now 0 (length a.target.now)
    × ((well_made a.hit.now ≡ true) × (well_made a.miss.now ≡ true))
known c = let a = c.args in
    pair_admitted a.w a.h a.source.now a.hit.now a.miss.now (length a.target.now) _ _
    c.pair_answer-shape.ensures
    c.refusal.ensures (ok_done _ _ c.in_ok-refusal.was)

source_holds : (c : In_ok-refusal) → let a = c.args in Holds OneBit (length a.source.now) a.w a.h
source_holds c = let a = c.args in
    let k = (known c).0 in
    holds Free OneBit a.w a.h a.source.now _ k.sized (le_of_eq (sym k.whole))

pub outline_at-first-requires : goal.outline_at-first-requires
outline_at-first-requires c = made_cells _ (known c).1.0

pub rows_at-hits-requires : goal.rows_at-hits-requires
rows_at-hits-requires c =
    made_cells _ (known (goal.at.rows_at-hits-requires c).In_ok-refusal).1.0

pub outline_at-second-requires : goal.outline_at-second-requires
outline_at-second-requires c =
    made_cells _ (known (goal.at.outline_at-second-requires c).In_ok-refusal).1.1

pub rows_at-misses-requires : goal.rows_at-misses-requires
rows_at-misses-requires c =
    made_cells _ (known (goal.at.rows_at-misses-requires c).In_ok-refusal).1.1

pub hit_rows-requires : goal.hit_rows-requires
hit_rows-requires c =
    let a = c.args in
    let k = known (goal.at.hit_rows-requires c).In_ok-refusal in record {
      ready = ready OneBit _ _ a.w a.h _ (source_holds (goal.at.hit_rows-requires c).In_ok-refusal)
          (fitting _ (made_cells _ k.1.0) _ (whole _ _ _ c.outline_at-first.ensures c.rows_at-hits.ensures));
      ready_2 = ready OneBit _ _ a.w a.h _ (source_holds (goal.at.hit_rows-requires c).In_ok-refusal)
          (fitting _ (made_cells _ k.1.1) _
          (whole _ _ _ c.outline_at-second.ensures c.rows_at-misses.ensures));
      holds = holds Free OneBit a.w a.h a.source.now _ k.0.sized (omega (arith, k.0.roomy));
    }

pub returns : goal.returns
returns c =
    let a = c.args in
    let k = (known (goal.at.returns c).In_ok-refusal).1 in
    let e = answer_is a.w a.h a.source.now a.hit.now
    a.miss.now (length a.target.now) _ _ c.pair_answer-shape.ensures
    c.refusal.ensures in record {
      answer = sym (ap told c.in_ok-refusal.was) ∙ e;
      bytes = made_by_lem a.target.now _ _ _ e _ (ok_done _ _ c.in_ok-refusal.was)
          (hit_given a.hit.now a.miss.now
          (λ j. let l = c.type_inv.hit j in omega arith)
          (λ j. let l = c.type_inv.miss j in omega arith)
          (made_cells _ k.0) (made_cells _ k.1) _ _
          (whole _ _ _ c.outline_at-first.ensures c.rows_at-hits.ensures)
          (whole _ _ _ c.outline_at-second.ensures c.rows_at-misses.ensures)
          a.w a.h a.source.now a.target.now _ c.hit_rows.ensures);
    }

pub returns-in_err-refusal : goal.returns-in_err-refusal
returns-in_err-refusal c =
    let a = c.args in
    let w = c.in_err-refusal.was in
    let e = answer_is a.w a.h a.source.now
    a.hit.now a.miss.now (length a.target.now) _ _
    c.pair_answer-shape.ensures c.refusal.ensures in
    record {
      answer = handed_on _ _ _ w (err_from_is_err_and c.from_residual.result c.from_residual.ensures.1) ∙ e;
      bytes = kept_by a.target.now _ _ _ e (err_undone _ _ w);
    }
