-- Nothing is written before all is judged: a refusal returns with list and scratch as they were.
-- Where nothing is refused (`known`) the picture is admitted, list and scratch are long enough: `make`.
use Prim.Native.Nat.{◌/◌, ◌≤◌}
use mathlib.Core.Path.{sym, ap, ◌∙◌}
use native.Mathlib.Nat.{le_of_eq}
use native.Mathlib.Omega.{arith}
use lib.ListN.{length}
use Rattle.answer.specs.Answer.{told}
use Rattle.answer.proofs.Lent.{kept_by, made_by_lem}
use Rattle.answer.proofs.Variants.{err_undone, ok_done, handed_on}
use Rattle.std.proofs.lemmas.Result.{err_from_is_err_and}
use Rattle.picture.specs.declared.Depth.TheVariants.{OneBit}
use Rattle.judge.specs.declared.Padding.TheVariants.{Free}
use Rattle.judge.specs.Tests.{Admitted}
use Rattle.judge.proofs.Admitted.{holds}
use Rattle.spectrum.proofs.Counted.{answer_is, admitted_by}
use Rattle.spectrum.proofs.spectrum.Goals as goal
use Rattle.spectrum.proofs.spectrum.Goals.{In_ok-refusal}

known : (c : In_ok-refusal) → let a = c.args in
    Admitted Free OneBit a.w a.h a.source.now 0 (length a.scratch.now / 2)
    × (32 ≤ length a.counts.now)
known c = let a = c.args in
    admitted_by a.w a.h a.source.now (length a.counts.now) (length a.scratch.now) _ _
    c.list_room-list.ensures c.refusal.ensures
    (ok_done _ _ c.in_ok-refusal.was)

pub make-requires : goal.make-requires
make-requires c =
    let a = c.args in
    let k = (known (goal.at.make-requires c).In_ok-refusal).0 in record {
      holds = holds Free OneBit a.w a.h a.source.now _ k.sized (le_of_eq (sym k.whole));
      in_bounds = (known (goal.at.make-requires c).In_ok-refusal).1;
      h_in_bounds = omega (arith, k.roomy);
    }

pub returns : goal.returns
returns c =
    let a = c.args in
    let e = answer_is a.w a.h a.source.now (length a.counts.now) (length a.scratch.now)
    _ _
    c.list_room-list.ensures c.refusal.ensures in
    let w = c.in_ok-refusal.was in
    let done = ok_done _ _ w in
    record {
      answer = sym (ap told w) ∙ e;
      counts = made_by_lem a.counts.now _ _ _ e _ done c.make.ensures.counts;
      scratch = made_by_lem a.scratch.now _ _ _ e _ done c.make.ensures.scratch;
    }

pub returns-in_err-refusal : goal.returns-in_err-refusal
returns-in_err-refusal c =
    let a = c.args in
    let e = answer_is a.w a.h a.source.now (length a.counts.now) (length a.scratch.now)
    _ _
    c.list_room-list.ensures c.refusal.ensures in
    let w = c.in_err-refusal.was in
    let q = err_undone _ _ w in
    record {
      answer = handed_on _ _ _ w (err_from_is_err_and c.from_residual.result c.from_residual.ensures.1) ∙ e;
      counts = kept_by a.counts.now _ _ _ e q;
      scratch = kept_by a.scratch.now _ _ _ e q;
    }
