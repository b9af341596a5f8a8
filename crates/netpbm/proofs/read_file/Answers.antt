-- Stands on the header, on the raster's judgement, then on the copy:
-- an accepted file holds its picture, and the target has room for it. A refusal writes nothing.
use Rattle.netpbm.proofs.Reading.{nothing_found, formed_is, unformed, formed_judged}
use Rattle.netpbm.proofs.Reading.{source_held, target_held, read_done, read_refused}
use Rattle.netpbm.specs.declared.Header.{Header}
use Rattle.netpbm.specs.File.{formed, pings_of, bins_of, raster_of}
use Rattle.netpbm.specs.ReadWrite.{GivenBack, read_answer}
use Rattle.answer.proofs.Variants.{handed_on}
use Rattle.answer.specs.declared.Refusal.{Refusal}
use Rattle.answer.specs.declared.Refusal.TheVariants.{Netpbm}
use Rattle.basics.proofs.Lists.{tail_is}
use Rattle.std.specs.Prelude.{Result, Err}
use Rattle.std.proofs.lemmas.Result.{err_from_is_err_and}
use Prim.Native.Nat.{◌-◌}
use lib.ListN.{length, take, drop}
use mathlib.Core.Bool.{true}
use mathlib.Core.Path.{◌≡◌, refl, sym, subst, ◌∙◌}
use Rattle.netpbm.proofs.read_file.Goals as goal
use Rattle.netpbm.proofs.read_file.Goals.{Else-not-is_right, After-judge_raster, In_ok-head}

-- where the maximum is right
header_right : (c : Else-not-is_right) → formed c.args.depth c.args.file.now ≡ true
header_right c =
    sym (formed_is c.args.depth c.args.file.now c.in-Some.found c.in-Some.ensures _ c.is_right.ensures)
    ∙ c.if-not-is_right.false

-- what is judged of the raster is judged of the file
judged : (c : After-judge_raster) → (r : Result Header Refusal) → c.judge_raster.result ≡ r
    → let a = c.args in
    GivenBack (read_answer a.depth a.file.now (length a.target.now))
    (pings_of a.depth a.file.now) (bins_of a.depth a.file.now) r
judged c r e =
    let a = c.args in
    let d = c.in-Some.found in
    subst (λ (x : Result Header Refusal). GivenBack (read_answer a.depth a.file.now (length a.target.now))
    (pings_of a.depth a.file.now) (bins_of a.depth a.file.now) x) e
    (formed_judged a.depth a.file.now _ d c.in-Some.ensures
    (header_right (goal.at.After-judge_raster c).Else-not-is_right) _ (tail_is a.file.now d.at) _
    c.judge_raster.ensures)

-- the raster is what follows its place
raster_is : (c : In_ok-head) → let a = c.args in
    let at = c.in-Some.found.at in
    take (length a.file.now - at) (drop at a.file.now) ≡ raster_of a.depth a.file.now
raster_is c = tail_is c.args.file.now c.in-Some.found.at ∙ c.in-Some.ensures.raster

pub returns-in_default : goal.returns-in_default
returns-in_default c =
    let a = c.args in
    let p = read_refused a.depth a.file.now a.target.now _ (Err Netpbm) _ refl
    (unformed a.depth a.file.now _ (nothing_found a.depth a.file.now c.in_default.ensures)) refl in
    record { given_back = p.0; target_after = p.1 }

pub returns-then-not-is_right : goal.returns-then-not-is_right
returns-then-not-is_right c =
    let a = c.args in
    let p = read_refused a.depth a.file.now a.target.now _ (Err Netpbm) _ refl
    (unformed a.depth a.file.now _
    (sym (formed_is a.depth a.file.now c.in-Some.found c.in-Some.ensures _ c.is_right.ensures)
    ∙ c.if-not-is_right.true)) refl in
    record { given_back = p.0; target_after = p.1 }

pub returns-in_err-head : goal.returns-in_err-head
returns-in_err-head c =
    let a = c.args in
    let w = c.in_err-head.was in
    let g = judged (goal.at.returns-in_err-head c).After-judge_raster _ refl in
    let p = err_from_is_err_and c.from_residual.result c.from_residual.ensures.1 in
    let q = read_refused a.depth a.file.now a.target.now _ c.from_residual.result p.0 p.1
    (handed_on _ _ _ w p ∙ g.answer) refl in
    record { given_back = q.0; target_after = q.1 }

pub copy_picture-requires : goal.copy_picture-requires
copy_picture-requires c =
    let a = c.args in
    let p = goal.at.copy_picture-requires c in
    let g = judged p.After-judge_raster _ c.in_ok-head.was in record {
      holds = source_held a.depth a.file.now a.target.now _ _ g _ (raster_is p.In_ok-head);
      holds_2 = target_held a.depth a.file.now a.target.now _ _ g;
    }

pub returns : goal.returns
returns c =
    let a = c.args in
    let p = goal.at.returns c in
    let g = judged p.After-judge_raster _ c.in_ok-head.was in record {
      given_back = g;
      target_after =
          read_done a.depth a.file.now a.target.now _ _ g refl _ _ (raster_is p.In_ok-head)
          c.copy_picture.ensures;
    }
