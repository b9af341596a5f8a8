-- It stands on what an admitted picture is: of a frame's size, its source whole, the target roomy enough.
-- So where the judge says done both buffers hold the picture, which is all that the copy asks.
use Rattle.std.proofs.Common.{Ok, length, sym, ap, ◌∙◌, arith}
use native.Mathlib.Nat.{le_of_eq}
use Rattle.answer.specs.Answer.{told, is_done}
use Rattle.answer.proofs.Variants.{ok_done}
use Rattle.judge.specs.declared.Padding.TheVariants.{Free}
use Rattle.judge.specs.Tests.{Admitted}
use Rattle.judge.proofs.Admitted.{admitted, holds}
use Rattle.cases.proofs.copied.Goals as goal
use Rattle.cases.proofs.copied.Goals.{In_ok-refusal}

known : (c : In_ok-refusal) → let a = c.args in
    Admitted Free a.depth a.w a.h a.source.now 0 (length a.target.now)
known c = let a = c.args in
    (admitted Free a.depth a.w a.h a.source.now (told {A = Unit {0}} (Ok tt)) 0 (length a.target.now)
    (sym (ap is_done c.refusal.ensures) ∙ ok_done _ _ c.in_ok-refusal.was)).0

pub copy_picture-requires-clause-holds : goal.copy_picture-requires-clause-holds
copy_picture-requires-clause-holds c =
    let a = c.args in
    let k = known (goal.at.copy_picture-requires-clause-holds c).In_ok-refusal in
    holds Free a.depth a.w a.h a.source.now _ k.sized (le_of_eq (sym k.whole))

pub copy_picture-requires-clause-holds_2 : goal.copy_picture-requires-clause-holds_2
copy_picture-requires-clause-holds_2 c =
    let a = c.args in
    let k = known (goal.at.copy_picture-requires-clause-holds_2 c).In_ok-refusal in
    holds Free a.depth a.w a.h a.source.now _ k.sized (omega (arith, k.roomy))
