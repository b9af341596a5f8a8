-- Stands on a shift down and up again: the u low bits go to 0, and no bit leaves the byte.
-- Turned over, the byte is 255 less itself first.
use Prim.Native.Nat.{◌-◌}
use Rattle.copies.proofs.Copies.{cleared_machine}
use Rattle.copies.specs.Steps.Copy.{over_of, cleared_byte}
use mathlib.Core.Path.{sym, ap, ◌∙◌}
use native.Mathlib.Omega.{arith}
use Rattle.copies.proofs.cleared.Goals as goal

pub returns-in-AsIs : goal.returns-in-AsIs
unfolding cleared_byte
returns-in-AsIs c =
    let a = c.args in
    cleared_machine a.b a.u (omega arith) (omega arith)
    ∙ ap (λ f. cleared_byte (over_of f) a.b a.u) (sym c.in-AsIs.is)

pub returns-in-TurnedOver : goal.returns-in-TurnedOver
unfolding cleared_byte
returns-in-TurnedOver c =
    let a = c.args in
    cleared_machine (255 - a.b) a.u (omega arith) (omega arith)
    ∙ ap (λ f. cleared_byte (over_of f) a.b a.u) (sym c.in-TurnedOver.is)
