-- By the way: a sum held to 255, or a difference held to 0.
-- Each arm is one case of the definition.
use Prim.Native.Nat.{ℕ, min}
use mathlib.Core.Path.{◌≡◌, sym, ap, ◌∙◌}
use native.Mathlib.Omega.{arith}
use Rattle.freeblocks.specs.Steps.Plain.{plain_by}
use Rattle.freeblocks.proofs.plain.Goals as goal

turned : (x r : ℕ) → r ≡ min x 255 → r ≡ min 255 x
turned x r e = omega arith

pub returns-then-up : goal.returns-then-up
returns-then-up c =
    let a = c.args in
    turned _ _ c.saturating_add.ensures ∙ ap (λ u. plain_by u a.g a.v) (sym c.if-up.true)

pub returns-else-up : goal.returns-else-up
returns-else-up c =
    let a = c.args in
    c.saturating_sub.ensures ∙ ap (λ u. plain_by u a.g a.v) (sym c.if-up.false)
