-- A row that is sure needs no limit. Where there is no cell, 0 will do; else one more than the greatest size.
-- What `most_of` gives is at least every size.
use mathlib.Core.Bool.{true, false}
use mathlib.Core.Path.{◌≡◌, sym, ◌∙◌}
use Prim.Native.Nat.{ℕ}
use native.Mathlib.Omega.{arith}
use Rattle.freeblocks.proofs.limit_of.Goals as goal

differ : true ≡ false → ⊥
differ e = let z : ◌≡◌ {A = ℕ} 0 1 = cc in omega arith

pub returns-then-sure : goal.returns-then-sure
returns-then-sure c = λ e. absurd (differ (sym c.if-sure.true ∙ e))

pub returns-then-cells-eq0 : goal.returns-then-cells-eq0
returns-then-cells-eq0 c = λ e j h. absurd (omega (arith, h, c.if-cells-eq0.true))

pub returns : goal.returns
returns c = λ e. c.most_of.ensures
