-- The sign alone stands for no height from -127 to 127:
-- one computed test over all bytes, and what it says of each.
use Prim.Native.Nat.{ℕ, ◌^◌, ◌<◌}
use mathlib.Core.Path.{◌≡◌, refl}
use mathlib.Core.Bool.{Bool, true, false, not, ◌&&◌, beq}
use native.Mathlib.Omega.{arith}
use lib.Dec.{eqb}
use lib.IntN.{pos, negsuc}
use lib.Signed.{le_z}
use Rattle.basics.specs.Tests.{all}
use Rattle.basics.proofs.Tests.{all_at}
use Rattle.element.specs.Shape.{sign_bit, height_of}
use Rattle.element.specs.Descriptor.{height_made}

-- -127 ≤ height ≤ 127
in_range : ℕ → Bool
in_range g = le_z (negsuc 126) (height_of g) && le_z (height_of g) (pos 127)

every_byte : all (λ g. beq (in_range g) (not (eqb g sign_bit))) (2 ^ 8) ≡ true
unfolding all in_range
every_byte = refl

alike : (a b : Bool) → beq a b ≡ true → a ≡ b
alike true true e = refl
alike false false e = refl
alike true false e = let z : ◌≡◌ {A = ℕ} 0 1 = cc in absurd (omega arith)
alike false true e = let z : ◌≡◌ {A = ℕ} 0 1 = cc in absurd (omega arith)

-- a set cell's height is well made exactly where it lies from -127 to 127
pub height_range : (g : ℕ) → g < 2 ^ 8
    → le_z (negsuc 126) (height_of g) && le_z (height_of g) (pos 127) ≡ height_made true g
unfolding in_range
height_range g h =
    alike (in_range g) (not (eqb g sign_bit))
    (all_at (λ g. beq (in_range g) (not (eqb g sign_bit))) (2 ^ 8) every_byte g h)
