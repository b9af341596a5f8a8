-- Differences of bytes as signed numbers of 32 bits.
use Prim.Native.Nat.{ℕ, zero, suc, ◌-◌, ◌<◌, ◌^◌}
use mathlib.Core.Path.{◌≡◌, refl, sym, ap, ap₂, ◌∙◌, subst}
use mathlib.Core.Bool.{Bool, true, false, cond}
use native.Mathlib.Omega.{arith}
use native.Mathlib.Nat.{add-zero, sub-zero}
use borrow.Author.Tests.{le-ltb}
use lib.Dec.{ltb}
use lib.IntN.{pos, negsuc, sub_ℕ, ◌-ℤ◌}
use lib.Signed.{mag}
use mir.Syntax.{w32}
use mir.Val.{SFits, to_z, of_z}
use mir.ValLaws.{to_z_pos, to_z-of_z}

pub sub_is : (a b : ℕ) → pos a -ℤ pos b ≡ sub_ℕ a b
sub_is a zero =
    ap pos (add-zero a ∙ sym (sub-zero a))
    ∙ ap (λ t. cond t (negsuc (0 - suc a)) (pos (a - 0))) (sym (le-ltb a 0 (omega arith)))
sub_is a (suc b) = refl

cond_mag : (t : Bool) (m p q : ℕ) → p < m → q < m → mag (cond t (negsuc p) (pos q)) < m
cond_mag true m p q hp hq = hp
cond_mag false m p q hp hq = hq

pub sub_mag : (a b m : ℕ) → a < m → b < m → mag (sub_ℕ a b) < m
sub_mag a b m ha hb = cond_mag (ltb a b) m (b - suc a) (a - b) (omega arith) (omega arith)

-- what the machine computes of two bytes
pub machine_sub : (a b : ℕ) → a < 256 → b < 256 → to_z w32 a -ℤ to_z w32 b ≡ sub_ℕ a b
machine_sub a b ha hb =
    ap₂ (λ x y. x -ℤ y) (to_z_pos w32 a (omega arith)) (to_z_pos w32 b (omega arith)) ∙ sub_is a b

pub machine_fits : (a b : ℕ) → a < 256 → b < 256 → SFits w32 (to_z w32 a -ℤ to_z w32 b)
machine_fits a b ha hb =
    record {
      sfits = subst (λ z. mag z < 2 ^ 31) (sym (machine_sub a b ha hb)) (sub_mag a b (2 ^ 31)
          (omega arith) (omega arith));
    }

pub machine_result : (a b : ℕ) → a < 256 → b < 256 → to_z w32 (of_z w32 (to_z w32 a -ℤ to_z w32 b))
    ≡ sub_ℕ a b
machine_result a b ha hb =
    to_z-of_z w32 (to_z w32 a -ℤ to_z w32 b) (machine_fits a b ha hb) ∙ machine_sub a b ha hb
