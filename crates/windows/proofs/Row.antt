-- The points of a row into which what stands at all places was joined.
use Prim.Native.Nat.{ℕ, zero, suc, ◌+◌, ◌-◌, ◌*◌, ◌/◌, ◌%◌, ◌<◌}
use mathlib.Core.Path.{◌≡◌, refl, ap, ap₂, ◌∙◌}
use mathlib.Core.Bool.{Bool, true, false, cond}
use mathlib.Core.List.{List}
use native.Mathlib.Omega.{arith}
use lib.Dec.{eqb}
use lib.ListN.{length, get_or}
use borrow.Author.Tests.{eqb-true}
use Rattle.basics.specs.Bits.{bit}
use Rattle.rows.specs.Steps.Fold.{join_by}
use Rattle.blocks.specs.Steps.Points.{point_of, eight_from}
use Rattle.blocks.proofs.Laid.{get_first, length_laid}
use Rattle.basics.specs.Bytes.{Bytes}
use Rattle.blocks.proofs.Points.{bit_join, eight_point, eight_none}
use Rattle.morphology.specs.Operations.{fold}
use Rattle.windows.specs.Steps.Places.{eight_at, byte_joined, joined_row}

-- point m of the eight from p points past byte i on
pub at_point : (b : List ℕ) → Bytes b → (i p m : ℕ) → m < 8 → bit (eight_at b i p) (7 - m)
    ≡ point_of b (i * 8 + m + p)
unfolding eight_at
at_point b bytes i p m h = by (eqb (p % 8) 0) refl
  where
    even : (i p m : ℕ) → p % 8 ≡ 0 → (i + p / 8) * 8 + m ≡ i * 8 + m + p
    even i p m e = omega arith

    odd : (i p m : ℕ) → (i + p / 8) * 8 + (p % 8 + m) ≡ i * 8 + m + p
    odd i p m = omega arith

    by : (t : Bool) → eqb (p % 8) 0 ≡ t
        → bit (cond t (get_or b (i + p / 8) 0) (eight_from b (i + p / 8) (p % 8))) (7 - m)
        ≡ point_of b (i * 8 + m + p)
    by true e = eight_none b bytes (i + p / 8) m h ∙ ap (point_of b) (even i p m (eqb-true (p % 8) 0 e))
    by false e = eight_point b bytes (i + p / 8) (p % 8) m (omega arith) h ∙ ap (point_of b) (odd i p m)

pub byte_point : (grows : Bool) (v : ℕ) (b : List ℕ) → Bytes b → (i : ℕ) (at : List ℕ) (m : ℕ) → m < 8
    → (k : ℕ)
    → bit (byte_joined grows v b i at k) (7 - m)
    ≡ fold (join_by grows) (bit v (7 - m)) (λ j. point_of b (i * 8 + m + get_or at j 0)) k
unfolding byte_joined fold
byte_point grows v b bytes i at m h zero = refl
byte_point grows v b bytes i at m h (suc k) =
    bit_join grows (byte_joined grows v b i at k) (eight_at b i (get_or at k 0)) (7 - m)
    ∙ ap₂ (join_by grows) (byte_point grows v b bytes i at m h k) (at_point b bytes i (get_or at k 0) m h)

-- point x of the row
pub row_point_lem : (grows : Bool) (b at t : List ℕ) → Bytes b → (x : ℕ) → x / 8 < length t
    → point_of (joined_row grows b at t) x
    ≡ fold (join_by grows) (point_of t x) (λ j. point_of b (x + get_or at j 0)) (length at)
unfolding point_of joined_row
row_point_lem grows b at t bytes x h =
    ap (λ v. bit v (7 - x % 8))
    (get_first (length t) _ t (x / 8) (omega arith) h)
    ∙ byte_point grows (get_or t (x / 8) 0) b bytes (x / 8) at (x % 8) (omega arith) (length at)
    ∙ ap (λ y. fold (join_by grows) (point_of t x) (λ j. point_of b (y + get_or at j 0)) (length at))
    (whole x)
  where
    whole : (x : ℕ) → x / 8 * 8 + x % 8 ≡ x
    whole x = omega arith

pub row_bytes_lem : (grows : Bool) (b at t : List ℕ) → length (joined_row grows b at t) ≡ length t
unfolding joined_row
row_bytes_lem grows b at t = length_laid 0 (length t) _ t
