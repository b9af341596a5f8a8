-- An operation asks an element for nothing but its cells:
-- elements of one size and origin with the same cells do the same.
use Prim.Native.Nat.{ℕ, zero, suc, ◌<◌}
use mathlib.Core.Path.{◌≡◌, refl, ap, ap₂}
use mathlib.Core.Bool.{Bool, cond, ◌&&◌}
use native.Mathlib.Omega.{arith}
use Rattle.picture.specs.Frame.{Frame}
use Rattle.picture.specs.Bytes.{Picture}
use Rattle.element.specs.Shape.{Shape}
use Rattle.morphology.specs.Operations.{fold, gather, moved, within, Change, erode_by, dilate_by}

pub fold_same : {A : Type 0} (join : A → A → A) (z : A) (f g : ℕ → A) (n : ℕ) → ((i : ℕ) → i < n → f i ≡ g i)
    → fold join z f n ≡ fold join z g n
unfolding fold
fold_same join z f g zero each = refl
fold_same join z f g (suc n) each =
    ap₂ join (fold_same join z f g n (λ i l. each i (omega arith))) (each n (omega arith))

-- the element with other cells
abbrev pub with_cells : Shape → (ℕ → ℕ → Bool) → Shape
with_cells B has =
    record {
      wide = B.wide;
      high = B.high;
      origin_column = B.origin_column;
      origin_row = B.origin_row;
      has = has;
      height = B.height;
    }

module _ (B : Shape) (has : ℕ → ℕ → Bool) (same : (c r : ℕ) → c < B.wide
    → r < B.high → B.has c r ≡ has c r) (F : Frame) (A : Picture) (x y : ℕ) where
  pub erode_cells : (lower : Change) (top : ℕ)
      → erode_by lower top F B A x y ≡ erode_by lower top F (with_cells B has) A x y
  unfolding erode_by gather
  erode_cells lower top =
      fold_same _ _ _ _ B.high (λ r lr. fold_same _ _ _ _ B.wide (λ c lc.
      ap (λ b. cond (b && (within F.pings x c B.origin_column && within F.bins y r B.origin_row))
      (lower (B.height c r) (A (moved x c B.origin_column) (moved y r B.origin_row))) top)
      (same c r lc lr)))

  pub dilate_cells : (raise : Change) → dilate_by raise F B A x y ≡ dilate_by raise F (with_cells B has) A x y
  unfolding dilate_by gather
  dilate_cells raise =
      fold_same _ _ _ _ B.high (λ r lr. fold_same _ _ _ _ B.wide (λ c lc.
      ap (λ b. cond (b && (within F.pings x B.origin_column c && within F.bins y B.origin_row r))
      (raise (B.height c r) (A (moved x B.origin_column c) (moved y B.origin_row r))) 0)
      (same c r lc lr)))
