-- All that request (v) moved: `held_less` and `held_more` are document 01's rule,
-- `lower` and `raise` the rule as it is amended.
use Prim.Native.Nat.{ℕ, ◌-◌, ◌≤◌, ◌<◌}
use mathlib.Core.Path.{◌≡◌, refl, ◌∙◌}
use mathlib.Core.Bool.{true}
use mathlib.Core.Logic.{◌⊎◌, ⊎_elim}
use native.Mathlib.Nat.{eq-zero-or-pos}
use native.Mathlib.Omega.{arith}
use borrow.Author.Tests.{lt-ltb, le-ltb}
use lib.Dec.{lit≤}
use Rattle.picture.specs.Frame.{Frame, frame}
use Rattle.picture.specs.Bytes.{Picture}
use Rattle.element.specs.Shape.{Shape, sign_bit}
use Rattle.morphology.specs.Step.{Place, In, Step}
use Rattle.morphology.specs.Operations.{fold, gather, erode_by, dilate_by, open_by, close_by}
use Rattle.morphology.specs.Weighted.{held_less, held_more, lower, raise, erode_weighted, dilate_weighted}
use Rattle.morphology.specs.Weighted.{open_weighted, close_weighted}
use Rattle.morphology.specs.Order.{Bounded}
use Rattle.morphology.proofs.Reach.{height_at}
use Rattle.morphology.proofs.Order.{erode_same, dilate_same}
use Rattle.morphology.proofs.Weights.{lower_end, lower_inside, raise_end, raise_inside, loudest_or}

-- ---- one cell: a height above 0 at the end, and nothing else

-- 255 was lowered to 255 - g, and stays now; 0 was raised to g, and stays now
module _ (g : ℕ) (some : 0 < g) (up : g < sign_bit) where
  pub lower_moves : (held_less g 255 ≡ 255 - g) × (lower g 255 ≡ 255)
  unfolding held_less
  lower_moves = (rw (lt-ltb g sign_bit up), lower_end g 255 (lit≤ tt))

  pub raise_moves : (held_more g 0 ≡ g) × (raise g 0 ≡ 0)
  unfolding held_more
  raise_moves = (rw (lt-ltb g sign_bit up) (omega arith), raise_end g)

-- a height that is not above 0
abbrev pub NotAbove : ℕ → Type 0
NotAbove g = (g ≡ 0) ⊎ (sign_bit ≤ g)

pub lower_stays : (g v : ℕ) → v ≤ 255 → (v < 255) ⊎ NotAbove g → lower g v ≡ held_less g v
unfolding held_less
lower_stays g v h = ⊎_elim (lower_inside g v) (λ k. ⊎_elim (end k) (lower_inside g v) (loudest_or v))
  where
    end : NotAbove g → 255 ≤ v → lower g v ≡ held_less g v
    end k e =
        ⊎_elim (λ z. rw z (omega (arith, lower_end 0 v e)))
        (λ d. rw (le-ltb g sign_bit d) (omega (arith, lower_end g v e))) k

pub raise_stays : (g v : ℕ) → (0 < v) ⊎ NotAbove g → raise g v ≡ held_more g v
unfolding held_more
raise_stays g v = ⊎_elim (raise_inside g v) (λ k. ⊎_elim (end k) (raise_inside g v) (eq-zero-or-pos v))
  where
    end : NotAbove g → v ≡ 0 → raise g v ≡ held_more g v
    end k e =
        ⊎_elim (λ z. rw z (rw e (raise_end 0)))
        (λ d. rw (le-ltb g sign_bit d) (rw e (raise_end g ∙ omega arith))) k

-- ---- pictures: a point's result stays unless a cell of a height above 0 joins it to a value at the end

module _ (F : Frame) (B : Shape) (A : Picture) (p : Place) where
  pub erode_stays : Bounded 255 F A
      → ((q : Place) → In F q → (s : Step B p q) → (A q.x q.y < 255) ⊎ NotAbove (height_at B s))
      → erode_weighted F B A p.x p.y ≡ erode_by held_less 255 F B A p.x p.y
  erode_stays b each =
      erode_same lower held_less F B A A p 255 (λ q i s. lower_stays (height_at B s) _ (b q i) (each q i s))

  pub dilate_stays : ((q : Place) → In F q → (s : Step B q p)
      → (0 < A q.x q.y) ⊎ NotAbove (height_at B s))
      → dilate_weighted F B A p.x p.y ≡ dilate_by held_more F B A p.x p.y
  dilate_stays each =
      dilate_same raise held_more F B A A p (λ q i s. raise_stays (height_at B s) _ (each q i s))

-- ---- the example of 02: by one cell of height 10

ten : Shape
ten = record {
  wide = 1;
  high = 1;
  origin_column = 0;
  origin_row = 0;
  has = λ c r. true;
  height = λ c r. 10;
}

-- 5 was opened to 10, louder than the picture, and is opened to 0
louder : (open_by held_less held_more 255 (frame 1 1) ten (λ x y. 5) 0 0 ≡ 10)
    × (open_weighted (frame 1 1) ten (λ x y. 5) 0 0 ≡ 0)
unfolding ten fold gather erode_by dilate_by held_less held_more lower raise
louder = (refl, refl)

-- 250 was closed to 245, fainter than the picture, and is closed to 255
fainter : (close_by held_less held_more 255 (frame 1 1) ten (λ x y. 250) 0 0 ≡ 245)
    × (close_weighted (frame 1 1) ten (λ x y. 250) 0 0 ≡ 255)
unfolding ten fold gather erode_by dilate_by held_less held_more lower raise
fainter = (refl, refl)
