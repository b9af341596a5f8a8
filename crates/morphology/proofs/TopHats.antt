-- The laws of top-hats and of the gradient, once for both depths. Of the two top-hats nothing is ever held:
-- the opening lies within the picture, and the picture within its closing.
-- Of the gradient nothing is held where the origin cell is set;
-- `held` and `held_one_bit` show what is where it is unset.
use Prim.Native.Nat.{ℕ, ◌-◌, ◌≤◌}
use mathlib.Core.Path.{◌≡◌, sym, ap, ◌∙◌}
use mathlib.Core.Logic.{◌↔◌}
use mathlib.Core.Bool.{◌&&◌}
use mathlib.Core.List.{[], ◌∷◌}
use native.Mathlib.Nat.{le_trans}
use native.Mathlib.Omega.{arith}
use lib.Dec.{T, ltb}
use lib.IntN.{pos, sub_ℕ, +ℤ_idr}
use Rattle.basics.specs.Tests.{all}
use Rattle.picture.specs.Frame.{Frame}
use Rattle.picture.specs.Bytes.{Picture}
use Rattle.element.specs.Shape.{Shape}
use Rattle.morphology.specs.Step.{Place, Cell, Step}
use Rattle.morphology.specs.Operations.{flat, fold, gather, erode_by, dilate_by}
use Rattle.morphology.specs.Operations.{erode, dilate, opening, closing, complement}
use Rattle.morphology.specs.Order.{LiesWithin, Bounded}
use Rattle.morphology.specs.Sets.{SetAt}
use Rattle.morphology.specs.TopHats.{less, white_top_hat, black_top_hat, gradient, NothingHeld, OriginSet}
use Rattle.morphology.specs.Worked.{bits, bytes, same_in, three, next}
use Rattle.morphology.proofs.Integers.{pos_is, sub_eq}
use Rattle.morphology.proofs.Order.{flat_paired, opening_within, within_closing}
use Rattle.morphology.proofs.Order.{erode_empty, dilate_empty}
use Rattle.morphology.proofs.Reach.{erode_le, le_dilate}
use Rattle.morphology.proofs.Sets.{plus_step}

-- ---- nothing is held where the picture that is taken away lies within the other
whole : (a c : ℕ) → c ≤ a → sub_ℕ a c ≡ pos (a - c)
whole a c l = sub_eq a c (a - c) 0 (omega arith) ∙ sym (pos_is (a - c))

pub nothing_held : (F : Frame) (A C : Picture) → LiesWithin F C A → NothingHeld F A C
nothing_held F A C within p i = whole _ _ (within p i)

module _ (top : ℕ) (F : Frame) (B : Shape) (A : Picture) where
  -- the two top-hats: never below 0
  pub white_not_held : Bounded top F A → NothingHeld F A (opening top F B A)
  white_not_held b = nothing_held F A _ (opening_within flat flat top (flat_paired top) F B A b)

  pub black_not_held : Bounded top F A → NothingHeld F (closing top F B A) A
  black_not_held b = nothing_held F _ A (within_closing flat flat top (flat_paired top) F B A b)

  -- the gradient, where the origin cell is set: erosion takes the point itself, and so does dilation
  stays : OriginSet B → (p : Place) → Step B p p
  stays o p =
      plus_step B p p _ o
      (record { across = sym (+ℤ_idr (pos p.x)); down = sym (+ℤ_idr (pos p.y)) })

  pub gradient_not_held : OriginSet B → NothingHeld F (dilate F B A) (erode top F B A)
  gradient_not_held o =
      nothing_held F _ _
      (λ p i. le_trans (erode_le flat top F B A p p i (stays o p)) (le_dilate flat F B A p p i (stays o p)))

  -- by an element with no set cell: the picture, its complement within the frame, and 0
  module _ (none : ¬ Cell B) (p : Place) where
    pub white_empty : white_top_hat top F B A p.x p.y ≡ A p.x p.y
    white_empty = ap (λ n. A p.x p.y - n) (dilate_empty flat F B _ none p) ∙ less_nothing _
      where
        less_nothing : (n : ℕ) → n - 0 ≡ n
        less_nothing n = omega arith

    pub black_empty : black_top_hat top F B A p.x p.y ≡ complement top A p.x p.y
    black_empty = ap (λ n. n - A p.x p.y) (erode_empty flat F B _ none p top)

    pub gradient_empty : gradient top F B A p.x p.y ≡ 0
    gradient_empty =
        ap (λ n. n - erode top F B A p.x p.y) (dilate_empty flat F B A none p) ∙ nothing_less _
      where
        nothing_less : (n : ℕ) → 0 - n ≡ 0
        nothing_less n = omega arith

-- ---- of one bit, less is set difference
pub less_set : (A C : Picture) (p : Place) → A p.x p.y ≤ 1 → C p.x p.y ≤ 1
    → SetAt (less A C) p ↔ (SetAt A p × (SetAt C p → ⊥))
less_set A C p a c = (λ e. (omega arith, λ q. omega arith), λ h. by _ _ a c h.0 h.1)
  where
    by : (m n : ℕ) → m ≤ 1 → n ≤ 1 → m ≡ 1 → (n ≡ 1 → ⊥) → m - n ≡ 1
    by m n a c e q = omega arith

-- ---- an unset origin: by dx 1 alone 10 200 30 dilates to 0 10 200 and erodes to 200 30 255,
-- so that the integers are -200, -20 and -55, and each is held at 0
held : T (same_in three (gradient 255 three next (bytes three (10 ∷ 200 ∷ 30 ∷ [])))
    (bytes three (0 ∷ 0 ∷ 0 ∷ []))
    && all (λ x. ltb (dilate three next (bytes three (10 ∷ 200 ∷ 30 ∷ [])) x 0)
    (erode 255 three next (bytes three (10 ∷ 200 ∷ 30 ∷ [])) x 0)) 3)
unfolding same_in all fold gather erode_by dilate_by
held = tt

-- of one bit: 010 dilates to 001 and erodes to 101, and the first point is held
held_one_bit : T (same_in three (gradient 1 three next (bits three 0b010)) (bits three 0b000)
    && ltb (dilate three next (bits three 0b010) 0 0) (erode 1 three next (bits three 0b010) 0 0))
unfolding same_in all fold gather erode_by dilate_by
held_one_bit = tt
