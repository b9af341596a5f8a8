-- The weighted rule in document 01's order,
-- the sums chosen among and then held, is the rule that holds each sum.
use Prim.Native.Nat.{ℕ, suc, ◌+◌, ◌-◌, ◌≤◌, min, max}
use mathlib.Core.Path.{◌≡◌, refl, sym, ap, ap₂, ◌∙◌}
use mathlib.Core.Bool.{not}
use mathlib.Core.Option.{Option, none, some}
use mathlib.Core.Logic.{⊎_elim}
use native.Mathlib.Nat.{le_refl, eq-zero-or-pos}
use native.Mathlib.Omega.{arith}
use borrow.Author.Tests.{eq-eqb, ne_eqb}
use lib.Dec.{T, ltb, leb→le, nleb→lt, ltb→lt}
use lib.IntN.{ℤ, pos, negsuc, sub_ℕ, ◌+ℤ◌, ◌-ℤ◌}
use lib.Signed.{le_z}
use Rattle.picture.specs.Frame.{Frame}
use Rattle.picture.specs.Bytes.{Picture}
use Rattle.element.specs.Shape.{Shape, height_of}
use Rattle.morphology.specs.Step.{Place}
use Rattle.morphology.specs.Operations.{onward, backward, erode_by, dilate_by}
use Rattle.morphology.specs.Weighted.{held_less, held_more, lower, raise, open_weighted, close_weighted}
use Rattle.morphology.specs.Order.{Alike, Bounded}
use Rattle.morphology.specs.Sums.{held, held_or, lesser, greater, among, less_height, with_height}
use Rattle.morphology.specs.Sums.{erode_sums, dilate_sums, open_sums, close_sums}
use Rattle.basics.proofs.Truth.{cond_holds}
use Rattle.morphology.proofs.Folds.{gather_carried}
use Rattle.morphology.proofs.Order.{erode_same, dilate_same, erode_alike, dilate_alike, erode_bounded}
use Rattle.morphology.proofs.Order.{dilate_bounded}
use Rattle.morphology.proofs.Weights.{signed, lower_end, lower_inside, raise_end, raise_inside}
use Rattle.morphology.proofs.Weights.{loudest_or, raise_holds}
use Rattle.morphology.proofs.Integers.{pos_is, sub_add, sub_neg}

-- ---- holding keeps the order

held_most : (s : ℤ) → held s ≤ 255
unfolding held
held_most (pos n) = omega arith
held_most (negsuc n) = omega arith

held_order : (s t : ℤ) → (T (le_z s t) → held s ≤ held t) × (T (not (le_z s t)) → held t ≤ held s)
unfolding held
held_order (pos a) (pos b) =
    (λ k. let h = leb→le a b k in omega arith, λ k. let h = nleb→lt a b k in omega arith)
held_order (pos a) (negsuc b) = (λ k. absurd k, λ k. omega arith)
held_order (negsuc a) (pos b) = (λ k. omega arith, λ k. absurd k)
held_order (negsuc a) (negsuc b) = (λ k. le_refl 0, λ k. le_refl 0)

held_lesser : (s t : ℤ) → held (lesser s t) ≡ min (held s) (held t)
unfolding lesser
held_lesser s t =
    cond_holds (λ z. held z ≡ min (held s) (held t)) (le_z s t) s t
    (λ k. let h = (held_order s t).0 k in omega arith) (λ k. let h = (held_order s t).1 k in omega arith)

held_greater : (s t : ℤ) → held (greater s t) ≡ max (held s) (held t)
unfolding greater
held_greater s t =
    cond_holds (λ z. held z ≡ max (held s) (held t)) (le_z s t) t s
    (λ k. let h = (held_order s t).0 k in omega arith) (λ k. let h = (held_order s t).1 k in omega arith)

pub among_lesser : (s t : Option ℤ) → held_or 255 (among lesser s t) ≡ min (held_or 255 s) (held_or 255 t)
unfolding held_or among
among_lesser none none = refl
among_lesser none (some t) = omega (arith, held_most t)
among_lesser (some s) none = omega (arith, held_most s)
among_lesser (some s) (some t) = held_lesser s t

pub among_greater : (s t : Option ℤ) → held_or 0 (among greater s t) ≡ max (held_or 0 s) (held_or 0 t)
unfolding held_or among
among_greater none none = refl
among_greater none (some t) = omega arith
among_greater (some s) none = omega arith
among_greater (some s) (some t) = held_greater s t

-- ---- one cell

held_sub : (a b : ℕ) → held (sub_ℕ a b) ≡ min (a - b) 255
unfolding held
held_sub a b =
    cond_holds (λ z. held z ≡ min (a - b) 255) (ltb a b) (negsuc (b - suc a))
    (pos (a - b)) (λ t. let h = ltb→lt a b t in omega arith) (λ t. refl)

-- the value v less the height a - b, and with it
held_less_lem : (v a b : ℕ) → held (pos v -ℤ sub_ℕ a b) ≡ min (v + b - a) 255
held_less_lem v a b =
    ap held (ap₂ ◌+ℤ◌ (pos_is v) (sub_neg a b) ∙ sub_add v 0 b a) ∙ (held_sub (v + b) (0 + a) ∙ omega arith)

held_more_lem : (v a b : ℕ) → held (pos v +ℤ sub_ℕ a b) ≡ min (v + a - b) 255
held_more_lem v a b =
    ap held (ap (λ z. z +ℤ sub_ℕ a b) (pos_is v) ∙ sub_add v 0 a b) ∙ (held_sub (v + a) (0 + b) ∙ omega arith)

module _ (g v : ℕ) (byte : g ≤ 255) (small : v ≤ 255) where
  pub held_lowered : held (pos v -ℤ height_of g) ≡ held_less g v
  held_lowered =
      ⊎_elim (λ k. ap (λ z. held (pos v -ℤ z)) k.height ∙ (held_less_lem v g 0 ∙ omega (arith, k.less v)))
      (λ k. ap (λ z. held (pos v -ℤ z)) k.height ∙ (held_less_lem v g 256 ∙ omega (arith, k.less v)))
      (signed g)

  pub held_raised : held (pos v +ℤ height_of g) ≡ held_more g v
  held_raised =
      ⊎_elim (λ k. ap (λ z. held (pos v +ℤ z)) k.height ∙ (held_more_lem v g 0 ∙ omega (arith, k.more v)))
      (λ k. ap (λ z. held (pos v +ℤ z)) k.height ∙ (held_more_lem v g 256 ∙ omega (arith, k.more v)))
      (signed g)

  lowered : held (less_height g v) ≡ lower g v
  unfolding less_height held
  lowered =
      ⊎_elim (λ e. rw (eq-eqb v 255 (omega arith)) (sym (lower_end g v e)))
      (λ i. rw (ne_eqb v 255 (λ e. omega arith)) (held_lowered ∙ sym (lower_inside g v i)))
      (loudest_or v)

  raised : held (with_height g v) ≡ raise g v
  unfolding with_height held
  raised =
      ⊎_elim (λ e. rw e (sym (raise_end g)))
      (λ i. rw (ne_eqb v 0 (λ e. omega arith)) (held_raised ∙ sym (raise_inside g v i)))
      (eq-zero-or-pos v)

-- ---- the two orders agree

module _ (F : Frame) (B : Shape) (byte : (c r : ℕ) → B.height c r ≤ 255)
    (A : Picture) (b : Bounded 255 F A) (p : Place) where
  pub erode_sums_lem : erode_sums F B A p.x p.y ≡ erode_by lower 255 F B A p.x p.y
  unfolding erode_sums held_or erode_by
  erode_sums_lem =
      gather_carried (among lesser) min (held_or 255) among_lesser none B (onward F B p.x p.y) _
      ∙ erode_same (λ g v. held (less_height g v)) lower
      F B A A p 255 (λ q i s. lowered _ _ (byte _ _) (b q i))

  pub dilate_sums_lem : dilate_sums F B A p.x p.y ≡ dilate_by raise F B A p.x p.y
  unfolding dilate_sums held_or dilate_by
  dilate_sums_lem =
      gather_carried (among greater) max (held_or 0) among_greater none B (backward F B p.x p.y) _
      ∙ dilate_same (λ g v. held (with_height g v)) raise
      F B A A p (λ q i s. raised _ _ (byte _ _) (b q i))

-- and of opening and closing, since the middle picture is the same and within the depth
module _ (F : Frame) (B : Shape) (byte : (c r : ℕ) → B.height c r ≤ 255)
    (A : Picture) (b : Bounded 255 F A) (p : Place) where
  eroded : Alike F (erode_sums F B A) (erode_by lower 255 F B A)
  eroded q i = erode_sums_lem F B byte A b q

  dilated : Alike F (dilate_sums F B A) (dilate_by raise F B A)
  dilated q i = dilate_sums_lem F B byte A b q

  pub open_sums_lem : open_sums F B A p.x p.y ≡ open_weighted F B A p.x p.y
  open_sums_lem =
      dilate_sums_lem F B byte (erode_sums F B A)
      (λ q i. rw (eroded q i) (erode_bounded lower 255 F B A q i)) p
      ∙ dilate_alike raise F B (erode_sums F B A) (erode_by lower 255 F B A) eroded p

  pub close_sums_lem : close_sums F B A p.x p.y ≡ close_weighted F B A p.x p.y
  close_sums_lem =
      erode_sums_lem F B byte (dilate_sums F B A)
      (λ q i. rw (dilated q i) (dilate_bounded raise 255 F B A raise_holds b q i)) p
      ∙ erode_alike lower F B (dilate_sums F B A) (dilate_by raise F B A) dilated p 255
