-- The weighted rule as request (v) amends document 01's: what a cell does with a value, and what follows.
use Prim.Native.Nat.{ℕ, ◌+◌, ◌-◌, ◌≤◌, ◌<◌, zero-le, min}
use mathlib.Core.Path.{◌≡◌, refl, ◌∙◌}
use mathlib.Core.Bool.{Bool, true, false}
use mathlib.Core.Logic.{◌↔◌, ◌⊎◌, inl, inr, ⊎_elim}
use native.Mathlib.Nat.{eq-zero-or-pos}
use native.Mathlib.Omega.{arith}
use borrow.Author.Tests.{le-leb, lt-leb, leb-true, leb-false, ne_eqb}
use lib.Dec.{leb, ltb}
use lib.IntN.{sub_ℕ}
use Rattle.picture.specs.Frame.{Frame}
use Rattle.picture.specs.Bytes.{Picture}
use Rattle.element.specs.Shape.{Shape, sign_bit, height_of}
use Rattle.morphology.specs.Step.{Place, Step}
use Rattle.morphology.specs.Operations.{flat, erode_by, dilate_by, opening, closing}
use Rattle.morphology.specs.Weighted.{held_less, held_more, lower, raise, open_weighted, close_weighted}
use Rattle.morphology.specs.Order.{LiesWithin, Bounded, Rising, Holding, Paired, Mirrored}
use Rattle.morphology.proofs.Integers.{pos_is}
use Rattle.morphology.proofs.Reach.{height_at}
use Rattle.morphology.proofs.Order.{erode_same, dilate_same, erode_alike, dilate_alike, erode_bounded}
use Rattle.morphology.proofs.Order.{dilate_bounded, opening_within, within_closing}

-- ---- a sum, held

-- a byte below the sign is the height, and any other stands for itself less 256
pub record Upward (g : ℕ) : Type 0 where
  pub height : height_of g ≡ sub_ℕ g 0
  pub less : (v : ℕ) → held_less g v ≡ v - g
  pub more : (v : ℕ) → held_more g v ≡ min 255 (v + g)

pub record Downward (g : ℕ) : Type 0 where
  pub height : height_of g ≡ sub_ℕ g 256
  pub less : (v : ℕ) → held_less g v ≡ min 255 (v + (256 - g))
  pub more : (v : ℕ) → held_more g v ≡ v - (256 - g)

pub signed : (g : ℕ) → Upward g ⊎ Downward g
unfolding held_less held_more
signed g = by (ltb g sign_bit) refl
  where
    by : (t : Bool) → ltb g sign_bit ≡ t → Upward g ⊎ Downward g
    by true e = inl (record { height = rw e (pos_is g); less = λ v. rw e; more = λ v. rw e })
    by false e = inr (record { height = rw e; less = λ v. rw e; more = λ v. rw e })

-- ---- at the ends, and inside

pub lower_end : (g v : ℕ) → 255 ≤ v → lower g v ≡ 255
unfolding lower
lower_end g v h = rw (le-leb 255 v h)

pub lower_inside : (g v : ℕ) → v < 255 → lower g v ≡ held_less g v
unfolding lower
lower_inside g v h = rw (lt-leb 255 v h)

pub raise_end : (g : ℕ) → raise g 0 ≡ 0
unfolding raise
raise_end g = refl

pub raise_inside : (g v : ℕ) → 0 < v → raise g v ≡ held_more g v
unfolding raise
raise_inside g v h = rw (ne_eqb v 0 (λ e. omega arith))

pub loudest_or : (v : ℕ) → (255 ≤ v) ⊎ (v < 255)
loudest_or v = by (leb 255 v) refl
  where
    by : (t : Bool) → leb 255 v ≡ t → (255 ≤ v) ⊎ (v < 255)
    by true e = inl (leb-true 255 v e)
    by false e = inr (leb-false 255 v e)

-- ---- one cell

lower_most : (g v : ℕ) → lower g v ≤ 255
lower_most g v =
    ⊎_elim (λ e. omega (arith, lower_end g v e))
    (λ i. ⊎_elim (λ k. omega (arith, lower_inside g v i, k.less v))
    (λ k. omega (arith, lower_inside g v i, k.less v)) (signed g)) (loudest_or v)

pub lower_rises : Rising lower
lower_rises g u v h = ⊎_elim (λ e. omega (arith, lower_end g v e, lower_most g u)) inside (loudest_or v)
  where
    inside : v < 255 → lower g u ≤ lower g v
    inside i =
        let a = lower_inside g u (omega arith) in
        let b = lower_inside g v i in
        ⊎_elim (λ k. omega (arith, k.less u, k.less v))
        (λ k. omega (arith, k.less u, k.less v)) (signed g)

pub raise_rises : Rising raise
raise_rises g u v h = ⊎_elim (λ e. rw e (rw (raise_end g) zero-le)) inside (eq-zero-or-pos u)
  where
    inside : 0 < u → raise g u ≤ raise g v
    inside i =
        let a = raise_inside g u i in
        let b = raise_inside g v (omega arith) in
        ⊎_elim (λ k. omega (arith, k.more u, k.more v))
        (λ k. omega (arith, k.more u, k.more v)) (signed g)

pub raise_holds : Holding 255 raise
raise_holds g v h = ⊎_elim (λ e. rw e (rw (raise_end g) zero-le)) inside (eq-zero-or-pos v)
  where
    inside : 0 < v → raise g v ≤ 255
    inside i =
        let a = raise_inside g v i in
        ⊎_elim (λ k. omega (arith, k.more v)) (λ k. omega (arith, k.more v)) (signed g)

pub weights_mirrored : Mirrored 255 lower raise
weights_mirrored g v h = ⊎_elim end inside (eq-zero-or-pos v)
  where
    end : v ≡ 0 → lower g (255 - v) ≡ 255 - raise g v
    end e = rw e (rw (raise_end g) (lower_end g 255 (omega arith)))

    inside : 0 < v → lower g (255 - v) ≡ 255 - raise g v
    inside i =
        let a = lower_inside g (255 - v) (omega arith) in
        let b = raise_inside g v i in
        ⊎_elim (λ k. omega (arith, k.less (255 - v), k.more v))
        (λ k. omega (arith, k.less (255 - v), k.more v)) (signed g)

-- the law of a cell, at every height: inside by arithmetic, and at the ends neither half can fail
pub weights_adjoint : (g c x : ℕ) → c ≤ 255 → x ≤ 255 → (raise g c ≤ x) ↔ (c ≤ lower g x)
weights_adjoint g c x h hx =
    ⊎_elim (λ e. (λ j. omega arith, λ j. rw e (rw (raise_end g) zero-le)))
    (λ i. ⊎_elim (top i) (inside i) (loudest_or x)) (eq-zero-or-pos c)
  where
    top : 0 < c → 255 ≤ x → (raise g c ≤ x) ↔ (c ≤ lower g x)
    top i e = (λ j. omega (arith, lower_end g x e), λ j. omega (arith, raise_holds g c h))

    inside : 0 < c → x < 255 → (raise g c ≤ x) ↔ (c ≤ lower g x)
    inside i j =
        let a = lower_inside g x j in
        let b = raise_inside g c i in
        ⊎_elim (λ k. let l = k.less x in let r = k.more c in (λ q. omega arith, λ q. omega arith))
        (λ k. let l = k.less x in let r = k.more c in (λ q. omega arith, λ q. omega arith)) (signed g)

pub weights_paired : Paired 255 lower raise
weights_paired =
    record {
      lower_rises = lower_rises;
      raise_rises = raise_rises;
      raise_holds = raise_holds;
      adjoint = weights_adjoint;
    }

-- so by the flat elements' own argument: a weighted opening
-- never exceeds the picture, and a closing never falls below it
module _ (F : Frame) (B : Shape) (A : Picture) (b : Bounded 255 F A) where
  pub weighted_opening_within : LiesWithin F (open_weighted F B A) A
  weighted_opening_within = opening_within lower raise 255 weights_paired F B A b

  pub within_weighted_closing : LiesWithin F A (close_weighted F B A)
  within_weighted_closing = within_closing lower raise 255 weights_paired F B A b

-- held at the ends as ever: 250 with the weight 10, and 250 less the weight -10
loudest : (raise 10 250 ≡ 255) × (lower 246 250 ≡ 255)
unfolding raise lower held_more held_less
loudest = (refl, refl)

-- ---- with all heights 0, what the flat operations give

pub lower_zero : (v : ℕ) → v ≤ 255 → lower 0 v ≡ v
unfolding held_less
lower_zero v h =
    ⊎_elim (λ e. omega (arith, lower_end 0 v e)) (λ i. omega (arith, lower_inside 0 v i)) (loudest_or v)

pub raise_zero : (v : ℕ) → v ≤ 255 → raise 0 v ≡ v
unfolding held_more
raise_zero v h =
    ⊎_elim (λ e. rw e (raise_end 0)) (λ i. omega (arith, raise_inside 0 v i)) (eq-zero-or-pos v)

module _ (F : Frame) (B : Shape) (zero : (c r : ℕ) → B.height c r ≡ 0) (A : Picture) (p : Place) where
  level : {q r : Place} (s : Step B q r) → height_at B s ≡ 0
  level s = zero s.cell.column s.cell.row

  pub erode_unweighted : (top : ℕ) → Bounded 255 F A
      → erode_by lower top F B A p.x p.y ≡ erode_by flat top F B A p.x p.y
  erode_unweighted top b = erode_same lower flat F B A A p top (λ q i s. rw (level s) (lower_zero _ (b q i)))

  pub dilate_unweighted : Bounded 255 F A
      → dilate_by raise F B A p.x p.y ≡ dilate_by flat F B A p.x p.y
  dilate_unweighted b = dilate_same raise flat F B A A p (λ q i s. rw (level s) (raise_zero _ (b q i)))

-- and so opening and closing
module _ (F : Frame) (B : Shape) (zero : (c r : ℕ) → B.height c r ≡ 0) (A : Picture) (p : Place) where
  pub open_unweighted : Bounded 255 F A → open_weighted F B A p.x p.y ≡ opening 255 F B A p.x p.y
  open_unweighted b =
      dilate_unweighted F B zero (erode_by lower 255 F B A) p (erode_bounded lower 255 F B A)
      ∙ dilate_alike flat F B (erode_by lower 255 F B A)
      (erode_by flat 255 F B A) (λ q i. erode_unweighted F B zero A q 255 b) p

  pub close_unweighted : Bounded 255 F A → close_weighted F B A p.x p.y ≡ closing 255 F B A p.x p.y
  close_unweighted b =
      erode_unweighted F B zero (dilate_by raise F B A) p 255 (dilate_bounded raise 255 F B A raise_holds b)
      ∙ erode_alike flat F B (dilate_by raise F B A) (dilate_by flat F B A)
      (λ q i. dilate_unweighted F B zero A q b) p 255
