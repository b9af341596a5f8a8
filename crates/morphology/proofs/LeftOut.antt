-- Values at their end left out of the sums: the least and the greatest stay what they are,
-- since what is left out would contribute what they are where there is none.
use Prim.Native.Nat.{ℕ, ◌≤◌, min, max}
use mathlib.Core.Path.{◌≡◌, sym, ◌∙◌}
use mathlib.Core.Bool.{not, cond}
use mathlib.Core.Option.{none}
use mathlib.Core.Logic.{⊎_elim}
use native.Mathlib.Nat.{eq-zero-or-pos}
use native.Mathlib.Omega.{arith}
use borrow.Author.Tests.{eq-eqb, ne_eqb}
use lib.Dec.{eqb}
use lib.IntN.{pos, ◌+ℤ◌, ◌-ℤ◌}
use Rattle.picture.specs.Frame.{Frame}
use Rattle.picture.specs.Bytes.{Picture}
use Rattle.element.specs.Shape.{Shape, height_of}
use Rattle.morphology.specs.Step.{Place}
use Rattle.morphology.specs.Operations.{onward, backward, erode_by, dilate_by}
use Rattle.morphology.specs.Weighted.{lower, raise, erode_weighted, dilate_weighted}
use Rattle.morphology.specs.Order.{Bounded}
use Rattle.morphology.specs.Sums.{held, held_or, lesser, greater, among}
use Rattle.morphology.specs.LeftOut.{ahead, behind, erode_left_out, dilate_left_out}
use Rattle.morphology.proofs.Folds.{gather_carried, gather_without}
use Rattle.morphology.proofs.Order.{erode_same, dilate_same}
use Rattle.morphology.proofs.Weights.{lower_end, lower_inside, raise_end, raise_inside, loudest_or}
use Rattle.morphology.proofs.Sums.{among_lesser, among_greater, held_lowered, held_raised}

module _ (g v : ℕ) (byte : g ≤ 255) (small : v ≤ 255) where
  lowered : cond (not (eqb v 255)) (held (pos v -ℤ height_of g)) 255 ≡ lower g v
  lowered =
      ⊎_elim (λ e. rw (eq-eqb v 255 (omega arith)) (sym (lower_end g v e)))
      (λ i. rw (ne_eqb v 255 (λ e. omega arith)) (held_lowered g v byte small ∙ sym (lower_inside g v i)))
      (loudest_or v)

  raised : cond (not (eqb v 0)) (held (pos v +ℤ height_of g)) 0 ≡ raise g v
  raised =
      ⊎_elim (λ e. rw e (sym (raise_end g)))
      (λ i. rw (ne_eqb v 0 (λ e. omega arith)) (held_raised g v byte small ∙ sym (raise_inside g v i)))
      (eq-zero-or-pos v)

module _ (F : Frame) (B : Shape) (byte : (c r : ℕ) → B.height c r ≤ 255)
    (A : Picture) (b : Bounded 255 F A) (p : Place) where
  pub erode_left_out_lem : erode_left_out F B A p.x p.y ≡ erode_weighted F B A p.x p.y
  unfolding erode_left_out held_or erode_by
  erode_left_out_lem =
      gather_carried (among lesser) min (held_or 255) among_lesser none B _ _
      ∙ (gather_without min 255 B (onward F B p.x p.y)
      (λ c r. not (eqb (ahead B A p.x p.y c r) 255)) _
      ∙ erode_same (λ g v. cond (not (eqb v 255)) (held (pos v -ℤ height_of g)) 255) lower
      F B A A p 255 (λ q i s. lowered _ _ (byte _ _) (b q i)))

  pub dilate_left_out_lem : dilate_left_out F B A p.x p.y ≡ dilate_weighted F B A p.x p.y
  unfolding dilate_left_out held_or dilate_by
  dilate_left_out_lem =
      gather_carried (among greater) max (held_or 0) among_greater none B _ _
      ∙ (gather_without max 0 B (backward F B p.x p.y)
      (λ c r. not (eqb (behind B A p.x p.y c r) 0)) _
      ∙ dilate_same (λ g v. cond (not (eqb v 0)) (held (pos v +ℤ height_of g)) 0) raise
      F B A A p (λ q i s. raised _ _ (byte _ _) (b q i)))
