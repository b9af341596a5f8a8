-- What was shown of places, said of offsets:
-- the offsets at fault are those at which a lone echo is dilated differently.
use Prim.Native.Nat.{ℕ, ◌+◌, ◌≤◌}
use mathlib.Core.Path.{◌≡◌, sym, ap, ◌∙◌, subst}
use mathlib.Core.List.{List}
use lib.IntN.{ℤ, pos, sub_ℕ, neg_ℤ, ◌+ℤ◌, +ℤ_assoc, +ℤ_invl, +ℤ_idl}
use Rattle.answer.specs.Answer.{centre}
use Rattle.element.specs.Shape.{Shape, Offset}
use Rattle.morphology.specs.Step.{Place, Plus}
use Rattle.morphology.specs.Chain.{Fault, Chained}
use Rattle.morphology.specs.Check.{value}
use Rattle.morphology.specs.Demand.{Differs}
use Rattle.morphology.proofs.Places.{Moved}
use Rattle.morphology.proofs.Bridge.{fault_to, fault_from, fault_place}
use Rattle.morphology.proofs.Agree.{offset}
use Rattle.morphology.proofs.LoneEcho.{moved_to, fault_differs_at, differing_moved, difference_fault}

-- ---- a point moved by an offset

undo : (n : ℕ) (a : ℤ) → neg_ℤ (pos n) +ℤ (pos n +ℤ a) ≡ a
undo n a = sym (+ℤ_assoc (neg_ℤ (pos n)) (pos n) a) ∙ (ap (λ z. z +ℤ a) (+ℤ_invl (pos n)) ∙ +ℤ_idl a)

drop_same : (n : ℕ) (a b : ℤ) → pos n +ℤ a ≡ pos n +ℤ b → a ≡ b
drop_same n a b h = sym (undo n a) ∙ (ap (λ z. neg_ℤ (pos n) +ℤ z) h ∙ undo n b)

-- there is one offset from p to q
moved_value : (p q e : Place) (o : Offset) → Plus p o q → Moved e p q → value e ≡ o
moved_value p q e o h m =
    let k = moved_to e p q m in
    let ex = drop_same p.x (sub_ℕ e.x centre) o.dx (sym k.across ∙ h.across) in
    let ey = drop_same p.y (sub_ℕ e.y centre) o.dy (sym k.down ∙ h.down) in
    λ i. record { dx = ex i; dy = ey i }

-- ---- faults are differences

module _ (E : Shape) (Bs : List Shape) (C : Chained E Bs) (top : ℕ) (some : 1 ≤ top) where
  pub fault_differs : (e : Offset) → Fault E Bs e → Differs top E Bs e
  fault_differs e f =
      let p = fault_place E Bs C e f in
      subst (Differs top E Bs) p.1
      (fault_differs_at E Bs C top p.0 some (fault_from E Bs C p.0 (subst (Fault E Bs) (sym p.1) f)))

  pub differs_fault : (e : Offset) → Differs top E Bs e → Fault E Bs e
  differs_fault e d =
      let m = differing_moved E Bs C top d.frame d.echo
      d.point d.echo_in d.point_in d.differ in
      let p = offset d.echo d.point in
      subst (Fault E Bs) (moved_value d.echo d.point p e d.moved m)
      (fault_to E Bs C p
      (difference_fault E Bs C top d.frame d.echo d.point d.echo_in d.point_in d.differ))
