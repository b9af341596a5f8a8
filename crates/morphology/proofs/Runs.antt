-- What a chained run reaches:
-- the universal properties of the chained dilation and erosion, in terms of walks inside the frame.
use Prim.Native.Nat.{ℕ, ◌+◌, ◌-◌, ◌≤◌}
use mathlib.Core.Path.{◌≡◌, refl, subst₂}
use mathlib.Core.List.{List, [], ◌∷◌}
use native.Mathlib.Nat.{le_trans, le_refl}
use native.Mathlib.Omega.{arith}
use Rattle.picture.specs.Frame.{Frame}
use Rattle.picture.specs.Bytes.{Picture}
use Rattle.element.specs.Shape.{Shape}
use Rattle.morphology.specs.Step.{Place, In, Step}
use Rattle.morphology.specs.Operations.{flat, erode, dilate}
use Rattle.morphology.specs.Chain.{erode_all, dilate_all}
use Rattle.morphology.proofs.Reach.{erosion, dilation, erode_le, le_dilate}
use Rattle.morphology.proofs.Places.{Walk}

-- the chained dilation at q is the greatest value at a point with a walk to q inside the frame
pub dils_le : (F : Frame) (Bs : List Shape) (A : Picture) (q : Place) (v : ℕ) → In F q
    → ((p : Place) → In F p → Walk (In F) Bs p q → A p.x p.y ≤ v) → dilate_all F Bs A q.x q.y ≤ v
unfolding dilate_all
dils_le F [] A q v i all = all q i (refl, refl)
dils_le F (B ∷ Bs) A q v i all =
    dils_le F Bs (dilate F B A) q v i
    (λ m im w. (dilation flat F B A m v).1 (λ p ip s. all p ip (m, s, im, w)))

pub le_dils : (F : Frame) (Bs : List Shape) (A : Picture) (p q : Place) → In F p → Walk (In F) Bs p q
    → A p.x p.y ≤ dilate_all F Bs A q.x q.y
unfolding dilate_all
le_dils F [] A p q i w =
    subst₂ (λ (u v : ℕ). A p.x p.y ≤ A u v) w.0 w.1 (le_refl (A p.x p.y))
le_dils F (B ∷ Bs) A p q i w =
    le_trans (le_dilate flat F B A p w.0 i w.1) (le_dils F Bs (dilate F B A) w.0 q w.2 w.3)

-- p and p' lie opposite each other in the frame: turning the frame by half a turn exchanges them
pub record Opposite (F : Frame) (p p' : Place) : Type 0 where
  pub columns : p.x + p'.x + 1 ≡ F.pings
  pub rows : p.y + p'.y + 1 ≡ F.bins

pub opposite : Frame → Place → Place
opposite F p = record { x = F.pings - 1 - p.x; y = F.bins - 1 - p.y }

pub opposite_is : (F : Frame) (p : Place) → In F p → Opposite F p (opposite F p)
unfolding opposite
opposite_is F p i = record { columns = omega arith; rows = omega arith }

pub opposite_of : (F : Frame) (p : Place) → In F p → Opposite F (opposite F p) p
unfolding opposite
opposite_of F p i = record { columns = omega arith; rows = omega arith }

pub opposite_in : {F : Frame} {p p' : Place} → Opposite F p p' → In F p
opposite_in o = record { ping = omega arith; bin = omega arith }

pub opposite_in' : {F : Frame} {p p' : Place} → Opposite F p p' → In F p'
opposite_in' o = record { ping = omega arith; bin = omega arith }

-- a step from p to q is a step from the opposite of q to that of p
pub turned : {F : Frame} {B : Shape} {p p' q q' : Place} → Opposite F p p' → Opposite F q q' → Step B p q
    → Step B q' p'
turned o o' s =
    record { cell = s.cell; across = omega arith; down = omega arith }

pub turned_back : {F : Frame} {B : Shape} {p p' q q' : Place}
    → Opposite F p p' → Opposite F q q' → Step B q' p' → Step B p q
turned_back o o' s =
    record { cell = s.cell; across = omega arith; down = omega arith }

-- the chained erosion at p is the least value at a point q whose
-- opposite has a walk to the opposite of p inside the frame:
-- the last link is the first to move
pub le_eros : (top : ℕ) (F : Frame) (Bs : List Shape) (A : Picture) (p p' : Place) (v : ℕ) → Opposite F p p'
    → v ≤ top
    → ((q q' : Place) → Opposite F q q' → Walk (In F) Bs q' p' → v ≤ A q.x q.y)
    → v ≤ erode_all top F Bs A p.x p.y
unfolding erode_all
le_eros top F [] A p p' v o vt all = all p p' o (refl, refl)
le_eros top F (B ∷ Bs) A p p' v o vt all =
    le_eros top F Bs (erode top F B A) p p' v o vt (λ m m' om w. (erosion flat top F B A m v).1 (
      vt,
      λ q iq s.
          let oq = opposite_is F q iq in
          all q (opposite F q) oq (m', turned om oq s, opposite_in' om, w),
    ))

pub eros_le : (top : ℕ) (F : Frame) (Bs : List Shape) (A : Picture) (p p' q q' : Place) → Opposite F p p'
    → Opposite F q q'
    → Walk (In F) Bs q' p' → erode_all top F Bs A p.x p.y ≤ A q.x q.y
unfolding erode_all
eros_le top F [] A p p' q q' o o' w =
    let ex : p.x ≡ q.x = omega arith in
    let ey : p.y ≡ q.y = omega arith in
    subst₂ (λ (u v : ℕ). A p.x p.y ≤ A u v) ex ey (le_refl (A p.x p.y))
eros_le top F (B ∷ Bs) A p p' q q' o o' w =
    let om = opposite_of F w.0 w.2 in
    le_trans (eros_le top F Bs (erode top F B A) p p' (opposite F w.0) w.0 o om w.3)
    (erode_le flat top F B A (opposite F w.0) q (opposite_in o') (turned_back om o' w.1))
