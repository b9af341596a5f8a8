-- A box in parts is accepted: no offset is at fault.
use Prim.Native.Nat.{ℕ, ◌+◌, ◌-◌, ◌≤◌, min, max}
use mathlib.Core.Path.{◌≡◌, refl}
use mathlib.Core.Logic.{inl, inr, ⊎_elim}
use mathlib.Core.List.{List}
use native.Mathlib.Omega.{arith}
use Rattle.answer.specs.Answer.{centre}
use Rattle.element.specs.Shape.{Shape}
use Rattle.morphology.specs.Step.{Place}
use Rattle.morphology.specs.Chain.{Chained}
use Rattle.morphology.specs.Check.{still, Verdict, Taken, Split, check_of}
use Rattle.morphology.proofs.Places.{FaultAt, missed_at, extra_at, SaysAt}
use Rattle.morphology.proofs.Scan.{check_says_at}
use Rattle.hulls.specs.declared.Side.{Side}
use Rattle.hulls.specs.Hull.{side_of}
use Rattle.chainlaw.specs.Boxes.{Filled}
use Rattle.chainlaw.proofs.Parts.{rest_all, le_or, Leads, Way}
use Rattle.chainlaw.proofs.Walks.{PartsFrom, Ended, end_of, walk_leads, path_there}

-- a side with what it was counted from added again
pub record Adds (o f l : ℕ) (S : Side) : Type 0 where
  pub origin : S.origin + min o f ≡ o
  pub first : S.first + min o f ≡ f
  pub last : S.last + min o f ≡ l
  pub span : S.span + min o f ≡ max o l

pub side_adds : (o f l : ℕ) → f ≤ l → Adds o f l (side_of o f l)
unfolding side_of
side_adds o f l h =
    record { origin = omega arith; first = omega arith; last = omega arith; span = omega arith }

-- an offset e of a cell x from the origin o, as a place
leads : (o f l x q : ℕ) (S : Side) → Adds o f l S → f ≤ x → x ≤ l → q + o ≡ centre + x → Leads S 0 centre q
leads o f l x q S a hf hl e =
    let u = rest_all S.first in
    let v = rest_all S.origin in
    let w = rest_all S.last in
    let ao = a.origin in
    let af = a.first in
    let al = a.last in
    record { least = omega (arith, u, v, ao, af, hf, e); most = omega (arith, v, w, ao, al, hl, e) }

way : (q : ℕ) (S : Side) → Leads S 0 centre q → Way S q centre
way q S l =
    let u = rest_all S.first in
    let v = rest_all S.origin in
    let w = rest_all S.last in
    ⊎_elim (λ h. inl (omega (arith, v, w, l.most, h), omega arith, h))
    (λ h. inr (omega (arith, u, v, l.least, h), omega (arith, h), omega arith)) (le_or centre q)

-- and back: the cell of an offset that the box leads to
back : (o f l q : ℕ) (S : Side) → Adds o f l S → Leads S 0 centre q
    → (x : ℕ) × (q + o ≡ centre + x) × (f ≤ x) × (x ≤ l)
back o f l q S a h =
    let u = rest_all S.first in
    let v = rest_all S.origin in
    let w = rest_all S.last in
    let ao = a.origin in
    let af = a.first in
    let al = a.last in
    let low : centre + f ≤ q + o = omega (arith, u, v, ao, af, h.least) in
    let high : q + o ≤ centre + l = omega (arith, v, w, ao, al, h.most) in
    let x = q + o - centre in
    let e : q + o ≡ centre + x = omega (arith, low) in
    (x, e, omega (arith, e, low), omega (arith, e, high))

module _ (E : Shape) (c d r s : ℕ) (F : Filled E c d r s) (X Y : Side)
    (ax : Adds E.origin_column c d X) (ay : Adds E.origin_row r s Y)
    (Bs : List Shape) (P : PartsFrom X Y 0 Bs) (n : Ended X Y (end_of X Y 0 Bs)) (C : Chained E Bs) where
  none : (e : Place) → ¬ FaultAt E Bs e
  none e (missed_at k np) =
      let z = k.cell in
      let u = F.unset z.column z.row z.in_width z.in_height z.set in
      let lx = leads _ _ _ _ e.x X ax u.0 u.1 k.across in
      let ly = leads _ _ _ _ e.y Y ay u.2 u.3 k.down in
      np (path_there X Y (omega (arith, ax.first, ax.last, F.across)) (omega
      (arith, ay.first, ay.last, F.down))
      Bs 0 still e P n (way e.x X lx) (way e.y Y ly) lx ly)
  none e (extra_at nh w) =
      let l = walk_leads X Y (λ m. Unit {0}) Bs 0 still e P n w in
      let x = back _ _ _ e.x X ax l.0 in
      let y = back _ _ _ e.y Y ay l.1 in
      nh (record {
        cell = record {
          column = x.0;
          row = y.0;
          in_width = omega (arith, x.3, F.right);
          in_height = omega (arith, y.3, F.lower);
          set = F.set x.0 y.0 x.2 x.3 y.2 y.3;
        };
        across = x.1;
        down = y.1;
      })

  pub box_taken : check_of E Bs ≡ Taken
  box_taken = by (check_of E Bs) (check_says_at E Bs C)
    where
      by : (v : Verdict) → SaysAt E Bs v → v ≡ Taken
      by Taken h = refl
      by (Split x y) h = absurd (none _ h.holds)
