-- Offsets as places: (x, y) stands for (x - centre, y - centre).
-- Steps, walks, sums, paths and faults with no negative number,
-- so that what is asked of them is linear in ℕ. Bridge.antt shows that they say what Chain.antt says.
use Prim.Native.Nat.{◌+◌, ◌≤◌, ◌<◌, min, max}
use mathlib.Core.Path.{◌≡◌}
use mathlib.Core.Logic.{◌⊎◌}
use mathlib.Core.List.{List, [], ◌∷◌}
use Rattle.answer.specs.Answer.{centre}
use Rattle.element.specs.Shape.{Shape}
use Rattle.morphology.specs.Step.{Place, Step}
use Rattle.morphology.specs.Check.{still, Verdict, Taken, Split}

pub same_place : {p q : Place} → p.x ≡ q.x → p.y ≡ q.y → p ≡ q
same_place ex ey = λ i. record { x = ex i; y = ey i }

-- q = p + e
pub record Moved (e p q : Place) : Type 0 where
  pub across : q.x + centre ≡ p.x + e.x
  pub down : q.y + centre ≡ p.y + e.y

-- from p to q by a choice of one offset from each link, in order;
-- each place that is come to on the way lies inside
abbrev pub Walk : (Place → Type 0) → List Shape → Place → Place → Type 0
Walk inside [] p q = (p.x ≡ q.x) × (p.y ≡ q.y)
Walk inside (B ∷ Bs) p q = (m : Place) × Step B p m × inside m × Walk inside Bs m q

-- ---- sums, paths, faults

-- the element has the offset e
abbrev pub HasAt : Shape → Place → Type 0
HasAt E e = Step E still e

-- e is a sum of the chain
abbrev pub SumAt : List Shape → Place → Type 0
SumAt Bs e = Walk (λ s. Unit {0}) Bs still e

-- s lies between 0 and e in each coordinate, ends included
pub record BetweenAt (e s : Place) : Type 0 where
  pub left : min centre e.x ≤ s.x
  pub right : s.x ≤ max centre e.x
  pub upper : min centre e.y ≤ s.y
  pub lower : s.y ≤ max centre e.y

-- a choice with sum e, whose every partial sum lies between 0 and e
abbrev pub PathAt : List Shape → Place → Type 0
PathAt Bs e = Walk (BetweenAt e) Bs still e

pub data FaultAt (E : Shape) (Bs : List Shape) (e : Place) : Type 0 where
  missed_at : HasAt E e → ¬ PathAt Bs e → FaultAt E Bs e
  extra_at : ¬ HasAt E e → SumAt Bs e → FaultAt E Bs e

-- row order: lesser dy first, then lesser dx
abbrev pub BeforeAt : Place → Place → Type 0
BeforeAt d e = (d.y < e.y) ⊎ ((d.y ≡ e.y) × (d.x < e.x))

-- e is the first place of all with the property P
pub record FirstAt (P : Place → Type 0) (e : Place) : Type 0 where
  pub holds : P e
  pub none_before : (d : Place) → BeforeAt d e → ¬ P d

-- what a verdict says
abbrev pub SaysAt : Shape → List Shape → Verdict → Type 0
SaysAt E Bs Taken = (e : Place) → ¬ FaultAt E Bs e
SaysAt E Bs (Split x y) = FirstAt (FaultAt E Bs) (record { x = x; y = y })
