-- Request (iv): "the points of the mask that can be reached from the marker by neighbouring steps inside it".
-- proofs/Growing.antt: they are the points of what the marker grows to.
use Rattle.std.specs.Prelude.{ℕ, ◌+◌, ◌≤◌, ◌≡◌, ◌⊎◌, List, [], ◌∷◌}
use Rattle.picture.specs.Frame.{Frame}
use Rattle.picture.specs.Bytes.{Picture}
use Rattle.morphology.specs.Step.{Place, In}
use Rattle.morphology.specs.Sets.{SetAt}
use Rattle.grown.specs.declared.Neighbours.{Neighbours}
use Rattle.grown.specs.declared.Neighbours.TheVariants.{Cross, Square}

-- at most one apart
abbrev pub Near : ℕ → ℕ → Type 0
Near a b = (a ≤ b + 1) × (b ≤ a + 1)

-- a neighbouring step, or none: with the cross along the row or along the column, with the square aslant too
abbrev pub Beside : Neighbours → Place → Place → Type 0
Beside Cross p q = ((p.x ≡ q.x) × Near p.y q.y) ⊎ (Near p.x q.x × (p.y ≡ q.y))
Beside Square p q = Near p.x q.x × Near p.y q.y

-- the places, one after another, are neighbouring steps from p to q inside the mask
abbrev pub JoinedBy : Neighbours → Frame → Picture → List Place → Place → Place → Type 0
JoinedBy neighbours F mask [] p q = p ≡ q
JoinedBy neighbours F mask (m ∷ ms) p q =
    Beside neighbours p m × In F m × SetAt mask m × JoinedBy neighbours F mask ms m q

-- p is a point of the mask, and such steps join it to a point of the marker
pub record Reached (neighbours : Neighbours) (F : Frame) (mask marker : Picture) (p : Place) : Type 0 where
  pub in_mask : SetAt mask p
  pub start : Place
  pub start_inside : In F start
  pub start_set : SetAt marker start
  pub steps : List Place
  pub joined : JoinedBy neighbours F mask steps p start
