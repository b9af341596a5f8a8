-- How pictures compare in a frame,
-- and when what a cell does in erosion and what it does in dilation belong together.
use Rattle.std.specs.Prelude.{ℕ, ◌-◌, ◌≤◌, ◌≡◌, ◌↔◌}
use Rattle.picture.specs.Frame.{Frame}
use Rattle.picture.specs.Bytes.{Picture}
use Rattle.morphology.specs.Step.{Place, In}
use Rattle.morphology.specs.Operations.{Change}

-- A lies within C: of one bit, C is set where A is
abbrev pub LiesWithin : Frame → Picture → Picture → Type 0
LiesWithin F A C = (p : Place) → In F p → A p.x p.y ≤ C p.x p.y

-- A and C are the same picture
abbrev pub Alike : Frame → Picture → Picture → Type 0
Alike F A C = (p : Place) → In F p → A p.x p.y ≡ C p.x p.y

-- no value of the picture is above top
abbrev pub Bounded : ℕ → Frame → Picture → Type 0
Bounded top F A = (p : Place) → In F p → A p.x p.y ≤ top

-- a greater value does not become the lesser
abbrev pub Rising : Change → Type 0
Rising f = (g u v : ℕ) → u ≤ v → f g u ≤ f g v

-- a value up to top stays so
abbrev pub Holding : ℕ → Change → Type 0
Holding top f = (g v : ℕ) → v ≤ top → f g v ≤ top

-- the law of a cell that all laws of opening and closing come from
pub record Paired (top : ℕ) (lower raise : Change) : Type 0 where
  pub lower_rises : Rising lower
  pub raise_rises : Rising raise
  pub raise_holds : Holding top raise
  pub adjoint : (g c x : ℕ) → c ≤ top → x ≤ top → (raise g c ≤ x) ↔ (c ≤ lower g x)

-- to lower the complement is to complement the raised value
abbrev pub Mirrored : ℕ → Change → Change → Type 0
Mirrored top lower raise = (g v : ℕ) → v ≤ top → lower g (top - v) ≡ top - raise g v
