-- What demand 3 speaks of: the same on every picture in every frame,
-- and a lone echo that is dilated differently.
use Rattle.std.specs.Prelude.{ℕ, ◌≤◌, ◌≡◌, ◌&&◌, cond, List, eqb}
use Rattle.picture.specs.Frame.{Frame, most_pings, most_bins}
use Rattle.picture.specs.Bytes.{Picture}
use Rattle.element.specs.Shape.{Shape, Offset}
use Rattle.morphology.specs.Step.{Place, In, Plus}
use Rattle.morphology.specs.Order.{Bounded}
use Rattle.morphology.specs.Operations.{erode, dilate}
use Rattle.morphology.specs.Chain.{erode_all, dilate_all}

-- a frame within the limits
pub record Limits (F : Frame) : Type 0 where
  pub some_pings : 1 ≤ F.pings
  pub few_pings : F.pings ≤ most_pings
  pub some_bins : 1 ≤ F.bins
  pub few_bins : F.bins ≤ most_bins

-- in every frame, on every picture and at every point, the chain does what the element does
pub record Same (top : ℕ) (E : Shape) (Bs : List Shape) : Type 0 where
  pub dilated : (F : Frame) → Limits F → (A : Picture) → Bounded top F A → (p : Place) → In F p
      → dilate_all F Bs A p.x p.y ≡ dilate F E A p.x p.y
  pub eroded : (F : Frame) → Limits F → (A : Picture) → Bounded top F A → (p : Place) → In F p
      → erode_all top F Bs A p.x p.y ≡ erode top F E A p.x p.y

-- the picture of an echo of this strength at the point a, and 0 elsewhere
unfoldable pub lone : ℕ → Place → Picture
lone strength a x y = cond (eqb x a.x && eqb y a.y) strength 0

-- in some frame some lone echo of this strength is dilated differently,
-- at the echo's point moved by e, by the element and by the chain
pub record Differs (strength : ℕ) (E : Shape) (Bs : List Shape) (e : Offset) : Type 0 where
  pub frame : Frame
  pub limits : Limits frame
  pub echo : Place
  pub point : Place
  pub echo_in : In frame echo
  pub point_in : In frame point
  pub moved : Plus echo e point
  pub differ : ¬ (dilate_all frame Bs (lone strength echo) point.x point.y
      ≡ dilate frame E (lone strength echo) point.x point.y)
