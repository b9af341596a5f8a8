-- A flat result is within the depth of its source.
use Prim.Native.Nat.{ℕ}
use mathlib.Core.Bool.{Bool, true, false}
use Rattle.picture.specs.Frame.{Frame}
use Rattle.picture.specs.Bytes.{Picture}
use Rattle.element.specs.Shape.{Shape}
use Rattle.morphology.specs.Operations.{flat}
use Rattle.morphology.specs.Order.{Bounded}
use Rattle.morphology.proofs.Order.{erode_bounded, dilate_bounded}
use Rattle.rows.specs.Steps.Ways.{swept_by}

pub swept_bounded : (grows : Bool) (top : ℕ) (F : Frame) (B : Shape) (A : Picture) → Bounded top F A
    → Bounded top F (swept_by grows flat top F B A)
swept_bounded true top F B A b = dilate_bounded flat top F B A (λ g v h. h) b
swept_bounded false top F B A b = erode_bounded flat top F B A
