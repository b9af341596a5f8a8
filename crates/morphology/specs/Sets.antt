-- One-bit operations in document 01's own words, with offsets as integers: pictures as sets of points.
-- proofs/Sets.antt: they are the definitions with top 1.
use Rattle.std.specs.Prelude.{◌≡◌}
use Rattle.picture.specs.Frame.{Frame}
use Rattle.picture.specs.Bytes.{Picture}
use Rattle.element.specs.Shape.{Shape, Offset}
use Rattle.morphology.specs.Step.{Place, In, Has, Plus}

-- a set of points
abbrev pub Points : Type 1
Points = Place → Type 0

-- the points that are set in A
abbrev pub SetAt : Picture → Points
SetAt A p = A p.x p.y ≡ 1

-- A is set at p + b for every b in B with p + b in the frame
abbrev pub Eroded : Frame → Shape → Points → Points
Eroded F B A p = (b : Offset) → Has B b → (q : Place) → Plus p b q → In F q → A q

-- some b in B has p - b in the frame and set in A
pub record Dilated (F : Frame) (B : Shape) (A : Points) (p : Place) : Type 0 where
  pub offset : Offset
  pub has : Has B offset
  pub source : Place
  pub moved : Plus source offset p
  pub inside : In F source
  pub set : A source

-- opening is erosion, then dilation by the same B; closing is dilation, then erosion
abbrev pub Opened : Frame → Shape → Points → Points
Opened F B A = Dilated F B (Eroded F B A)

abbrev pub Closed : Frame → Shape → Points → Points
Closed F B A = Eroded F B (Dilated F B A)

-- the erosion of A by B has p, and the erosion of A's complement, within the frame, by C has p
abbrev pub Hit : Frame → Shape → Shape → Points → Points
Hit F B C A p = Eroded F B A p × Eroded F C (λ q. ¬ A q) p
