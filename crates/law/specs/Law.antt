-- Request (ix): the law behind the frame rule and what follows from it, stated once over what a cell does
-- with a value: `lower` in erosion, `raise` in dilation. `top` is the greatest value of a point.
use Rattle.std.specs.Prelude.{ℕ, ◌↔◌}
use Rattle.picture.specs.Frame.{Frame}
use Rattle.picture.specs.Bytes.{Picture}
use Rattle.element.specs.Shape.{Shape}
use Rattle.morphology.specs.Operations.{Change, flat, erode_by, dilate_by, open_by, close_by}
use Rattle.morphology.specs.Weighted.{lower, raise}
use Rattle.morphology.specs.Order.{LiesWithin, Alike, Bounded}

-- the law: C dilated lies within X exactly when C lies within X eroded
abbrev pub Law : Change → Change → ℕ → Frame → Shape → Type 0
Law lower raise top F B =
    (C X : Picture) → Bounded top F C → Bounded top F X
    → LiesWithin F (dilate_by raise F B C) X ↔ LiesWithin F C (erode_by lower top F B X)

-- D is dilated: it is what dilation makes of some picture
pub record Dilated (raise : Change) (top : ℕ) (F : Frame) (B : Shape) (D : Picture) : Type 0 where
  pub from : Picture
  pub bounded : Bounded top F from
  pub made : Alike F D (dilate_by raise F B from)

-- E is eroded: it is what erosion makes of some picture
pub record Eroded (lower : Change) (top : ℕ) (F : Frame) (B : Shape) (E : Picture) : Type 0 where
  pub from : Picture
  pub bounded : Bounded top F from
  pub made : Alike F E (erode_by lower top F B from)

-- O is the greatest dilated picture within X: it is dilated, it lies within X,
-- and every dilated picture within X lies within it
pub record GreatestDilated (raise : Change) (top : ℕ) (F : Frame) (B : Shape) (X O : Picture) : Type 0 where
  pub dilated : Dilated raise top F B O
  pub inside : LiesWithin F O X
  pub greatest : (D : Picture) → Dilated raise top F B D → LiesWithin F D X → LiesWithin F D O

-- K is the least eroded picture that contains X: it is eroded, it contains X,
-- and every eroded picture that contains X contains it
pub record LeastEroded (lower : Change) (top : ℕ) (F : Frame) (B : Shape) (X K : Picture) : Type 0 where
  pub eroded : Eroded lower top F B K
  pub contains : LiesWithin F X K
  pub least : (E : Picture) → Eroded lower top F B E → LiesWithin F X E → LiesWithin F K E

-- the law, and its consequences for opening and closing
pub record Lawful (lower raise : Change) (top : ℕ) (F : Frame) (B : Shape) : Type 0 where
  pub law : Law lower raise top F B
  pub opening_greatest : (X : Picture) → Bounded top F X
      → GreatestDilated raise top F B X (open_by lower raise top F B X)
  pub closing_least : (X : Picture) → Bounded top F X
      → LeastEroded lower top F B X (close_by lower raise top F B X)
  pub opening_twice : (X : Picture) → Bounded top F X
      → Alike F (open_by lower raise top F B (open_by lower raise top F B X)) (open_by lower raise top F B X)
  pub closing_twice : (X : Picture) → Bounded top F X
      → Alike F (close_by lower raise top F B (close_by lower raise top F B X))
      (close_by lower raise top F B X)

-- of flat elements at one bit, of flat elements at 8 bits, and of weighted ones
abbrev pub OneBitLaw : Type 0
OneBitLaw = (F : Frame) (B : Shape) → Lawful flat flat 1 F B

abbrev pub EightBitLaw : Type 0
EightBitLaw = (F : Frame) (B : Shape) → Lawful flat flat 255 F B

abbrev pub WeightedLaw : Type 0
WeightedLaw = (F : Frame) (B : Shape) → Lawful lower raise 255 F B
