-- Request (ii), once for both depths: white top-hat, black top-hat and gradient by a flat element.
-- Numbers are natural, so that `n - m` is 0 where m is the greater.
use Rattle.std.specs.Prelude.{ℕ, ◌-◌, ◌≡◌, pos}
use Rattle.std.proofs.Math.IntN.{sub_ℕ}
use Rattle.picture.specs.Frame.{Frame}
use Rattle.picture.specs.Bytes.{Picture}
use Rattle.element.specs.Shape.{Shape}
use Rattle.morphology.specs.Step.{Place, In, Has}
use Rattle.morphology.specs.Operations.{erode, dilate, opening, closing}

-- A less C: of 8 bits the difference held at 0, of one bit set difference
abbrev pub less : Picture → Picture → Picture
less A C x y = A x y - C x y

-- picture less opening
abbrev pub white_top_hat : ℕ → Frame → Shape → Picture → Picture
white_top_hat top F B A = less A (opening top F B A)

-- closing less picture
abbrev pub black_top_hat : ℕ → Frame → Shape → Picture → Picture
black_top_hat top F B A = less (closing top F B A) A

-- dilation less erosion
abbrev pub gradient : ℕ → Frame → Shape → Picture → Picture
gradient top F B A = less (dilate F B A) (erode top F B A)

-- nothing is held: at each point A less C is the difference of the integers, which is not below 0
abbrev pub NothingHeld : Frame → Picture → Picture → Type 0
NothingHeld F A C =
    (p : Place) → In F p → sub_ℕ (A p.x p.y) (C p.x p.y) ≡ pos (less A C p.x p.y)

-- the origin cell is set: the element has the offset (0, 0)
abbrev pub OriginSet : Shape → Type 0
OriginSet B = Has B (record { dx = pos 0; dy = pos 0 })
