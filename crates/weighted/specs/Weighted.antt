-- What a call of a weighted operation gives, by its source, its descriptor and the length of the shortest
-- buffer lent to be written. 8-bit pictures have no padding, so that PAD is not among its refusals.
use Rattle.std.specs.Prelude.{ℕ, List}
use Rattle.answer.specs.declared.Told.{Told}
use Rattle.answer.specs.Answer.{plain}
use Rattle.answer.specs.Refuse.{Test, refuse}
use Rattle.answer.specs.Lent.{unless_refused}
use Rattle.picture.specs.declared.Depth.TheVariants.{EightBit}
use Rattle.picture.specs.Frame.{Frame, frame}
use Rattle.picture.specs.Points.{value_at}
use Rattle.picture.specs.Bytes.{Picture, written}
use Rattle.element.specs.Shape.{Shape}
use Rattle.element.specs.Descriptor.{well_weighted, weighted_in}
use Rattle.judge.specs.declared.Padding.TheVariants.{Free}
use Rattle.judge.specs.Tests.{element_tests}

-- SIZE, SOURCE, SHAPE and ROOM
abbrev pub weighted_tests : ℕ → ℕ → List ℕ → List ℕ → ℕ → List Test
weighted_tests w h source descriptor room =
    element_tests Free EightBit w h source (well_weighted descriptor) room

-- the answer: the first refusal, or done
abbrev pub weighted_answer : ℕ → ℕ → List ℕ → List ℕ → ℕ → Told
weighted_answer w h source descriptor room = refuse (weighted_tests w h source descriptor room) (plain 0)

-- a buffer afterwards: as it was where the call is refused,
-- and else with what the operation makes of the source in it, and its further bytes
abbrev pub weighted_left : (Frame → Shape → Picture → Picture) → ℕ → ℕ → List ℕ → List ℕ → ℕ → List ℕ → List ℕ
weighted_left operation w h source descriptor room buffer =
    unless_refused (weighted_answer w h source descriptor room) buffer
    (written EightBit (operation (frame w h) (weighted_in descriptor) (value_at EightBit source w)) w h
    buffer)
