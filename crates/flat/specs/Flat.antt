-- What a call of a flat operation gives, by its source,
-- its descriptor and the length of the shortest buffer lent to be written.
use Rattle.std.specs.Prelude.{ℕ, List}
use Rattle.answer.specs.declared.Told.{Told}
use Rattle.answer.specs.Answer.{plain}
use Rattle.answer.specs.Refuse.{Test, refuse}
use Rattle.answer.specs.Lent.{unless_refused}
use Rattle.picture.specs.declared.Depth.{Depth}
use Rattle.picture.specs.Frame.{Frame, frame}
use Rattle.picture.specs.Points.{value_at}
use Rattle.picture.specs.Bytes.{Picture, written}
use Rattle.element.specs.Shape.{Shape}
use Rattle.element.specs.Descriptor.{well_made, shape_in}
use Rattle.judge.specs.declared.Padding.TheVariants.{Free}
use Rattle.judge.specs.Tests.{element_tests}

-- SIZE, SOURCE, SHAPE and ROOM: what stands in the source's padding is free
abbrev pub flat_tests : Depth → ℕ → ℕ → List ℕ → List ℕ → ℕ → List Test
flat_tests depth w h source descriptor room = element_tests Free depth w h source (well_made descriptor) room

-- the answer: the first refusal, or done
abbrev pub flat_answer : Depth → ℕ → ℕ → List ℕ → List ℕ → ℕ → Told
flat_answer depth w h source descriptor room = refuse (flat_tests depth w h source descriptor room) (plain 0)

-- a buffer afterwards: as it was where the call is refused,
-- and else with what the operation makes of the source in it, and its further bytes
abbrev pub flat_left : Depth → (Frame → Shape → Picture → Picture) → ℕ → ℕ → List ℕ → List ℕ → ℕ → List ℕ
    → List ℕ
flat_left depth operation w h source descriptor room buffer =
    unless_refused (flat_answer depth w h source descriptor room) buffer
    (written depth (operation (frame w h) (shape_in descriptor) (value_at depth source w)) w h buffer)
