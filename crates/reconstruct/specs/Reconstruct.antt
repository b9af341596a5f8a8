-- What a call of reconstruction gives, by its marker, its mask and the length of its target.
use Rattle.std.specs.Prelude.{ℕ, List, length}
use Rattle.answer.specs.declared.Told.{Told}
use Rattle.answer.specs.Answer.{plain}
use Rattle.answer.specs.Refuse.{Test, refuse}
use Rattle.answer.specs.Lent.{unless_refused}
use Rattle.picture.specs.declared.Depth.TheVariants.{OneBit}
use Rattle.picture.specs.Frame.{frame}
use Rattle.picture.specs.Points.{value_at}
use Rattle.picture.specs.Bytes.{written}
use Rattle.grown.specs.declared.Neighbours.{Neighbours}
use Rattle.grown.specs.Grown.{grown}
use Rattle.marker.specs.Tests.{grow_tests}

-- SIZE, SOURCE of the marker, SOURCE of the mask, MARKER, ROOM: what stands in the padding of either is free
abbrev pub reconstruct_tests : ℕ → ℕ → List ℕ → List ℕ → ℕ → List Test
reconstruct_tests w h marker mask room = grow_tests w h marker mask room

-- the answer: the first refusal, or done
abbrev pub reconstruct_answer : ℕ → ℕ → List ℕ → List ℕ → ℕ → Told
reconstruct_answer w h marker mask room = refuse (reconstruct_tests w h marker mask room) (plain 0)

-- the target afterwards: as it was where the call is refused, and else with what the marker grows to in it,
-- and its further bytes
abbrev pub reconstruct_left : Neighbours → ℕ → ℕ → List ℕ → List ℕ → List ℕ → List ℕ
reconstruct_left neighbours w h marker mask target =
    unless_refused (reconstruct_answer w h marker mask (length target)) target
    (written OneBit (grown neighbours (frame w h) (value_at OneBit mask w) (value_at OneBit marker w))
    w h target)
