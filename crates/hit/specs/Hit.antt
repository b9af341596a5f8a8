-- What a call of hit-or-miss gives, by its source, its two descriptors and the length of its target.
use Rattle.std.specs.Prelude.{ℕ, Bool, not, List, [], ◌∷◌, ◌++◌}
use Rattle.answer.specs.declared.Told.{Told}
use Rattle.answer.specs.Answer.{plain}
use Rattle.answer.specs.Refuse.{Test, refuse}
use Rattle.answer.specs.Lent.{unless_refused}
use Rattle.picture.specs.declared.Depth.TheVariants.{OneBit}
use Rattle.picture.specs.Frame.{frame}
use Rattle.picture.specs.Points.{value_at}
use Rattle.picture.specs.Bytes.{written}
use Rattle.element.specs.Descriptor.{well_made, shape_in}
use Rattle.morphology.specs.Operations.{hit_miss}
use Rattle.morphology.specs.Overlap.{shared}
use Rattle.judge.specs.declared.Padding.TheVariants.{Free}
use Rattle.judge.specs.Tests.{picture_tests, room_tests}

-- SHAPE, hit before miss, and OVERLAP
abbrev pub pair_tests : Bool → Bool → Bool → List Test
pair_tests hit miss overlap = (not hit, 4) ∷ (not miss, 4) ∷ (overlap, 5) ∷ []

-- SIZE, SOURCE; these; ROOM
abbrev pub hit_tests : ℕ → ℕ → List ℕ → List ℕ → List ℕ → ℕ → List Test
hit_tests w h s hit miss room =
    picture_tests Free OneBit w h s
    ++ (pair_tests (well_made hit) (well_made miss) (shared (shape_in hit) (shape_in miss))
    ++ room_tests OneBit w h 0 room)

-- the answer: the first refusal, or done
abbrev pub hit_answer : ℕ → ℕ → List ℕ → List ℕ → List ℕ → ℕ → Told
hit_answer w h s hit miss room = refuse (hit_tests w h s hit miss room) (plain 0)

-- the target afterwards: as it was where the call is refused,
-- and else with hit-or-miss of the source in it, and its further bytes
abbrev pub hit_left : ℕ → ℕ → List ℕ → List ℕ → List ℕ → ℕ → List ℕ → List ℕ
hit_left w h s hit miss room target =
    unless_refused (hit_answer w h s hit miss room) target
    (written OneBit (hit_miss (frame w h) (shape_in hit) (shape_in miss) (value_at OneBit s w)) w h target)
