-- What the demands on chains speak of.
use Rattle.std.specs.Prelude.{ℕ, ◌≤◌, not, List, [], ◌∷◌, ◌++◌}
use Rattle.answer.specs.declared.Told.{Told}
use Rattle.answer.specs.Refuse.{Test, NoneHolds}
use Rattle.picture.specs.declared.Depth.{Depth}
use Rattle.picture.specs.Frame.{top}
use Rattle.element.specs.Shape.{Offset}
use Rattle.element.specs.Descriptor.{shape_in}
use Rattle.morphology.specs.Check.{check_of}
use Rattle.morphology.specs.Worked.{taken_by}
use Rattle.judge.specs.declared.Padding.TheVariants.{Free}
use Rattle.judge.specs.Tests.{picture_tests, room_tests}
use Rattle.chain.specs.Reading.{check_tests, links_in}

-- a well-made element and chain: no refusal before SPLIT holds
abbrev pub WellMade : List ℕ → ℕ → List ℕ → Type 0
WellMade element k chain = NoneHolds (check_tests element k chain)

-- the strengths of an echo at a depth: from 1 to the greatest value
pub record Strength (depth : Depth) (strength : ℕ) : Type 0 where
  pub some : 1 ≤ strength
  pub most : strength ≤ top depth

-- SPLIT with its dx and dy
abbrev pub split_at : Offset → Told
split_at e = record { number = 7; dx = e.dx; dy = e.dy }

-- the tests of the check: the element's 4, those of the chain, and last SPLIT, where an offset is at fault
abbrev pub split_tests : List ℕ → ℕ → List ℕ → List Test
split_tests element k chain =
    check_tests element k chain ++ ((not (taken_by (check_of (shape_in element) (links_in k chain))), 7) ∷ [])

-- the tests of a chained run, in document 01's order: 1, 2, those of the check, ROOM
abbrev pub run_tests : Depth → ℕ → ℕ → List ℕ → List ℕ → ℕ → List ℕ → ℕ → List Test
run_tests depth w h source element k chain room =
    picture_tests Free depth w h source ++ (split_tests element k chain ++ room_tests depth w h 0 room)
