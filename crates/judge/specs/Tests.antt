-- Which refusals a picture gives, in document 01's order and with its numbers:
-- four lists of tests, and how calls join them.
use Rattle.std.specs.Prelude.{ℕ, ◌+◌, ◌≤◌, Bool, true, not, List, [], ◌∷◌, ◌++◌, ◌≡◌, eqb, ltb, length}
use Rattle.answer.specs.Refuse.{Test}
use Rattle.picture.specs.declared.Depth.{Depth}
use Rattle.picture.specs.Frame.{sized_frame, picture_bytes}
use Rattle.picture.specs.Bytes.{padding_clear}
use Rattle.judge.specs.declared.Padding.{Padding}
use Rattle.judge.specs.declared.Padding.TheVariants.{Judged, Free}

-- SIZE: W or H outside its range
abbrev pub size_tests : ℕ → ℕ → List Test
size_tests w h = (not (sized_frame w h), 1) ∷ []

-- SOURCE: source length not exactly as needed
abbrev pub source_tests : Depth → ℕ → ℕ → List ℕ → List Test
source_tests depth w h s = (not (eqb (length s) (picture_bytes depth w h)), 2) ∷ []

-- PAD: a padding bit of a one-bit source is 1; where the padding is free there is no such test
abbrev pub padding_tests : Padding → Depth → ℕ → ℕ → List ℕ → List Test
padding_tests Judged depth w h s = (not (padding_clear depth s w h), 3) ∷ []
padding_tests Free depth w h s = []

-- ROOM: the shortest buffer lent to be written is too
-- short for the picture and the bytes that stand before it
abbrev pub room_tests : Depth → ℕ → ℕ → ℕ → ℕ → List Test
room_tests depth w h before room = (ltb room (before + picture_bytes depth w h), 8) ∷ []

-- 1, 2, 3
abbrev pub picture_tests : Padding → Depth → ℕ → ℕ → List ℕ → List Test
picture_tests padding depth w h s =
    size_tests w h ++ (source_tests depth w h s ++ padding_tests padding depth w h s)

-- a picture by itself, and the room for it after `before` bytes: 1, 2, 3, 8
abbrev pub body_tests : Padding → Depth → ℕ → ℕ → List ℕ → ℕ → ℕ → List Test
body_tests padding depth w h s before room =
    picture_tests padding depth w h s ++ room_tests depth w h before room

-- an operation by one element, whose descriptor is well made or not: 1, 2, 3, SHAPE, ROOM
abbrev pub shape_tests : Bool → List Test
shape_tests made = (not made, 4) ∷ []

abbrev pub element_tests : Padding → Depth → ℕ → ℕ → List ℕ → Bool → ℕ → List Test
element_tests padding depth w h s made room =
    picture_tests padding depth w h s ++ (shape_tests made ++ room_tests depth w h 0 room)

-- the padding passes
abbrev pub passes : Padding → Depth → List ℕ → ℕ → ℕ → Bool
passes Judged depth s w h = padding_clear depth s w h
passes Free depth s w h = true

-- what an admitted picture is: its size, its bytes, its padding, and the room for it
pub record Admitted (padding : Padding) (depth : Depth)
    (w h : ℕ) (s : List ℕ) (before room : ℕ) : Type 0 where
  pub sized : sized_frame w h ≡ true
  pub whole : length s ≡ picture_bytes depth w h
  pub clear : passes padding depth s w h ≡ true
  pub roomy : before + picture_bytes depth w h ≤ room
