-- Request (iv): "1, then 2 for the marker, 2 for the mask; 12 MARKER when a marker point
-- lies outside the mask; then 8".
use Rattle.std.specs.Prelude.{ℕ, List, [], ◌∷◌, ◌++◌}
use Rattle.answer.specs.Refuse.{Test}
use Rattle.picture.specs.declared.Depth.TheVariants.{OneBit}
use Rattle.picture.specs.Frame.{frame}
use Rattle.picture.specs.Points.{value_at}
use Rattle.judge.specs.Tests.{size_tests, source_tests, room_tests}
use Rattle.grown.specs.Marker.{outside}

-- MARKER, by the points alone: what stands in the padding never counts, in either
abbrev pub marker_tests : ℕ → ℕ → List ℕ → List ℕ → List Test
marker_tests w h marker mask = (outside (frame w h) (value_at OneBit mask w) (value_at OneBit marker w), 12)
    ∷ []

-- SIZE, SOURCE of the marker, SOURCE of the mask, MARKER, ROOM of a target of so many bytes
abbrev pub grow_tests : ℕ → ℕ → List ℕ → List ℕ → ℕ → List Test
grow_tests w h marker mask room =
    size_tests w h
    ++ (source_tests OneBit w h marker
    ++ (source_tests OneBit w h mask ++ (marker_tests w h marker mask ++ room_tests OneBit w h 0 room)))
