-- Request (v): "weighted opening then never exceeds the picture and closing never falls below it".
use Rattle.std.specs.Prelude.{ℕ, ◌≤◌, ◌<◌, List}
use Rattle.answer.specs.Refuse.{Test, NoneHolds}
use Rattle.picture.specs.declared.Depth.TheVariants.{EightBit}
use Rattle.picture.specs.declared.Point.{Point}
use Rattle.picture.specs.Points.{value_at}
use Rattle.picture.specs.Bytes.{Picture}

-- where nothing is refused, the bytes are at no point of the W x H frame above the picture A
abbrev pub NeverExceeds : List Test → ℕ → ℕ → List ℕ → Picture → Type 0
NeverExceeds tests w h bytes A =
    NoneHolds tests → (p : Point) → p.ping.0 < w → p.bin.0 < h
    → value_at EightBit bytes w p.ping.0 p.bin.0 ≤ A p.ping.0 p.bin.0

-- and at none below it
abbrev pub NeverBelow : List Test → ℕ → ℕ → List ℕ → Picture → Type 0
NeverBelow tests w h bytes A =
    NoneHolds tests → (p : Point) → p.ping.0 < w → p.bin.0 < h
    → A p.ping.0 p.bin.0 ≤ value_at EightBit bytes w p.ping.0 p.bin.0
