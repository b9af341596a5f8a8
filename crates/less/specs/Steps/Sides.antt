-- How one picture is made less another: byte beside byte, and which of the two is taken away.
use Rattle.std.specs.Prelude.{ℕ, ◌-◌}
use Rattle.std.specs.Int.Bits.{bit_and}
use Rattle.picture.specs.declared.Depth.{Depth}
use Rattle.picture.specs.declared.Depth.TheVariants.{OneBit, EightBit}
use Rattle.picture.specs.Bytes.{Picture}
use Rattle.morphology.specs.TopHats.{less}
use Rattle.less.specs.declared.From.{From}
use Rattle.less.specs.declared.From.TheVariants.{Target, Other}

-- a byte that is one value, or one that is eight points
abbrev pub less_byte : Depth → ℕ → ℕ → ℕ
less_byte EightBit a b = a - b
less_byte OneBit a b = bit_and a (255 - b)

-- byte t of the target and byte s of the other, in their order
abbrev pub less_by : Depth → From → ℕ → ℕ → ℕ
less_by depth Target t s = less_byte depth t s
less_by depth Other t s = less_byte depth s t

-- the picture T of the target and the picture S of the other, in their order
abbrev pub less_from : From → Picture → Picture → Picture
less_from Target T S = less T S
less_from Other T S = less S T
