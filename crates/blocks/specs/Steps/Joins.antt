-- Two packed bytes joined, eight points at once, as dilation, which grows, or erosion takes them.
use Rattle.std.specs.Prelude.{ℕ, Bool, true, false}
use Rattle.std.specs.Int.Bits.{bit_or, bit_and}

abbrev pub join_packed : Bool → ℕ → ℕ → ℕ
join_packed true = bit_or
join_packed false = bit_and
