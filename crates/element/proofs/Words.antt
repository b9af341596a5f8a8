-- Row words: the bytes of a row shifted in, and the cells read out.
use Prim.Native.Nat.{ℕ, ◌+◌, ◌<◌}
use mathlib.Core.Bool.{Bool, true, false, cond}
use mathlib.Core.List.{List}
use native.Mathlib.Omega.{arith}
use lib.Dec.{ltb}
use lib.ListN.{get_or}
use Rattle.basics.specs.Bytes.{Bytes}
use Rattle.element.specs.Steps.Words.{word_byte}

pub word_byte_lt : (d : List ℕ) → Bytes d → (at n j : ℕ) → word_byte d at n j < 256
unfolding word_byte
word_byte_lt d bytes at n j = by (ltb j n)
  where
    by : (b : Bool) → cond b (get_or d (at + j) 0) 0 < 256
    by true = bytes (at + j)
    by false = omega arith
