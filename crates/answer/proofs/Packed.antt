-- A plain number stays itself when it is packed.
use Prim.Native.Nat.{ℕ, ◌^◌, ◌<◌}
use mathlib.Core.Path.{◌≡◌}
use mathlib.Core.Bool.{true, false}
use mathlib.Core.List.{List, [], ◌∷◌}
use native.Mathlib.Omega.{arith}
use lib.Dec.{lit<}
use Rattle.answer.specs.Answer.{plain}
use Rattle.answer.specs.Refuse.{Test, refuse}
use Rattle.answer.specs.Packed.{packed}

pub packed_plain : (n : ℕ) → packed (plain n) ≡ n
unfolding plain packed
packed_plain n = omega arith

-- ---- a refusal's number is a byte, and has no offset
abbrev pub Few : List Test → Type 0
Few [] = Unit {0}
Few (t ∷ ts) = (t.1 < 2 ^ 8) × Few ts

pub number_few : (ts : List Test) → Few ts → (refuse ts (plain 0)).number < 2 ^ 8
unfolding plain
number_few [] few = lit< tt
number_few ((true, n) ∷ ts) few = few.0
number_few ((false, n) ∷ ts) few = number_few ts few.1

pub number_packed : (ts : List Test) → packed (refuse ts (plain 0)) ≡ (refuse ts (plain 0)).number
unfolding plain
number_packed [] = packed_plain 0
number_packed ((true, n) ∷ ts) = packed_plain n
number_packed ((false, n) ∷ ts) = number_packed ts
