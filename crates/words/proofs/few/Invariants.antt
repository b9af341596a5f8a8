-- Invariant: v is the number of the first i bytes, 0 past the end. Falls: the bytes left.
-- One byte more at the low end each turn: `digits_more`.
use Prim.Native.Nat.{◌+◌, ◌≤◌}
use Rattle.basics.specs.Bits.{digits}
use lib.ListN.{get_or}
use mathlib.Core.Path.{◌≡◌}
use Rattle.words.proofs.few.Given as goal

abbrev pub invariant-loop-i : goal.invariant-loop-i
invariant-loop-i l = (l.i ≤ 8) × (l.v ≡ digits 8 (λ i. get_or l.s (l.at + i) 0) l.i)
