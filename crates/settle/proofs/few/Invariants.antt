-- Invariant: v is the number of the first i bytes, each a digit of 8 bits.
-- What falls: the bytes that are left.
use Rattle.basics.specs.Bits.{digits}
use lib.ListN.{get_or}
use Prim.Native.Nat.{◌≤◌, ◌+◌}
use mathlib.Core.Path.{◌≡◌}
use Rattle.settle.proofs.few.Given as goal

abbrev pub invariant-loop-i : goal.invariant-loop-i
invariant-loop-i l = (l.i ≤ l.k) × (l.v ≡ digits 8 (λ i. get_or l.s (l.at + i) 0) l.i)
