-- Invariant: the first i bytes have only the bits of both, the others as they were. Falls: the bytes left.
-- No byte is read after its own store.
use Prim.Native.Nat.{◌≤◌}
use mathlib.Core.Path.{◌≡◌}
use lib.ListN.{length, take}
use lib.Bits.{bit_and}
use Rattle.basics.specs.Zip.{zip_in}
use Rattle.hit.proofs.meet.Given as goal

abbrev pub invariant-loop-i : goal.invariant-loop-i
invariant-loop-i l =
    (l.i ≤ length l.by) × (length l.t ≡ length l.initial.t)
    × (l.t ≡ zip_in bit_and l.initial.t (take l.i l.by))
