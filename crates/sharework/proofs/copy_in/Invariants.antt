-- Invariant: the first i bytes of d stand at their place, and the rest is as it was.
-- The place after them is i further on, within the share.
use lib.ListN.{length}
use Prim.Native.Nat.{◌≤◌}
use mathlib.Core.Path.{◌≡◌}
use lib.Seq.{paste}
use Rattle.sharework.proofs.copy_in.Given as goal

abbrev pub invariant-loop-i : goal.invariant-loop-i
invariant-loop-i l =
    (l.i ≤ length l.d) × (length l.s ≡ length l.initial.s) × (l.s ≡ paste l.initial.s l.at l.d l.i)
