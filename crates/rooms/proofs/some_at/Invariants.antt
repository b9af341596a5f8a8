-- Invariant: the first i bytes are those of s from `at` on, the others 0. What falls: the bytes left.
-- No byte is read past the n that are asked for.
use Rattle.blocks.specs.Steps.Laid.{laid}
use lib.ListN.{length, get_or, replicate}
use Prim.Native.Nat.{◌+◌, ◌≤◌}
use mathlib.Core.Path.{◌≡◌}
use Rattle.rooms.proofs.some_at.Given as goal

abbrev pub invariant-loop-i : goal.invariant-loop-i
invariant-loop-i l =
    (l.i ≤ l.n) × (length l.c ≡ 64) × (l.c ≡ laid 0 l.i (λ i. get_or l.s (l.at + i) 0) (replicate 64 0))
