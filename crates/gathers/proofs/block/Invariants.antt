-- Invariant: what stands at the first j places is joined, a block of it. What falls: the places left.
-- The first place is there from the start: a value joined with itself is itself.
use Rattle.rooms.proofs.Blocks.{places_at}
use Prim.Native.Nat.{◌-◌, ◌≤◌}
use mathlib.Core.Path.{◌≡◌}
use lib.ListN.{length}
use Rattle.gathers.proofs.block.Given as goal

abbrev pub invariant-loop-j : goal.invariant-loop-j
invariant-loop-j l =
    (1 ≤ l.j) × ((l.j ≤ length l.at) × ((length l.acc ≡ 64) × (l.acc ≡ places_at
    l.grows l.initial.acc l.s l.i l.at l.j)))
