-- Invariant: the block is joined with what stands at the first j places. What falls: the places left.
-- Each place is read as far as the block goes, and there is room for it.
use Rattle.windows.specs.Steps.Places.{places_joined}
use lib.ListN.{length}
use Prim.Native.Nat.{◌≤◌}
use mathlib.Core.Path.{◌≡◌}
use Rattle.windows.proofs.join_places.Given as goal

abbrev pub invariant-loop-p : goal.invariant-loop-p
invariant-loop-p l =
    (l.p-index ≤ length l.fn.at) × (length l.acc ≡ 64)
    × (l.acc ≡ places_joined l.grows l.initial.acc l.b l.i l.fn.at l.p-index)
