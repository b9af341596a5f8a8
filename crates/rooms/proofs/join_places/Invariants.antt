-- Invariant: the block is joined with what stands at the first places, those before the next one.
-- Each place is read as far as the block goes, and there is room for it.
use Rattle.rooms.specs.Steps.Lanes.{places_joined}
use lib.ListN.{length}
use mathlib.Core.Path.{◌≡◌}
use Rattle.rooms.proofs.join_places.Given as goal

abbrev pub invariant-loop-p : goal.invariant-loop-p
invariant-loop-p g l =
    (length l.acc ≡ 64)
    × (l.acc ≡ places_joined g.L.Lane.way l.grows l.initial.acc l.b l.i l.at l.p-index)
