-- Invariant: the windows found lie within the run and cover its first c places. What falls: the places left.
-- The last window ends where the run ends, and may lie over the one before.
use Rattle.packedline.proofs.Runs.{RunSo}
use Prim.Native.Nat.{◌-◌, ◌≤◌, ◌<◌}
use Rattle.packedline.proofs.run_places.Given as goal

abbrev pub invariant-loop-c : goal.invariant-loop-c
invariant-loop-c l = (l.count ≤ l.c) × (l.c < l.wide) × RunSo l.n l.wide l.from l.c l.count l.at

abbrev pub decreases-loop-c : goal.decreases-loop-c
decreases-loop-c l = l.wide - l.c
