-- Invariant: the windows found lie within the run and cover its first c places, and from here on the windows
-- are found that were to be found from the start. What falls: the places left. The last ends with the run.
use Rattle.packedline.proofs.Runs.{RunSo}
use Rattle.strokes.specs.Steps.Places.{run_from}
use Prim.Native.Nat.{◌-◌, ◌≤◌, ◌<◌}
use mathlib.Core.Path.{◌≡◌}
use Rattle.strokes.proofs.run_places.Given as goal

abbrev pub invariant-loop-c : goal.invariant-loop-c
invariant-loop-c l =
    (l.count ≤ l.c) × (l.c < l.wide) × RunSo l.n l.wide l.from l.c l.count l.at
    × (run_from l.n l.wide l.from 64 0 0 l.initial.at
    ≡ run_from l.n l.wide l.from (64 - l.count) l.c l.count l.at)

abbrev pub decreases-loop-c : goal.decreases-loop-c
decreases-loop-c l = l.wide - l.c
