-- Invariant: t holds runs of a rows.
-- What falls: how many rows they lack.
use Prim.Native.Nat.{◌-◌, ◌≤◌}
use mathlib.Core.Path.{◌≡◌}
use lib.ListN.{length}
use Rattle.rowruns.proofs.Stepped.{run_of}
use Rattle.rowruns.proofs.runs.Given as goal

abbrev pub invariant-loop-a : goal.invariant-loop-a
invariant-loop-a l =
    (1 ≤ l.a) × (l.a ≤ l.k) × (length l.t ≡ length l.initial.t)
    × (l.t ≡ run_of l.grows l.n l.h l.initial.t l.a)

abbrev pub decreases-loop-a : goal.decreases-loop-a
decreases-loop-a l = l.k - l.a
