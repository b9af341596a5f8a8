-- Invariant: in the first k blocks stands what was gathered, and b is as it was from there on. Falls: the
-- blocks left.
-- In place, as `widen`: the same lemma, of another function on bytes.
use Rattle.windows.specs.Steps.Widened.{widened_by}
use Rattle.windows.specs.Steps.Places.{gathered_at}
use lib.ListN.{length}
use Prim.Native.Nat.{◌≤◌}
use mathlib.Core.Path.{◌≡◌}
use Rattle.windows.proofs.gather.Given as goal

abbrev pub invariant-loop-k : goal.invariant-loop-k
invariant-loop-k l =
    (l.k ≤ l.n) × (length l.b ≡ length l.initial.b)
    × (l.b ≡ widened_by (gathered_at l.grows l.at) l.k l.initial.b)
