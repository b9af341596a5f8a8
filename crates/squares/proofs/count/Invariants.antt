-- Invariant: v bits are set in the first i bytes.
-- What falls: the bytes left.
use Prim.Native.Nat.{◌+◌, ◌*◌, ◌≤◌}
use mathlib.Core.Path.{◌≡◌}
use lib.Count.{ones}
use lib.ListN.{length, get_or}
use Rattle.morphology.specs.Operations.{fold}
use Rattle.squares.proofs.count.Given as goal

abbrev pub invariant-loop-b : goal.invariant-loop-b
invariant-loop-b l =
    (l.b-index ≤ length l.fn.t) × (l.v ≤ 8 * l.b-index)
    × (l.v ≡ fold ◌+◌ 0 (λ i. ones (get_or l.fn.t i 0)) l.b-index)
