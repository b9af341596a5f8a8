-- Invariant: no bit of the bytes before i, the last not among them, stands where the other has none.
-- What falls: the bytes that are left; one that is not within ends the loop.
use Rattle.marker.specs.Steps.Bytes.{byte_within_at}
use Rattle.basics.specs.Tests.{all}
use Prim.Native.Nat.{◌+◌, ◌≤◌}
use mathlib.Core.Bool.{true}
use mathlib.Core.Path.{◌≡◌}
use Rattle.marker.proofs.row_within.Given as goal

abbrev pub invariant-loop-i : goal.invariant-loop-i
invariant-loop-i l = (l.i ≤ l.last) × (all (λ j. byte_within_at l.a l.b 0 (l.at + j)) l.i ≡ true)
