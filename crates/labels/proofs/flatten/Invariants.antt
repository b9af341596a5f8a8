-- Invariant: the first i places hold their root, as the definition has it; the others are as they were.
-- What falls: the places that are left.
use Rattle.regions.specs.Steps.Union.{flat_to}
use lib.ListN.{length}
use mathlib.Core.Path.{◌≡◌}
use Prim.Native.Nat.{◌≤◌}
use Rattle.labels.proofs.flatten.Given as goal

abbrev pub invariant-loop-i : goal.invariant-loop-i
invariant-loop-i l =
    (l.i ≤ l.n) × (length l.up ≡ length l.initial.up) × (l.up ≡ flat_to l.initial.up l.i)
