-- Invariant: the first i places hold their own number; the others are as they were.
-- What falls: the places that are left.
use Rattle.regions.specs.Steps.Union.{alone}
use lib.ListN.{length}
use mathlib.Core.Path.{◌≡◌}
use Prim.Native.Nat.{◌≤◌}
use Rattle.labels.proofs.part.Given as goal

abbrev pub invariant-loop-i : goal.invariant-loop-i
invariant-loop-i l = (l.i ≤ l.n) × (length l.up ≡ length l.initial.up) × (l.up ≡ alone l.initial.up l.i)
