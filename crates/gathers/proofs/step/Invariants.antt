-- Invariant: the first i places are set. What falls: the places left.
-- Each is in the list, and what it is made from in the source.
use Rattle.rows.specs.Steps.Fold.{start_by}
use Rattle.rooms.specs.Steps.Joined.{at_places}
use Rattle.gathers.specs.Steps.Gathered.{stepped}
use Prim.Native.Nat.{◌-◌, ◌*◌, ◌≤◌}
use mathlib.Core.Path.{◌≡◌}
use lib.ListN.{length}
use Rattle.gathers.proofs.step.Given as goal

abbrev pub invariant-loop-i : goal.invariant-loop-i
invariant-loop-i l =
    (l.i ≤ l.n) × ((length l.t ≡ length l.initial.t)
    × (l.t ≡ stepped l.a l.w l.i
    (λ i. at_places l.grows (start_by l.grows 255) l.s (i * l.w) l.at (length l.at)) l.initial.t))
