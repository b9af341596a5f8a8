-- Invariant: the first i bytes are joined with what the cell makes of those beside. Falls: the bytes left.
-- As `join_row`, over another function of two bytes.
use Rattle.rows.specs.Steps.Ways.{weigh_by}
use Rattle.rows.specs.Steps.Fold.{join_by}
use Rattle.basics.specs.Zip.{zip_in}
use lib.ListN.{length, take}
use Prim.Native.Nat.{◌≤◌}
use mathlib.Core.Path.{◌≡◌}
use Rattle.weighing.proofs.join_weighed.Given as goal

abbrev pub invariant-loop-i : goal.invariant-loop-i
invariant-loop-i l =
    (l.i ≤ length l.by) × (length l.t ≡ length l.initial.t)
    × (l.t ≡ zip_in (λ u v. join_by l.grows u (weigh_by l.grows l.g v)) l.initial.t (take l.i l.by))
