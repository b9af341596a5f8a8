-- Invariant: the first i bytes are joined with those beside, the others as they were. Falls: the bytes left.
-- No byte is read after its own store.
use mathlib.Core.Path.{◌≡◌}
use Prim.Native.Nat.{◌≤◌}
use lib.ListN.{length, take}
use Rattle.basics.specs.Zip.{zip_in}
use Rattle.rows.specs.Steps.Fold.{join_by}
use Rattle.weighing.proofs.join_row.Given as goal

abbrev pub invariant-loop-i : goal.invariant-loop-i
invariant-loop-i l =
    (l.i ≤ length l.by) × (length l.t ≡ length l.initial.t)
    × (l.t ≡ zip_in (join_by l.grows) l.initial.t (take l.i l.by))
