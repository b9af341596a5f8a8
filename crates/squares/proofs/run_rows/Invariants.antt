-- Invariant: the first y rows are made, the rest of the buffer is as it was. What falls: the rows left.
-- A row is made from itself alone, which no turn before has written.
use Prim.Native.Nat.{◌≤◌}
use mathlib.Core.Path.{◌≡◌}
use lib.ListN.{length}
use Rattle.picture.specs.declared.Depth.TheVariants.{OneBit}
use Rattle.picture.specs.Frame.{frame}
use Rattle.picture.specs.Points.{value_at}
use Rattle.morphology.specs.Operations.{flat}
use Rattle.rows.specs.Steps.Ways.{swept_by}
use Rattle.rows.proofs.Written.{rows_written}
use Rattle.sizes.specs.Spectrum.{rect}
use Rattle.squares.proofs.run_rows.Given as goal

abbrev pub invariant-loop-y : goal.invariant-loop-y
invariant-loop-y l =
    (l.y ≤ l.h) × (length l.t ≡ length l.initial.t)
    × (l.t ≡ rows_written OneBit
    (swept_by l.grows flat 1 (frame l.w l.h) (rect l.k 1) (value_at OneBit l.initial.t l.w)) l.w
    l.initial.t l.y)
