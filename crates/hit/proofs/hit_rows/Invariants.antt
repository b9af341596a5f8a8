-- Invariant: the first y rows are the result's, the rest of the buffer is as it was. Falls: the rows left.
-- Each turn writes row y from the source, which is no part of what is written.
use Rattle.rows.proofs.Written.{rows_written}
use Rattle.hit.specs.Steps.Rows.{hit_at}
use Rattle.picture.specs.declared.Depth.TheVariants.{OneBit}
use lib.ListN.{length}
use Prim.Native.Nat.{◌≤◌}
use mathlib.Core.Path.{◌≡◌}
use Rattle.hit.proofs.hit_rows.Given as goal

abbrev pub invariant-loop-y : goal.invariant-loop-y
invariant-loop-y l =
    (l.y ≤ l.h) × (length l.t ≡ length l.initial.t)
    × (l.t ≡ rows_written OneBit (hit_at l.s l.w l.h l.hit l.hits l.miss l.misses) l.w l.initial.t l.y)
