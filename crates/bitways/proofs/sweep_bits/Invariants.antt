-- Invariant: the first y rows are the result's, the rest of the buffer is as it was. Falls: the rows left.
-- Each turn writes row y from the source, which is no part of what is written.
use Rattle.rows.proofs.Written.{rows_written}
use Rattle.bitrow.specs.Steps.Row.{swept_bits}
use Rattle.picture.specs.declared.Depth.TheVariants.{OneBit}
use lib.ListN.{length}
use Prim.Native.Nat.{◌-◌, ◌≤◌}
use mathlib.Core.Path.{◌≡◌}
use Rattle.bitways.proofs.sweep_bits.Given as goal

abbrev pub invariant-loop-y : goal.invariant-loop-y
invariant-loop-y l =
    (l.y ≤ l.h) × (length l.t ≡ length l.initial.t)
    × (l.t ≡ rows_written OneBit (swept_bits l.k l.s l.w l.h l.o l.words) l.w l.initial.t l.y)
