-- Invariant: the first y rows are the result's, the rest of the target is as it was. What falls: the rows
-- left.
-- Each turn is two rows more, the second of which is left joined by the first: `two_more`.
use Rattle.boxlaw.specs.Steps.Box.{boxed}
use Rattle.rows.proofs.Written.{rows_written}
use Rattle.picture.specs.declared.Depth.TheVariants.{OneBit}
use lib.ListN.{length}
use Prim.Native.Nat.{◌-◌, ◌≤◌}
use mathlib.Core.Path.{◌≡◌}
use mathlib.Core.Bool.{true}
use Rattle.rectangle.proofs.bits.Given as goal

abbrev pub invariant-loop-y : goal.invariant-loop-y
invariant-loop-y l =
    (l.y ≤ l.h) × (length l.t ≡ length l.initial.t) × (length l.b ≡ 200)
    × (l.t ≡ rows_written OneBit (boxed true l.grows l.s l.w l.h l.o) l.w l.initial.t l.y)

abbrev pub decreases-loop-y : goal.decreases-loop-y
decreases-loop-y l = l.h - l.y
