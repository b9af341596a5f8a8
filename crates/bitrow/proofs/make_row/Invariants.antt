-- Invariant: the points of the row are what the first r rows of the element make of the start. Falls: the
-- rows left.
-- It starts from all 0 or all 1, each turn is one row more from the source; the padding is cleared at the
-- end.
use Rattle.bitrow.proofs.Row.{Made}
use lib.ListN.{length}
use Prim.Native.Nat.{◌≤◌}
use mathlib.Core.Path.{◌≡◌}
use Rattle.bitrow.proofs.make_row.Given as goal

abbrev pub invariant-loop-r : goal.invariant-loop-r
invariant-loop-r l =
    (l.r ≤ l.o.h) × (length l.t ≡ length l.initial.t) × Made l.k l.s l.w l.h l.o l.words l.y.0 l.r l.t
