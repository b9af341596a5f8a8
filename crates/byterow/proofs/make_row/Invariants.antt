-- Invariant: the row is what the first r rows of the element make of the start. What falls: the rows left.
-- It starts from 0 or 255 alone, and each turn is one row more, from the source and not from the row.
use Rattle.byterow.proofs.Row.{bytes_after}
use lib.ListN.{length}
use Prim.Native.Nat.{◌≤◌}
use mathlib.Core.Path.{◌≡◌}
use Rattle.byterow.proofs.make_row.Given as goal

abbrev pub invariant-loop-r : goal.invariant-loop-r
invariant-loop-r l =
    (l.r ≤ l.o.h) × (length l.t ≡ length l.initial.t)
    × (l.t ≡ bytes_after l.grows l.s l.w l.h l.o l.words l.heights l.y.0 l.r)
