-- Invariant: v has 0 at a place exactly where the first r rows of the element meet no point. Falls: the
-- rows left.
-- After all of them it is the definition: `row_is`.
use Prim.Native.Nat.{◌-◌, ◌≤◌}
use lib.ListN.{get_or}
use Rattle.bitrow.specs.Steps.Added.{masked_of}
use Rattle.narrow.specs.Steps.Row.{turned_by}
use Rattle.narrow.proofs.Rows.{Found}
use Rattle.narrow.proofs.make_row.Given as goal

abbrev pub invariant-loop-r : goal.invariant-loop-r
invariant-loop-r l =
    (l.r ≤ l.o.h) × Found l.k.grows (turned_by l.k.grows l.k.over) l.s l.w l.n l.h l.y.0 l.o.origin.ping.0
    l.o.origin.bin.0 (λ i. masked_of (get_or l.words i 0) l.o.w) l.r l.v

abbrev pub decreases-loop-r : goal.decreases-loop-r
decreases-loop-r l = l.o.h - l.r
