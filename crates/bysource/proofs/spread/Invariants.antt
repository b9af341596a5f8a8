-- Invariant: the first r rows of the element, where they are of kind k, are joined in from source row v.
-- What falls: the rows left. After all of them the source row is done: `part_source`.
use Rattle.sourceparts.specs.Steps.Part.{PartOf}
use lib.ListN.{length}
use Prim.Native.Nat.{◌≤◌}
use mathlib.Core.Path.{◌≡◌}
use Rattle.bysource.proofs.spread.Given as goal

abbrev pub invariant-loop-r : goal.invariant-loop-r
invariant-loop-r g l =
    (l.r ≤ l.o.h) × (length l.t ≡ length l.initial.t)
    × PartOf g.D.Scan.depth l.grows l.s l.w l.h l.o l.words l.k l.v.0 l.r l.t
