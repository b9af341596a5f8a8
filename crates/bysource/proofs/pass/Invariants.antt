-- Invariant: the first v source rows are joined in, as far as rows of kind k see them. Falls: the rows left.
-- After all of them the kind is done; where no row is of it, it was.
use Rattle.sourceparts.specs.Steps.Part.{PartOf}
use lib.ListN.{length}
use Prim.Native.Nat.{◌≤◌}
use mathlib.Core.Path.{◌≡◌}
use Rattle.bysource.proofs.pass.Given as goal

abbrev pub invariant-loop-v : goal.invariant-loop-v
invariant-loop-v g l =
    (l.v ≤ l.h) × (length l.t ≡ length l.initial.t)
    × PartOf g.D.Scan.depth l.grows l.s l.w l.h l.o l.words l.k l.v 0 l.t
