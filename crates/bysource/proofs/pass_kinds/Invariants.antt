-- Invariant: the rows of the first k kinds are joined in. What falls: the kinds left.
-- Each turn is a kind more.
use Rattle.sourceparts.specs.Steps.Part.{PartOf}
use lib.ListN.{length}
use Prim.Native.Nat.{◌≤◌}
use mathlib.Core.Path.{◌≡◌}
use Rattle.bysource.proofs.pass_kinds.Given as goal

abbrev pub invariant-loop-k : goal.invariant-loop-k
invariant-loop-k g l =
    (l.k ≤ 2) × (length l.t ≡ length l.initial.t)
    × PartOf g.D.Scan.depth l.grows l.s l.w l.h l.o l.words l.k 0 0 l.t
