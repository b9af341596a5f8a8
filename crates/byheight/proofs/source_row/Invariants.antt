-- Invariant: row v stands in b, and the first i rows that are listed are joined in from it.
-- What falls: the rows left. After all of them the source row is done: `part_source`.
use Rattle.byheight.specs.Steps.Part.{Part, Marked}
use lib.ListN.{length}
use Prim.Native.Nat.{◌+◌, ◌-◌, ◌≤◌}
use mathlib.Core.Path.{◌≡◌}
use Rattle.byheight.proofs.source_row.Given as goal

abbrev pub invariant-loop-i : goal.invariant-loop-i
invariant-loop-i l =
    (l.i ≤ l.n) × (length l.t ≡ length l.initial.t)
    × Part l.grows l.s l.w l.h l.o l.words l.hs l.from l.n l.v.0 (l.from + l.i) l.t
    × Marked l.grows l.w l.h l.marks l.t
