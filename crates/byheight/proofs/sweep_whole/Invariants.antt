-- Invariant: the first r rows of the element are joined in, from every source row. What falls: the rows left.
-- It starts from 0 or 255 alone; after all rows of the element nothing is left: `part_all`.
use Rattle.byheight.specs.Steps.Part.{Part}
use Rattle.basics.specs.Bytes.{Bytes}
use lib.ListN.{length}
use Prim.Native.Nat.{◌-◌, ◌≤◌}
use mathlib.Core.Path.{◌≡◌}
use Rattle.byheight.proofs.sweep_whole.Given as goal

abbrev pub invariant-loop-r : goal.invariant-loop-r
invariant-loop-r l =
    (l.r ≤ l.o.h) × (length l.t ≡ length l.initial.t)
    × Part l.grows l.s l.w l.h l.o l.words l.hs l.r 0 0 l.r l.t × Bytes l.t

abbrev pub decreases-loop-r : goal.decreases-loop-r
decreases-loop-r l = l.o.h - l.r
