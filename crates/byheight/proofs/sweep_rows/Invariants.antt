-- Invariant: the rows are listed, and joined in from the first v source rows. What falls: the rest.
-- The lists are made before the first source row, and stay; no row is marked there.
use Rattle.byheight.specs.Steps.Listed.{Listed}
use Rattle.byheight.specs.Steps.Part.{Part, Marked}
use lib.ListN.{length}
use Prim.Native.Nat.{◌-◌, ◌≤◌}
use mathlib.Core.Path.{◌≡◌}
use Rattle.byheight.proofs.sweep_rows.Given as goal

abbrev pub invariant-loop-v : goal.invariant-loop-v
invariant-loop-v l =
    (l.v ≤ l.h) × (length l.t ≡ length l.initial.t)
    × Listed l.grows l.o l.words l.hs l.from l.n l.rising l.others l.ups l.downs
    × Part l.grows l.s l.w l.h l.o l.words l.hs l.from l.n l.v l.from l.t × Marked l.grows l.w l.h l.marks l.t
