-- Invariant: the rows before y are written, one after another, and the bytes past them are as they were.
-- Each row keeps the length of what is written.
use Rattle.copies.specs.Steps.Copy.{over_of, cleared_row}
use Rattle.basics.specs.Lists.{joined}
use lib.ListN.{length, drop}
use Prim.Native.Nat.{◌≤◌, ◌*◌}
use mathlib.Core.List.{◌++◌}
use mathlib.Core.Path.{◌≡◌}
use Rattle.copies.proofs.copy_rows.Given as goal

abbrev pub invariant-loop-y : goal.invariant-loop-y
invariant-loop-y l =
    (l.y ≤ l.h) × (length l.t ≡ length l.initial.t)
    × (l.t ≡ joined (cleared_row (over_of l.face) l.s l.n l.u) l.y ++ drop (l.y * l.n) l.initial.t)
