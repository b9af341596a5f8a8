-- Invariant: the rows before y are cleared, and the bytes past them are as they were.
-- Each row keeps the length of what is written.
use Rattle.copies.specs.Steps.Copy.{cleared_row}
use Rattle.basics.specs.Lists.{joined}
use lib.ListN.{length, drop}
use Prim.Native.Nat.{◌≤◌, ◌*◌}
use mathlib.Core.List.{◌++◌}
use mathlib.Core.Bool.{false}
use mathlib.Core.Path.{◌≡◌}
use Rattle.copies.proofs.clear_rows.Given as goal

abbrev pub invariant-loop-y : goal.invariant-loop-y
invariant-loop-y l =
    (l.y ≤ l.h) × (length l.t ≡ length l.initial.t)
    × (l.t ≡ joined (cleared_row false l.initial.t l.n l.u) l.y ++ drop (l.y * l.n) l.initial.t)
