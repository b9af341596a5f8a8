-- Invariant: the row is what the first c cells make of it, each by its height. What falls: the cells left.
-- Each turn is one cell more, whether it is set or not.
use Rattle.rows.proofs.Fold.{so_far}
use Rattle.rows.specs.Steps.Row.{columns_of}
use Rattle.rows.specs.Steps.Ways.{weigh_by}
use Rattle.element.specs.Record.{cell_on}
use lib.ListN.{length}
use Prim.Native.Nat.{◌+◌, ◌≤◌}
use mathlib.Core.Path.{◌≡◌}
use Rattle.cellrow.proofs.fold_row.Given as goal

abbrev pub invariant-loop-c : goal.invariant-loop-c
invariant-loop-c l =
    (l.c ≤ l.wide) × (length l.t ≡ length l.initial.t)
    × (l.t ≡ so_far l.grows (weigh_by l.grows) (λ c. columns_of l.heights (l.at + c)) l.initial.t l.s l.w
    (cell_on l.word) l.origin.0 l.c)
