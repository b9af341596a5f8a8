-- Stands on `place_in`: the column of the other element that stands for the cell's offset, or none.
-- A cell that is not set, and one whose offset the other has no column for, shares none.
use Rattle.overlap.proofs.Shared.{cell_unset, cell_none, cell_both}
use mathlib.Core.Path.{sym, ◌∙◌}
use Rattle.overlap.proofs.cell_shared.Goals as goal

pub returns-then-second-c : goal.returns-then-second-c
returns-then-second-c c =
    let a = c.args in
    cell_none a.word a.beside a.first a.second
    a.cell.0 _ c.place_in-c.ensures c.if-second-c.true

pub returns-else-second-c : goal.returns-else-second-c
returns-else-second-c c =
    let a = c.args in
    cell_both a.word a.beside a.first a.second
    a.cell.0 _ c.place_in-c.ensures _
    (sym c.cell.ensures ∙ c.if-cell.true) c.if-second-c.false c.cell-then-cell.ensures

pub returns-else-cell : goal.returns-else-cell
returns-else-cell c =
    let a = c.args in
    cell_unset a.word a.beside a.first a.second
    a.cell.0 0 (sym c.cell.ensures ∙ c.if-cell.false)
