-- The columns whose place lies in the row are one part of t beside one part of s, and the parts are as long.
-- A cell that is not set leaves the row as it is.
use Rattle.element.specs.Record.{cell_on}
use Rattle.rows.specs.Steps.Ways.{weigh_by}
use Rattle.rows.specs.Steps.Row.{cell_row}
use Rattle.cellrow.proofs.Cell.{cell_set, cell_unset, part_order, parts_alike}
use Prim.Native.Nat.{◌-◌, ◌≤◌}
use mathlib.Core.Path.{sym, ap₂, ◌∙◌}
use Rattle.cellrow.proofs.fold_cell.Goals as goal
use Rattle.cellrow.proofs.fold_cell.Goals.{After-past-b}

ordered : (c : After-past-b) → c.past-b.result ≤ c.args.w - c.past-a.result
ordered c = part_order _ _ _ _ _ c.past-a.ensures c.past-b.ensures

pub join_cell-requires : goal.join_cell-requires
join_cell-requires c =
    let p = c.requires in
    parts_alike c.args.t.now c.args.s.now _ _ _ _ _ p.0
    p.1.0 c.past-a.ensures c.past-b.ensures

pub returns-then-cell : goal.returns-then-cell
returns-then-cell c =
    let a = c.args in
    let p = c.requires in
    cell_set a.grows (weigh_by a.grows) a.g (cell_on a.word a.cell.0)
    a.t.now a.s.now _ _ _ _ _ _ p.0 p.1.0
    c.past-a.ensures c.past-b.ensures c.join_cell.ensures
    (sym c.cell.ensures ∙ c.if-cell.true)
    ∙ ap₂ (λ i j. cell_row a.grows (weigh_by a.grows) a.g
    (cell_on a.word a.cell.0) a.t.now a.s.now a.w i j)
    c.chosen-plus.ensures c.chosen-minus.ensures

pub returns : goal.returns
returns c =
    let a = c.args in
    cell_unset a.grows (weigh_by a.grows) a.g
    (cell_on a.word a.cell.0) a.t.now a.s.now _ _ _ c.requires.0
    (sym c.cell.ensures ∙ c.if-cell.false)
