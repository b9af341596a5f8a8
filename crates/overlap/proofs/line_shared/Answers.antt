-- Stands on `place_in`: the row of the other element that stands for the row's offset, or none.
-- Where there is none no cell of the row is shared; else the two rows are compared cell by cell.
use Rattle.overlap.proofs.Shared.{line_none, line_both}
use Rattle.overlap.proofs.line_shared.Goals as goal

pub returns-then-second-v : goal.returns-then-second-v
returns-then-second-v c =
    let a = c.args in
    line_none a.first a.words.now a.second a.others.now
    a.row.0 _ c.place_in-v.ensures c.if-second-v.true

pub returns : goal.returns
returns c =
    let a = c.args in
    line_both a.first a.words.now a.second a.others.now
    a.row.0 _ c.place_in-v.ensures _ c.if-second-v.false
    c.row_shared.ensures
