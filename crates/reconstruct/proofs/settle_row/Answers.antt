-- A pass from the left comes to every cell; where it changed nothing the row is still.
-- Where it changed something a point was gained, and the pass back only gains more.
use Rattle.reconstruct.proofs.Visits.{row_again}
use Rattle.reconstruct.proofs.settle_row.Goals as goal

pub returns-then-pass : goal.returns-then-pass
returns-then-pass c =
    let a = c.args in
    row_again a.r a.mask.now a.t.now _ _ a.y _ _ _ _ c.if-pass.true
    c.pass.ensures c.pass-then-pass.ensures
