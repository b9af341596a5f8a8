-- The picture takes the first bytes of the target:
-- what lies past them stays.
use Rattle.bysource.proofs.Joined.{over_first}
use Rattle.bysource.proofs.sweep_rows.Goals as goal

pub returns : goal.returns
returns g c =
    let a = c.args in
    over_first g.D.Scan.depth _ a.w a.h a.t.now c.row_size.result _ c.row_size.ensures c.sweep_whole.ensures
