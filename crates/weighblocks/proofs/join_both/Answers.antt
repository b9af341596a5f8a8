-- The cells that raise, and from what they leave those that do not:
-- `both_joined` puts the two folds together.
use Rattle.weighblocks.proofs.Blocks.{both_joined}
use Rattle.weighblocks.proofs.join_both.Goals as goal

pub returns : goal.returns
returns c =
    let a = c.args in
    both_joined a.grows a.b.now a.rising.now a.others.now a.c _ _ a.i
    c.join_cells-x.ensures c.join_cells.ensures
