-- The cells near the first cell and near the last,
-- and none in a row after the last.
use Rattle.choosing.proofs.Choices.{link_is}
use Rattle.choosing.proofs.link_no.Goals as goal

pub returns : goal.returns
returns c = link_is _ _ _ _ _ _ c.window-near.ensures c.window-far.ensures
