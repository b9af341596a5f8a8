-- The quarters of the board, of the rest and of the link,
-- and no row of the first is left bare.
use Rattle.choosing.proofs.Choices.{quarter_is}
use Rattle.choosing.proofs.quarter_suits.Goals as goal

pub returns : goal.returns
returns c =
    quarter_is _ _ _ _ _ _ _ _ _ _ _ _ _ c.quarter-whole.ensures c.quarter-part.ensures
    c.link_quarter-cells.ensures c.first_bare.ensures _ c.is_none.ensures
