-- The cells on the asked side of both the column and the row.
-- Joined as the definition has them.
use Rattle.covering.proofs.Sums.{link_quarter_is}
use Rattle.covering.proofs.link_quarter.Goals as goal

pub returns : goal.returns
returns c = link_quarter_is _ _ _ _ _ _ c.link_columns.ensures c.link_rows.ensures
