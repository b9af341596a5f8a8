-- The rest of the board, and the origin less that of the link.
-- Both as the definition has them.
use Rattle.takeapart.proofs.Ways.{after_is}
use Rattle.takeapart.proofs.after.Goals as goal

pub returns : goal.returns
returns c = after_is _ _ _ _ _ c.rest_of.ensures
