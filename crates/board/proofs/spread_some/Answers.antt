-- A row word with no place in it adds nothing, whatever the cells.
-- Any other goes to `spread`, whose promise is this one.
use Rattle.reach.proofs.Loops.{spread_empty}
use Rattle.board.proofs.spread_some.Goals as goal

pub returns-then-line-eq0 : goal.returns-then-line-eq0
returns-then-line-eq0 c = spread_empty _ _ _ _ c.if-line-eq0.true
