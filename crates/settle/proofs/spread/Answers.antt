-- The branch settles the definition's own choice.
-- Each arm passes on what it called.
use Rattle.settle.proofs.Loops.{if_so, if_not}
use Rattle.settle.specs.Steps.Words.{spread_of}
use Rattle.settle.proofs.spread.Goals as goal

pub returns-then-square : goal.returns-then-square
unfolding spread_of
returns-then-square c = if_so _ _ _ _ c.if-square.true c.across.ensures

pub returns : goal.returns
unfolding spread_of
returns c = if_not _ _ _ _ c.if-square.false c.word.ensures
