-- Both arms are the definition's: the word shifted where the cell is set, and 0 where it is not.
-- The shift is within the word, since the column is one of a row word.
use mathlib.Core.Path.{sym, ◌∙◌}
use Rattle.reach.specs.Steps.Words.{moved_of}
use Rattle.board.proofs.moved.Goals as goal

pub returns-then-cell : goal.returns-then-cell
unfolding moved_of
returns-then-cell c = simp (sym c.cell.ensures ∙ c.if-cell.true)

pub returns-else-cell : goal.returns-else-cell
unfolding moved_of
returns-else-cell c = simp (sym c.cell.ensures ∙ c.if-cell.false)
