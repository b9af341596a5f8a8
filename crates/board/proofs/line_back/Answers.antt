-- The row r rows back is there exactly where r is at most y, and then y - r is a row of the board.
-- Each return is one side of that choice.
use borrow.Author.Tests.{le-leb, lt-leb}
use Rattle.reach.specs.Steps.Words.{line_of}
use borrow.Author.Rules.{rules}
use Rattle.board.proofs.line_back.Goals as goal

pub returns-then-r-y : goal.returns-then-r-y
unfolding line_of
returns-then-r-y c =
    let a = c.args in
    simp (le-leb a.r.0 a.y.0 (search rules))

pub returns-else-r-y : goal.returns-else-r-y
unfolding line_of
returns-else-r-y c = let a = c.args in simp (lt-leb a.r.0 a.y.0 (search rules))
