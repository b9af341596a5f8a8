-- The sums that stand for an offset are its coordinates with the origins added and the centre taken away.
-- Off the board on one of four sides the answer is no; on it, the word's own bit.
use native.Mathlib.Omega.{arith}
use Rattle.reach.proofs.Loops.{off_left, off_top, off_right, off_bottom, on_board}
use Rattle.reach.proofs.holds.Goals as goal

pub returns-then-column-lt-CENTRE : goal.returns-then-column-lt-CENTRE
returns-then-column-lt-CENTRE c = off_left _ _ _ (omega arith)

pub returns-then-row-lt-CENTRE : goal.returns-then-row-lt-CENTRE
returns-then-row-lt-CENTRE c = off_top _ _ _ (omega arith) (omega arith)

pub returns-then-column-ge-SUMS : goal.returns-then-column-ge-SUMS
returns-then-column-ge-SUMS c = off_right _ _ _ (omega arith) (omega arith) (omega arith)

pub returns-then-row-ge-SUMS : goal.returns-then-row-ge-SUMS
returns-then-row-ge-SUMS c =
    off_bottom _ _ _ (omega arith) (omega arith) (omega arith) (omega arith)

pub returns : goal.returns
returns c =
    let a = c.args in
    on_board a.words.now a.o a.at (omega arith) (omega arith) (omega arith) (omega arith)
