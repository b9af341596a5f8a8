-- Invariant: the lines of the rows before y are put, one after another, and there is room for all.
-- Each row puts its own line at the place where the one before it ends.
use Rattle.text.specs.Steps.Lines.{line_of}
use Rattle.digits.proofs.Pieces.{Upto}
use Rattle.picture.specs.Points.{value_at}
use Rattle.drawing.proofs.put_lines.Given as goal

abbrev pub invariant-loop-y : goal.invariant-loop-y
invariant-loop-y l =
    Upto (line_of l.depth (value_at l.depth l.s l.w) l.w) l.at l.h l.initial.t l.y l.next l.t
