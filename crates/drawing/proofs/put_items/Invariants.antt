-- Invariant: the points before column x are put, one after another, and there is room for the row.
-- Each column puts its own point at the place where the one before it ends.
use Rattle.text.specs.Steps.Lines.{point_item}
use Rattle.digits.proofs.Pieces.{Upto}
use Rattle.picture.specs.Points.{value_at}
use Rattle.drawing.proofs.put_items.Given as goal

abbrev pub invariant-loop-x : goal.invariant-loop-x
invariant-loop-x l =
    Upto (point_item l.depth (value_at l.depth l.s l.w) l.y.0) l.at l.w l.initial.t l.x l.next l.t
