-- A few cells are done where it says so: `was_few`. Else nothing has changed, and the cells are many.
-- Either way it is what the definitions say.
use Rattle.byteways.proofs.Ways.{over_same}
use Rattle.few.proofs.Listed.{was_few, was_many}
use Rattle.byteways.proofs.sweep_any.Goals as goal

pub returns-then-sweep : goal.returns-then-sweep
returns-then-sweep c =
    let r = c.sweep in
    was_few _ _ _ _ _ r.ensures.few c.if-sweep.true r.ensures.bytes

pub returns-then-grows : goal.returns-then-grows
returns-then-grows c =
    let r = c.sweep in
    rw c.if-grows.true (over_same _ _ _ _ _ _
    (was_many _ _ _ _ _ r.ensures.few c.if-sweep.false r.ensures.bytes)
    c.sweep-then-grows.ensures)

pub returns : goal.returns
returns c =
    let r = c.sweep in
    rw c.if-grows.false (over_same _ _ _ _ _ _
    (was_many _ _ _ _ _ r.ensures.few c.if-sweep.false r.ensures.bytes)
    c.sweep-2.ensures)
