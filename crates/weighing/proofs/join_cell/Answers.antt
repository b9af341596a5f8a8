-- At height 0 the plain loop does, since a byte is weighed to itself there; else the other does as it says.
-- That what lies beside are bytes is the slice's own fact.
use Rattle.weighing.proofs.Weights.{joined_plain}
use native.Mathlib.Omega.{arith}
use Rattle.weighing.proofs.join_cell.Goals as goal

pub returns-then-g-eq0 : goal.returns-then-g-eq0
returns-then-g-eq0 c =
    let a = c.args in
    joined_plain a.grows a.g _ a.by.now _ c.if-g-eq0.true
    (λ i. let b = c.type_inv.by i in omega arith)
    c.join_row.ensures
