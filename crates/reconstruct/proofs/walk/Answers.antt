use Rattle.reconstruct.proofs.Missing.{walk_less, next_in}
use Rattle.reconstruct.proofs.Visits.{grew_then}
use native.Mathlib.Omega.{arith}
use Rattle.reconstruct.proofs.walk.Goals as goal

pub loop-y-smaller : goal.loop-y-smaller
loop-y-smaller c =
    let a = c.args in
    let l = c.loop-y in
    walk_less a.r a.mask.now l.t _ _ _ l.y _ c.settle_row-b.ensures
    (omega arith)
    c.next_row-y.ensures

pub loop-y-preserved : goal.loop-y-preserved
loop-y-preserved c =
    let a = c.args in
    let l = c.loop-y in (
      next_in c.settle_row-b.result l.y _ a.r.h (omega arith) c.next_row-y.ensures,
      grew_then a.r a.mask.now a.t.now l.t _ l.invariant.1 c.settle_row-b.ensures.grew,
    )
