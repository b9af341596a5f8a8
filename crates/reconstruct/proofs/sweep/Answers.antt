use Rattle.reconstruct.proofs.Visits.{sweep_more}
use mathlib.Core.Path.{refl}
use borrow.Author.Rules.{rules}
use Rattle.reconstruct.proofs.sweep.Goals as goal

pub loop-i-preserved : goal.loop-i-preserved
loop-i-preserved c =
    let a = c.args in
    let l = c.loop-i in (
      search rules,
      sweep_more a.r a.mask.now a.t.now l.t _ a.up l.i _ c.turned-y.ensures.0
          l.changed _ _ l.invariant.1 c.settle_row-b.ensures refl,
    )
