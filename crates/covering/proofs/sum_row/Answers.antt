use mathlib.Core.Path.{refl}
use native.Mathlib.Omega.{arith}
use Rattle.covering.specs.Cover.{sum_row}
use Rattle.covering.proofs.Sums.{sum_more, sum_all}
use borrow.Author.Rules.{rules}
use Rattle.covering.proofs.sum_row.Goals as goal

pub loop-k-init : goal.loop-k-init
unfolding sum_row
loop-k-init c = (search rules, refl)

pub loop-k-preserved : goal.loop-k-preserved
loop-k-preserved c =
    let l = c.loop-k in (
      omega arith,
      sum_more _ _ _ _ l.k l.acc _ _ l.invariant.1 c.turned-w.ensures
          c.added-acc.ensures,
    )

pub returns : goal.returns
returns c = sum_all _ _ _ _ c.loop-k.k _ c.loop-k.invariant.1 (omega arith)
