use mathlib.Core.Path.{refl}
use native.Mathlib.Omega.{arith}
use Rattle.dividing.specs.Divide.{rest_row}
use Rattle.dividing.proofs.Rows.{rest_more, rest_all}
use borrow.Author.Rules.{rules}
use Rattle.dividing.proofs.rest_row.Goals as goal

pub loop-k-init : goal.loop-k-init
unfolding rest_row
loop-k-init c = (search rules, refl)

pub loop-k-preserved : goal.loop-k-preserved
loop-k-preserved c =
    let l = c.loop-k in (
      omega arith,
      rest_more _ _ _ _ l.k l.acc _ _ l.invariant.1 c.turned-w.ensures
          c.met-acc.ensures,
    )

pub returns : goal.returns
returns c = rest_all _ _ _ _ c.loop-k.k _ c.loop-k.invariant.1 (omega arith)
