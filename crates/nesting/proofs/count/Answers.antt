use Rattle.regions.proofs.Counts.{count_none, count_more, count_le}
use Rattle.nesting.specs.Steps.Tree.{at}
use borrow.Author.Rules.{rules}
use native.Mathlib.Omega.{arith}
use Rattle.nesting.proofs.count.Goals as goal

pub loop-i-init : goal.loop-i-init
loop-i-init c = (search rules, count_none _ _)

pub overflow_add-k : goal.overflow_add-k
overflow_add-k c =
    omega (
      arith,
      c.belongs-k.ensures.1,
      c.loop-i.invariant.1,
      count_le
          (at c.args.labels.now) c.args.r
          c.loop-i.i,
    )

pub loop-i-preserved : goal.loop-i-preserved
loop-i-preserved c =
    let l = c.loop-i in
    (search rules, count_more _ _ l.k _ l.i l.invariant.1 c.belongs-k.ensures.0)
