use Rattle.regions.proofs.Counts.{inner_none, inner_more}
use borrow.Author.Rules.{rules}
use native.Mathlib.Omega.{arith}
use Rattle.nesting.proofs.inner_regions.Goals as goal

pub loop-i-init : goal.loop-i-init
loop-i-init c = (search rules, search rules, inner_none _)

pub loop-i-preserved : goal.loop-i-preserved
loop-i-preserved c =
    let l = c.loop-i in (
      search rules,
      omega (arith, c.belongs-k.ensures.1),
      inner_more _ l.k _ l.i l.invariant.2
          c.belongs-k.ensures.0,
    )
