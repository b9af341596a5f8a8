use Rattle.regions.proofs.Counts.{gather_none, gather_more, inner_none, inner_more, inner_mono}
use Rattle.nesting.specs.Steps.Tree.{at}
use borrow.Author.Rules.{rules}
use lib.ListN.{length-set}
use mathlib.Core.Path.{refl, ◌∙◌}
use native.Mathlib.Omega.{arith}
use Rattle.nesting.proofs.gather.Goals as goal

pub loop-i-init : goal.loop-i-init
loop-i-init c =
    (search rules, search rules, refl, inner_none _, gather_none _ c.args.inner.now)

pub bounds-inner-k : goal.bounds-inner-k
bounds-inner-k c =
    let l = c.loop-i in
    omega (
      arith,
      l.invariant.2,
      l.invariant.3,
      inner_mono (at c.args.labels.now)
          l.i c.args.n l.invariant.0,
    )

pub loop-i-preserved : goal.loop-i-preserved
loop-i-preserved c =
    let l = c.loop-i in let a = c.args in (
      search rules,
      omega (arith, c.belongs-k.ensures.1),
      length-set l.inner l.k _
          ∙ l.invariant.2,
      inner_more _ l.k _ l.i l.invariant.3 c.belongs-k.ensures.0,
      gather_more
          (at a.labels.now) l.inner l.k _ l.i
          (omega (arith, l.invariant.2, l.invariant.3, inner_mono (at a.labels.now) l.i a.n l.invariant.0))
          l.invariant.4 c.belongs-k.ensures.0,
    )
