use Rattle.regions.proofs.Join.{root_low}
use Rattle.mates.proofs.Steps.{flat_none, flat_more}
use lib.ListN.{length-set}
use mathlib.Core.Path.{refl, ◌∙◌}
use native.Mathlib.Omega.{arith}
use borrow.Author.Rules.{rules}
use Rattle.labels.proofs.flatten.Goals as goal

pub loop-i-init : goal.loop-i-init
loop-i-init c = (search rules, refl, flat_none _)

pub overflow_cast-up : goal.overflow_cast-up
overflow_cast-up c = omega (arith, root_low _ _ _ c.root-r.ensures)

pub loop-i-preserved : goal.loop-i-preserved
loop-i-preserved c =
    let l = c.loop-i in (
      search rules,
      length-set l.up l.i c.root-r.result
          ∙ l.invariant.1,
      flat_more _ l.up l.i c.root-r.result l.invariant.2 c.root-r.ensures,
    )
