use mathlib.Core.Path.{refl}
use native.Mathlib.Omega.{arith}
use borrow.Author.Rules.{rules}
use Rattle.basics.proofs.Lists.{fill_none, fill_store}
use Rattle.morphology.specs.Chain.{most_link_cells}
use Rattle.reach.specs.Steps.Links.{first_rows}
use Rattle.reach.proofs.Links.{filled_all}
use Rattle.reach.proofs.first_rows.Goals as goal

pub loop-r-init : goal.loop-r-init
loop-r-init c = (search rules, fill_none _ most_link_cells 0)

pub loop-r-preserved : goal.loop-r-preserved
loop-r-preserved c =
    let l = c.loop-r in
    (search rules, fill_store _ most_link_cells 0 l.r _ _ (omega arith) l.invariant.1 refl)

pub returns : goal.returns
unfolding first_rows
returns c =
    let l = c.loop-r in
    filled_all _ most_link_cells l.r _ (omega arith) l.invariant.1
