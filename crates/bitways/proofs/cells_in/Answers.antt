use native.Mathlib.Omega.{arith}
use borrow.Author.Rules.{rules}
use Rattle.bitways.proofs.cells_in.Goals as goal

pub loop-r-init : goal.loop-r-init
loop-r-init c = (search rules, search rules)

pub overflow_add-n : goal.overflow_add-n
overflow_add-n c = omega (arith, c.cell_count-n.ensures.1)

pub loop-r-preserved : goal.loop-r-preserved
loop-r-preserved c = (search rules, omega (arith, c.cell_count-n.ensures.1))

pub returns : goal.returns
returns c = search rules
