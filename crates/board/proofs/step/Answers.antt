use Rattle.basics.proofs.Lists.{fill_store, fill_none}
use Rattle.reach.proofs.Loops.{step_all}
use Rattle.reach.specs.Steps.Words.{sums, cut_row}
use native.Mathlib.Omega.{arith}
use borrow.Author.Rules.{rules}
use Rattle.board.proofs.step.Goals as goal

pub loop-y-init : goal.loop-y-init
loop-y-init c = (search rules, fill_none _ sums 0)

pub loop-y-preserved : goal.loop-y-preserved
loop-y-preserved c =
    let l = c.loop-y in
    (search rules, fill_store _ sums 0 l.y l.next _ (omega arith) l.invariant.1 c.cut_row.ensures)

pub returns : goal.returns
returns c =
    let a = c.args in
    let l = c.loop-y in
    step_all a.board.now a.cells.now a.w a.h _ l.y
    a.cut _ c.mask-m.ensures (omega arith) l.invariant.1
