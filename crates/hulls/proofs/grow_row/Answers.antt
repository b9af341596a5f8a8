use native.Mathlib.Omega.{arith}
use borrow.Author.Rules.{rules}
use Rattle.hulls.proofs.Extents.{row_none, row_more, row_all_lem}
use Rattle.hulls.proofs.grow_row.Goals as goal

pub loop-c-init : goal.loop-c-init
loop-c-init c = (search rules, row_none _ _ _)

pub loop-c-preserved : goal.loop-c-preserved
loop-c-preserved c =
    let l = c.loop-c in
    (omega arith, row_more _ _ _ l.c l.e _ l.invariant.1 c.grow-e.ensures)

pub returns : goal.returns
returns c = row_all_lem _ _ _ c.loop-c.c _ _ c.loop-c.invariant.1 (omega arith)
