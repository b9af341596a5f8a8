use native.Mathlib.Omega.{arith}
use borrow.Author.Rules.{rules}
use Rattle.hulls.specs.Extent.{unseen}
use Rattle.hulls.proofs.Extents.{rows_none, rows_more, rows_all}
use Rattle.hulls.proofs.extent_of.Goals as goal

pub loop-r-init : goal.loop-r-init
unfolding unseen
loop-r-init c = (search rules, rows_none _ _)

pub loop-r-preserved : goal.loop-r-preserved
loop-r-preserved c =
    let l = c.loop-r in
    (omega arith, rows_more _ _ l.r l.e _ l.invariant.1 c.grow_row-e.ensures)

pub returns : goal.returns
returns c = rows_all _ _ c.loop-r.r _ _ c.loop-r.invariant.1 (omega arith)
