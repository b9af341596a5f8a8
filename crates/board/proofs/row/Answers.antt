use Rattle.reach.proofs.Loops.{row_none, row_more, row_all_lem}
use native.Mathlib.Omega.{arith}
use borrow.Author.Rules.{rules}
use Rattle.board.proofs.row.Goals as goal

pub loop-r-init : goal.loop-r-init
loop-r-init c = (search rules, row_none _ _ _ _)

pub loop-r-preserved : goal.loop-r-preserved
loop-r-preserved c =
    let a = c.args in
    let l = c.loop-r in (
      search rules,
      row_more a.board.now a.cells.now a.w a.y.0 l.r l.a _ _ l.invariant.1
          c.line_back-line.ensures c.spread_some-a.ensures,
    )

pub returns : goal.returns
returns c = row_all_lem _ _ _ _ c.loop-r.r _ _ c.loop-r.invariant.1 (omega arith)
