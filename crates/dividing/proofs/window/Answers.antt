use mathlib.Core.Path.{refl}
use native.Mathlib.Omega.{arith}
use Rattle.dividing.specs.Board.{window}
use Rattle.dividing.proofs.Rows.{window_more, window_all}
use borrow.Author.Rules.{rules}
use Rattle.dividing.proofs.window.Goals as goal

pub loop-r-init : goal.loop-r-init
unfolding window
loop-r-init c = (search rules, refl)

pub loop-r-preserved : goal.loop-r-preserved
loop-r-preserved c =
    let l = c.loop-r in
    (omega arith, window_more _ _ _ l.r l.v _ l.invariant.1 c.turned.ensures)

pub returns : goal.returns
returns c = window_all _ _ _ c.loop-r.r _ c.loop-r.invariant.1 (omega arith)
