use mathlib.Core.Path.{refl}
use native.Mathlib.Omega.{arith}
use Rattle.takeapart.specs.Walk.{board_at}
use Rattle.takeapart.proofs.Ways.{board_more, board_all}
use Rattle.takeapart.proofs.board_at.Goals as goal

pub loop-i-init : goal.loop-i-init
unfolding board_at
loop-i-init c = (omega arith, refl)

pub loop-i-preserved : goal.loop-i-preserved
loop-i-preserved c =
    let l = c.loop-i in
    (omega arith, board_more _ _ l.i l.at _ l.invariant.1 c.after-at.ensures)

pub returns : goal.returns
returns c =
    let l = c.loop-i in
    board_all _ _ l.i _ _ l.invariant.1 (omega arith)
