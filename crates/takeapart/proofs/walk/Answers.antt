use mathlib.Core.Path.{refl, sym, ◌∙◌}
use native.Mathlib.Omega.{arith}
use Rattle.takeapart.specs.Walk.{unwalked}
use Rattle.takeapart.specs.Sum.{walked}
use Rattle.takeapart.proofs.Ways.{walk_here, walk_more, walk_end}
use borrow.Author.Rules.{rules}
use Rattle.takeapart.proofs.walk.Goals as goal

pub loop-n-init : goal.loop-n-init
unfolding unwalked
loop-n-init c = (search rules, refl)

pub returns-then-ended : goal.returns-then-ended
unfolding walked
returns-then-ended c =
    let l = c.loop-n in
    sym (l.invariant.1 ∙ walk_here _ _ _ _ c.board_at-at.ensures c.ended.ensures _
    c.if-ended.true)

pub loop-n-preserved : goal.loop-n-preserved
loop-n-preserved c =
    let l = c.loop-n in (
      omega arith,
      l.invariant.1 ∙ walk_more _ _ _ _ c.board_at-at.ensures
          c.ended.ensures l.n 64 _ (omega arith) c.if-ended.false
          c.onward-w.ensures,
    )

pub returns : goal.returns
unfolding walked
returns c = sym (c.loop-n.invariant.1 ∙ walk_end _ _ c.loop-n.n 64 (omega arith))
