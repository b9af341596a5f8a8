use Prim.Native.Nat.{ℕ, ◌+◌}
use Rattle.blocks.proofs.Laid.{block_more, block_still, block_done, laid_none}
use Rattle.rows.specs.Steps.Fold.{join_by}
use Rattle.weighblocks.specs.Steps.Lift.{lift_by}
use Rattle.weighblocks.specs.Steps.Cells.{cell_block}
use lib.ListN.{get_or, length-set}
use mathlib.Core.Path.{ap, ◌∙◌}
use native.Mathlib.Omega.{arith}
use borrow.Author.Rules.{rules}
use Rattle.weighblocks.proofs.join_cell.Goals as goal

pub loop-i-init : goal.loop-i-init
loop-i-init c = (search rules, search rules, search rules, laid_none _ _ _)

pub loop-i-preserved : goal.loop-i-preserved
loop-i-preserved c =
    let l = c.loop-i in
    let a = c.args in
    let f : ℕ → ℕ = λ i. join_by a.grows (get_or a.a i 0)
    (lift_by a.grows a.rises a.g (get_or a.b.now (a.at + i) 0)) in (
      search rules,
      simp length-set l.invariant.1,
      l.invariant.2,
      block_more 64 f a.a l.c l.i l.invariant.2 l.invariant.3 c.joined.result (omega arith)
          (c.joined.ensures ∙ ap (λ n. join_by a.grows n
          (lift_by a.grows a.rises a.g (get_or a.b.now (a.at + l.i) 0)))
          (block_still 64 f a.a l.c l.i l.invariant.2 l.invariant.3 (omega arith))),
    )

pub returns : goal.returns
unfolding cell_block
returns c =
    let l = c.loop-i in block_done 64 _ c.args.a l.c l.i
    l.invariant.2
    l.invariant.3 (omega arith)
