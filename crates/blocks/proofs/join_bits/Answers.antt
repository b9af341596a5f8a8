use Prim.Native.Nat.{ℕ, ◌+◌}
use Rattle.blocks.proofs.Laid.{block_more, block_still, block_done, laid_none}
use Rattle.blocks.specs.Steps.Points.{eight_from}
use Rattle.blocks.specs.Steps.Block.{joined_bits}
use Rattle.blocks.specs.Steps.Joins.{join_packed}
use lib.ListN.{get_or, length-set}
use mathlib.Core.Path.{ap₂, ◌∙◌}
use native.Mathlib.Omega.{arith}
use borrow.Author.Rules.{rules}
use Rattle.blocks.proofs.join_bits.Goals as goal

pub loop-i-init : goal.loop-i-init
loop-i-init c = (search rules, search rules, search rules, laid_none _ _ _)

pub loop-i-preserved : goal.loop-i-preserved
unfolding eight_from
loop-i-preserved c =
    let l = c.loop-i in
    let a = c.args in
    let f : ℕ → ℕ = λ i. join_packed a.grows (get_or a.a i 0)
    (eight_from a.b.now (a.at + i) a.d) in (
      search rules,
      simp length-set l.invariant.1,
      l.invariant.2,
      block_more 64 f a.a l.c l.i l.invariant.2 l.invariant.3 c.joined.result (omega arith)
          (c.joined.ensures ∙ ap₂ (join_packed a.grows)
          (block_still 64 f a.a l.c l.i l.invariant.2 l.invariant.3 (omega arith))
          c.shifted.ensures),
    )

pub returns : goal.returns
unfolding joined_bits
returns c =
    let l = c.loop-i in block_done 64 _ c.args.a l.c l.i l.invariant.2
    l.invariant.3 (omega arith)
