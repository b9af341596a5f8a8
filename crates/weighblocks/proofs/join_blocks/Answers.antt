use Rattle.weighblocks.proofs.Blocks.{row_at, blocks_none, blocks_more}
use Rattle.blocks.specs.Steps.Laid.{laid}
use Prim.Native.Nat.{◌*◌}
use mathlib.Core.Path.{◌≡◌, ap, ◌∙◌}
use native.Mathlib.Omega.{arith}
use borrow.Author.Rules.{rules}
use Rattle.weighblocks.proofs.join_blocks.Goals as goal

pub loop-k-init : goal.loop-k-init
loop-k-init c = (search rules, search rules, blocks_none _ _ _ _ _)

pub loop-k-preserved : goal.loop-k-preserved
loop-k-preserved c =
    let a = c.args in
    let l = c.loop-k in
    let p = c.put_block in (
      search rules,
      p.auto.t ∙ l.invariant.1,
      blocks_more a.grows a.b.now a.rising.now a.others.now a.t.now l.t _ _
          p.new.t l.k (omega arith) l.invariant.2 c.block_at-c.ensures
          c.join_both-d.ensures p.ensures,
    )

pub returns : goal.returns
returns c =
    let a = c.args in
    let e : c.loop-k.k ≡ a.n = omega arith in
    c.loop-k.invariant.2
    ∙ ap (λ k. laid 0 (64 * k) (row_at a.grows a.b.now a.rising.now a.others.now
    a.t.now) a.t.now) e
