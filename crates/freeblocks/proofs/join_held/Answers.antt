use Rattle.freeblocks.proofs.Blocks.{later, held_none, held_more_lem}
use Rattle.blocks.specs.Steps.Laid.{laid}
use Prim.Native.Nat.{◌-◌, ◌*◌}
use mathlib.Core.Path.{◌≡◌, ap, ◌∙◌}
use native.Mathlib.Omega.{arith}
use borrow.Author.Rules.{rules}
use Rattle.freeblocks.proofs.join_held.Goals as goal

pub loop-k-init : goal.loop-k-init
loop-k-init c = (search rules, search rules, search rules, held_none _ _ _ _ _ _)

pub loop-k-preserved : goal.loop-k-preserved
loop-k-preserved c =
    let a = c.args in
    let l = c.loop-k in
    let p = c.put_block in (
      search rules,
      search rules,
      p.auto.t ∙ l.invariant.2,
      held_more_lem a.grows a.b.now a.rising.now a.others.now a.t.now l.t _ _
          p.new.t a.from l.k l.invariant.0 (omega arith) l.invariant.3 c.block_at-c.ensures
          c.join_both-d.ensures p.ensures,
    )

pub returns : goal.returns
returns c =
    let a = c.args in
    let e : c.loop-k.k ≡ a.n = omega arith in
    c.loop-k.invariant.3
    ∙ ap (λ k. laid (64 * a.from) (64 * k - 64 * a.from)
    (later a.grows a.b.now a.rising.now a.others.now a.t.now a.from)
    a.t.now) e
