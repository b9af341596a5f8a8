use Rattle.bytewindows.proofs.Blocks.{lay_more, moved_block}
use Rattle.bytewindows.specs.Steps.Four.{joined_four}
use Rattle.blocks.proofs.Laid.{laid_none}
use Rattle.blocks.specs.Steps.Laid.{laid}
use Prim.Native.Nat.{◌+◌, ◌*◌}
use mathlib.Core.Path.{◌≡◌, refl, ap, ◌∙◌}
use native.Mathlib.Omega.{arith}
use borrow.Author.Rules.{rules}
use Rattle.bytewindows.proofs.lay_blocks.Goals as goal

pub loop-j-init : goal.loop-j-init
loop-j-init c = (search rules, search rules, laid_none _ _ _)

pub loop-j-preserved : goal.loop-j-preserved
loop-j-preserved c =
    let l = c.loop-j in
    let a = c.args in
    let p = c.put_block in (
      search rules,
      p.auto.t ∙ l.invariant.1,
      lay_more (λ i. joined_four a.grows a.b.now (a.p + i) (a.q + i) (a.r + i) (a.s + i))
          l.j _ a.t.now l.t p.new.t _ refl (omega arith) l.invariant.2
          (moved_block a.grows a.b.now _ a.p a.q a.r a.s _
          c.four-c.ensures) p.ensures,
    )

pub returns : goal.returns
returns c =
    let a = c.args in
    let e : c.loop-j.j ≡ a.k = omega arith in
    c.loop-j.invariant.2
    ∙ ap (λ j. laid 0 (64 * j)
    (λ i. joined_four a.grows a.b.now (a.p + i) (a.q + i) (a.r + i) (a.s + i)) a.t.now) e
