use Rattle.blocks.proofs.Laid.{laid_none}
use Rattle.blocks.specs.Steps.Laid.{laid}
use Rattle.gathers.specs.Steps.Gathered.{at_all}
use Rattle.gathers.proofs.Gathered.{blocks_more}
use Prim.Native.Nat.{◌*◌}
use mathlib.Core.Path.{◌≡◌, ap, ◌∙◌}
use native.Mathlib.Omega.{arith}
use borrow.Author.Rules.{rules}
use Rattle.gathers.proofs.lay_blocks.Goals as goal

pub loop-k-init : goal.loop-k-init
loop-k-init c = (search rules, (search rules, laid_none _ _ _))

pub block-c-requires : goal.block-c-requires
block-c-requires c =
    record {
      at_nonzero = c.requires.at_nonzero.0;
      reached = λ j h. omega
          (arith, c.requires.reached j h);
    }

pub loop-k-preserved : goal.loop-k-preserved
loop-k-preserved c =
    let a = c.args in
    let l = c.loop-k in
    let p = c.put_block in (
      search rules,
      (
        p.auto.t ∙ l.invariant.1.0,
        blocks_more (at_all a.grows a.s.now a.at.now) a.from a.t.now l.t _
            p.new.t l.k (omega arith) l.invariant.1.1 c.block-c.ensures p.ensures,
      ),
    )

pub returns : goal.returns
returns c =
    let a = c.args in
    let e : c.loop-k.k ≡ a.n = omega arith in
    c.loop-k.invariant.1.1
    ∙ ap (λ k. laid a.from (64 * k) (at_all a.grows a.s.now a.at.now) a.t.now) e
