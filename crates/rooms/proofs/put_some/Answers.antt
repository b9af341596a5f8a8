use Rattle.blocks.proofs.Laid.{laid_none, laid_more}
use lib.ListN.{get_or, length-set}
use mathlib.Core.Path.{◌≡◌, refl, ◌∙◌}
use native.Mathlib.Omega.{arith}
use borrow.Author.Rules.{rules}
use Rattle.rooms.proofs.put_some.Goals as goal

pub loop-m-init : goal.loop-m-init
loop-m-init c = (search rules, search rules, laid_none _ _ _)

pub loop-m-preserved : goal.loop-m-preserved
loop-m-preserved c =
    let l = c.loop-m in
    let a = c.args in (
      search rules,
      simp length-set l.invariant.1,
      laid_more a.at l.m (λ i. get_or a.c i 0) a.t.now l.t _ (omega arith) l.invariant.2 refl,
    )

pub shape_of-t : goal.shape_of-t
shape_of-t c = c.loop-m.invariant.1

pub returns : goal.returns
returns c = let e : c.loop-m.m ≡ c.args.n = omega arith in c.loop-m.invariant.2 ∙ simp e
