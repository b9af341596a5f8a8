use Rattle.blocks.proofs.Laid.{laid_none, laid_more}
use lib.ListN.{get_or, length-set}
use mathlib.Core.Path.{refl}
use native.Mathlib.Omega.{arith}
use borrow.Author.Rules.{rules}
use Rattle.blocks.proofs.put_bytes.Goals as goal

pub loop-i-init : goal.loop-i-init
loop-i-init g c = (search rules, search rules, laid_none _ _ _)

pub loop-i-preserved : goal.loop-i-preserved
loop-i-preserved g c =
    let l = c.loop-i in
    let a = c.args in (
      search rules,
      simp length-set l.invariant.1,
      laid_more a.at l.i (λ i. get_or a.c i 0) a.t.now l.t _ (omega arith) l.invariant.2 refl,
    )
