use Rattle.mates.proofs.Steps.{alone_none, alone_more}
use lib.ListN.{length-set}
use mathlib.Core.Path.{refl, ◌∙◌}
use native.Mathlib.Omega.{arith}
use borrow.Author.Rules.{rules}
use Rattle.labels.proofs.part.Goals as goal

pub loop-i-init : goal.loop-i-init
loop-i-init c = (search rules, refl, alone_none _)

pub loop-i-preserved : goal.loop-i-preserved
loop-i-preserved c =
    let l = c.loop-i in let a = c.args in (
      search rules,
      length-set l.up l.i l.i ∙ l.invariant.1,
      alone_more a.up.now l.up l.i
          (omega arith) l.invariant.2,
    )
