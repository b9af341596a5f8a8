use mathlib.Core.Path.{refl, ◌∙◌}
use native.Mathlib.Omega.{arith}
use borrow.Author.Rules.{rules}
use lib.ListN.{length-set}
use Rattle.basics.proofs.Lists.{over_none, over_more, over_whole}
use Rattle.candidates.proofs.put_link.Goals as goal

pub loop-j-init : goal.loop-j-init
loop-j-init c = (search rules, search rules, over_none _ _)

pub loop-j-preserved : goal.loop-j-preserved
loop-j-preserved c =
    let l = c.loop-j in (
      omega arith,
      length-set l.t l.j _ ∙ l.invariant.1,
      over_more _ _ l.t l.j _ (omega arith) l.invariant.2 c.link_byte.ensures,
    )

pub returns : goal.returns
returns c = over_whole _ _ _ c.loop-j.j _ c.loop-j.invariant.2 (omega arith) refl
