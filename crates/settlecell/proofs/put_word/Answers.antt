use Rattle.settle.specs.Steps.Words.{byte_of}
use Rattle.basics.proofs.Lists.{over_none, over_more, over_whole}
use lib.ListN.{length-set}
use borrow.Author.Rules.{rules}
use native.Mathlib.Omega.{arith}
use Rattle.settlecell.proofs.put_word.Goals as goal

pub loop-i-init : goal.loop-i-init
loop-i-init c = (search rules, search rules, over_none _ _)

pub loop-i-preserved : goal.loop-i-preserved
loop-i-preserved c =
    let l = c.loop-i in
    let a = c.args in (
      search rules,
      simp length-set l.invariant.1,
      over_more (byte_of a.v a.k) a.t.now l.t l.i c.byte_of.result (omega arith) l.invariant.2
          c.byte_of.ensures,
    )

pub returns : goal.returns
returns c = over_whole _ _ _ c.loop-i.i _ c.loop-i.invariant.2 (omega arith) (omega arith)
