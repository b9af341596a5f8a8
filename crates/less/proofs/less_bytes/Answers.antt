use borrow.Author.Rules.{rules}
use lib.ListN.{length-set}
use Rattle.less.specs.Steps.Sides.{less_by}
use Rattle.basics.proofs.Zip.{zip_none, zip_store, zip_all}
use Rattle.less.proofs.less_bytes.Goals as goal

pub loop-i-init : goal.loop-i-init
loop-i-init c = (search rules, search rules, zip_none (less_by c.args.depth c.args.from) _)

pub loop-i-preserved : goal.loop-i-preserved
loop-i-preserved c =
    let l = c.loop-i in
    let a = c.args in (
      search rules,
      simp length-set l.invariant.1,
      zip_store (less_by a.depth a.from) a.t.now a.by.now l.t l.i
          (search rules) l.invariant.2 c.less_by.result c.less_by.ensures,
    )

pub returns : goal.returns
returns c =
    zip_all (less_by c.args.depth c.args.from) _ _ _ _ c.loop-i-test.false
    c.loop-i.invariant.2
