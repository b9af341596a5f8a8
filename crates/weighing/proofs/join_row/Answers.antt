use borrow.Author.Rules.{rules}
use lib.ListN.{length-set}
use Rattle.rows.specs.Steps.Fold.{join_by}
use Rattle.basics.proofs.Zip.{zip_none, zip_store, zip_all}
use Rattle.weighing.proofs.join_row.Goals as goal

pub loop-i-init : goal.loop-i-init
loop-i-init c = (search rules, search rules, zip_none (join_by c.args.grows) _)

pub loop-i-preserved : goal.loop-i-preserved
loop-i-preserved c =
    let l = c.loop-i in
    let a = c.args in (
      search rules,
      simp length-set l.invariant.1,
      zip_store (join_by a.grows) a.t.now a.by.now l.t l.i
          (search rules) l.invariant.2 c.join.result c.join.ensures,
    )

pub returns : goal.returns
returns c =
    zip_all (join_by c.args.grows) _ _ _ _ c.loop-i-test.false
    c.loop-i.invariant.2
