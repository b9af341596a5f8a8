use Rattle.basics.proofs.Zip.{zip_none, zip_store, zip_all}
use Rattle.rows.specs.Steps.Ways.{weigh_by}
use Rattle.rows.specs.Steps.Fold.{join_by}
use lib.ListN.{length-set}
use mathlib.Core.Path.{ap, ◌∙◌}
use borrow.Author.Rules.{rules}
use Rattle.weighing.proofs.join_weighed.Goals as goal

pub loop-i-init : goal.loop-i-init
loop-i-init c =
    let a = c.args in
    (search rules, search rules, zip_none (λ u v. join_by a.grows u (weigh_by a.grows a.g v)) _)

pub loop-i-preserved : goal.loop-i-preserved
loop-i-preserved c =
    let l = c.loop-i in
    let a = c.args in (
      search rules,
      simp length-set l.invariant.1,
      zip_store (λ u v. join_by a.grows u (weigh_by a.grows a.g v)) a.t.now
          a.by.now l.t l.i (search rules) l.invariant.2 c.join.result
          (c.join.ensures ∙ ap (join_by a.grows _) c.weighed.ensures),
    )

pub returns : goal.returns
returns c =
    let a = c.args in
    zip_all (λ u v. join_by a.grows u (weigh_by a.grows a.g v)) _ _ _ _ c.loop-i-test.false
    c.loop-i.invariant.2
