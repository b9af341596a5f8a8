use Rattle.mates.proofs.Steps.{points_none, points_more}
use mathlib.Core.Path.{refl, ◌∙◌}
use borrow.Author.Rules.{rules}
use Rattle.labels.proofs.unite_points.Goals as goal

pub loop-i-init : goal.loop-i-init
loop-i-init c = (search rules, refl, points_none _ _ _ _)

pub loop-i-preserved : goal.loop-i-preserved
loop-i-preserved c =
    let l = c.loop-i in
    let u = c.unite_point in (
      search rules,
      u.auto.up ∙ l.invariant.1,
      points_more _ _ _ _ l.up _ l.i l.invariant.2
          u.ensures,
    )
