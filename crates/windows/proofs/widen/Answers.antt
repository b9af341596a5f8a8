use Rattle.windows.proofs.Again.{widen_ahead}
use Rattle.windows.proofs.InPlace.{widened_none, widened_more}
use Rattle.windows.specs.Steps.Widened.{widen_by, widened_by}
use mathlib.Core.Path.{◌≡◌, refl, ap, ◌∙◌}
use native.Mathlib.Omega.{arith}
use lib.Dec.{eqb}
use borrow.Author.Rules.{rules}
use Rattle.windows.proofs.widen.Goals as goal

pub loop-k-init : goal.loop-k-init
loop-k-init g c = (search rules, search rules, widened_none _ _)

pub loop-k-preserved : goal.loop-k-preserved
loop-k-preserved g c =
    let l = c.loop-k in
    let a = c.args in
    let p = c.put_block in (
      search rules,
      p.auto.t ∙ l.invariant.1,
      widened_more (widen_by a.grows (eqb g.row.M 4)) (widen_ahead a.grows (eqb g.row.M 4)) a.b.now l.b
          l.k (omega arith) l.invariant.2 _ _ p.new.t refl
          c.widened-c.ensures p.ensures,
    )

pub returns : goal.returns
returns g c =
    let a = c.args in
    let e : c.loop-k.k ≡ a.n = omega arith in
    c.loop-k.invariant.2 ∙ ap (λ k. widened_by (widen_by a.grows (eqb g.row.M 4)) k a.b.now) e
