use Rattle.windows.proofs.Again.{widen_ahead}
use Rattle.windows.specs.Steps.Widened.{widen_by}
use Rattle.windows.proofs.InPlace.{widened_none, widened_more}
use Rattle.windows.specs.Steps.Widened.{widened_by}
use mathlib.Core.Path.{◌≡◌, refl, ap, ◌∙◌}
use native.Mathlib.Omega.{arith}
use borrow.Author.Rules.{rules}
use Rattle.bitwindows.proofs.widen.Goals as goal

pub loop-j-init : goal.loop-j-init
loop-j-init c = (search rules, search rules, widened_none _ _)

pub loop-j-preserved : goal.loop-j-preserved
loop-j-preserved c =
    let l = c.loop-j in
    let a = c.args in
    let p = c.put_block in (
      search rules,
      p.auto.t ∙ l.invariant.1,
      widened_more (widen_by a.grows a.again) (widen_ahead a.grows a.again) a.b.now l.b
          l.j (omega arith) l.invariant.2 _ _ p.new.t refl
          c.widened-c.ensures p.ensures,
    )

pub returns : goal.returns
returns c =
    let a = c.args in
    let e : c.loop-j.j ≡ a.k = omega arith in
    c.loop-j.invariant.2 ∙ ap (λ j. widened_by (widen_by a.grows a.again) j a.b.now) e
