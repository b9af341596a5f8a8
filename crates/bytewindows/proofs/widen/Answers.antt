use Rattle.bytewindows.proofs.Blocks.{widen_ahead, widen_block}
use Rattle.bytewindows.specs.Steps.Four.{widen_at}
use Rattle.windows.proofs.InPlace.{widened_none, widened_more}
use Rattle.windows.specs.Steps.Widened.{widened_by}
use mathlib.Core.Path.{◌≡◌, refl, ap, ◌∙◌}
use native.Mathlib.Omega.{arith}
use borrow.Author.Rules.{rules}
use Rattle.bytewindows.proofs.widen.Goals as goal

pub loop-j-init : goal.loop-j-init
loop-j-init c = (search rules, search rules, widened_none _ _)

pub loop-j-preserved : goal.loop-j-preserved
loop-j-preserved c =
    let l = c.loop-j in
    let a = c.args in
    let p = c.put_block in (
      search rules,
      p.auto.t ∙ l.invariant.1,
      widened_more (widen_at a.grows a.n) (widen_ahead a.grows a.n) a.b.now l.b l.j
          (omega arith) l.invariant.2 _ _ p.new.t refl
          (widen_block a.grows a.n _ l.b _ c.four-c.ensures)
          p.ensures,
    )

pub returns : goal.returns
returns c =
    let a = c.args in
    let e : c.loop-j.j ≡ a.k = omega arith in
    c.loop-j.invariant.2 ∙ ap (λ j. widened_by (widen_at a.grows a.n) j a.b.now) e
