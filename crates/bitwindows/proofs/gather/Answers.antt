use Rattle.windows.proofs.InPlace.{widened_none, widened_more}
use Rattle.windows.proofs.Places.{ahead_gathered}
use Rattle.windows.specs.Steps.Widened.{widened_by}
use Rattle.windows.specs.Steps.Places.{gathered_at}
use mathlib.Core.List.{[], ◌∷◌}
use mathlib.Core.Path.{◌≡◌, refl, ap, ◌∙◌}
use native.Mathlib.Omega.{arith}
use borrow.Author.Rules.{rules}
use Rattle.bitwindows.proofs.gather.Goals as goal

pub loop-j-init : goal.loop-j-init
loop-j-init c = (search rules, search rules, widened_none _ _)

pub loop-j-preserved : goal.loop-j-preserved
loop-j-preserved c =
    let l = c.loop-j in
    let a = c.args in
    let p = c.put_block in
    let at = a.p ∷ a.q ∷ a.r ∷ a.s ∷ [] in (
      search rules,
      p.auto.t ∙ l.invariant.1,
      widened_more (gathered_at a.grows at) (ahead_gathered a.grows at) a.b.now l.b l.j
          (omega arith) l.invariant.2 _ _ p.new.t refl
          c.four-c.ensures p.ensures,
    )

pub returns : goal.returns
returns c =
    let a = c.args in
    let e : c.loop-j.j ≡ a.k = omega arith in
    c.loop-j.invariant.2
    ∙ ap (λ j. widened_by (gathered_at a.grows (a.p ∷ a.q ∷ a.r ∷ a.s ∷ [])) j a.b.now) e
