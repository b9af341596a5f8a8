use Rattle.windows.proofs.InPlace.{widened_none, widened_more}
use Rattle.windows.proofs.Places.{ahead_gathered, gathered_block}
use Rattle.windows.specs.Steps.Widened.{widened_by}
use Rattle.windows.specs.Steps.Places.{gathered_at}
use lib.ListN.{replicate}
use mathlib.Core.Path.{◌≡◌, refl, ap, ◌∙◌}
use native.Mathlib.Omega.{arith}
use borrow.Author.Rules.{rules}
use Rattle.windows.proofs.gather.Goals as goal

pub loop-k-init : goal.loop-k-init
loop-k-init c = (search rules, search rules, widened_none _ _)

pub join_places-e-requires : goal.join_places-e-requires
join_places-e-requires c =
    let l = c.loop-k in
    λ j h. omega (arith, c.requires.reached j h, l.invariant.1)

pub loop-k-preserved : goal.loop-k-preserved
loop-k-preserved c =
    let l = c.loop-k in
    let a = c.args in
    let p = c.put_block in
    let first = c.beyond-c in (
      search rules,
      p.auto.t ∙ l.invariant.1,
      widened_more (gathered_at a.grows a.at.now) (ahead_gathered a.grows a.at.now) a.b.now
          l.b l.k (omega arith) l.invariant.2 _ _ p.new.t refl
          (gathered_block a.grows _ l.b _ a.at.now _ (ap (λ v. replicate 64 v) first.ensures)
          c.join_places-e.ensures)
          p.ensures,
    )

pub returns : goal.returns
returns c =
    let a = c.args in
    let e : c.loop-k.k ≡ a.n = omega arith in
    c.loop-k.invariant.2 ∙ ap (λ k. widened_by (gathered_at a.grows a.at.now) k a.b.now) e
