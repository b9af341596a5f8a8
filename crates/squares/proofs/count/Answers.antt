use Prim.Native.Nat.{◌+◌}
use mathlib.Core.Path.{◌≡◌, ap, ◌∙◌}
use native.Mathlib.Omega.{arith}
use lib.Count.{ones}
use lib.ListN.{length, get_or}
use Rattle.morphology.specs.Operations.{fold}
use borrow.Author.Rules.{rules}
use Rattle.squares.proofs.Sums.{sum_none, sum_more}
use Rattle.squares.proofs.count.Goals as goal

pub loop-b-init : goal.loop-b-init
loop-b-init c = (search rules, search rules, sum_none _)

pub loop-b-preserved : goal.loop-b-preserved
loop-b-preserved c =
    let l = c.loop-b in (
      search rules,
      omega (arith, l.invariant.1, c.ones_in-v.ensures),
      sum_more _ l.b-index l.v _ l.invariant.2 c.ones_in-v.ensures.0,
    )

pub returns : goal.returns
returns c =
    let a = c.args in
    let e : c.loop-b.b-index ≡ length a.t.now = omega arith in
    c.loop-b.invariant.2 ∙ ap (fold ◌+◌ 0 (λ i. ones (get_or a.t.now i 0))) e
