use Prim.Native.Nat.{ℕ}
use Rattle.blocks.proofs.Laid.{block_more, block_still, laid_none}
use Rattle.blocks.specs.Steps.Joins.{join_packed}
use Rattle.blocks.specs.Steps.Laid.{laid}
use lib.ListN.{length, get_or, length-set}
use mathlib.Core.Path.{◌≡◌, refl, ap, ◌∙◌}
use native.Mathlib.Omega.{arith}
use borrow.Author.Rules.{rules}
use Rattle.blocks.proofs.join_bytes.Goals as goal

pub loop-i-init : goal.loop-i-init
loop-i-init c = (search rules, search rules, laid_none _ _ _)

pub loop-i-preserved : goal.loop-i-preserved
loop-i-preserved c =
    let l = c.loop-i in
    let a = c.args in
    let n = length a.t.now in
    let f : ℕ → ℕ = λ i. join_packed a.grows (get_or a.t.now i 0) (get_or a.b.now i 0) in (
      search rules,
      simp length-set l.invariant.1,
      block_more n f a.t.now l.t l.i refl l.invariant.2 c.joined.result (omega arith)
          (c.joined.ensures ∙ ap (λ n. join_packed a.grows n (get_or a.b.now l.i 0))
          (block_still n f a.t.now l.t l.i refl l.invariant.2 (omega arith))),
    )

pub returns : goal.returns
returns c =
    let a = c.args in
    let e : c.loop-i.i ≡ length a.t.now = omega arith in
    c.loop-i.invariant.2
    ∙ ap (λ i. laid 0 i (λ i. join_packed a.grows (get_or a.t.now i 0) (get_or a.b.now i 0))
    a.t.now) e
