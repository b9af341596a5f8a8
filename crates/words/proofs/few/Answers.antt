use Rattle.basics.proofs.Bits.{digits_none, digits_more}
use Rattle.words.specs.Steps.Words.{word_in}
use native.Mathlib.Omega.{arith}
use Prim.Native.Nat.{ℕ, ◌+◌, ◌≤◌}
use borrow.Author.Rules.{rules}
use Rattle.basics.specs.Bits.{digits}
use lib.ListN.{get_or}
use mathlib.Core.Path.{◌≡◌, ap, ◌∙◌}
use Rattle.words.proofs.few.Goals as goal

pub loop-i-init : goal.loop-i-init
loop-i-init c = (
  search rules,
  digits_none 8 _ (λ i. let f = c.type_inv.s (c.args.at + i) in omega arith),
)

pub loop-i-preserved : goal.loop-i-preserved
loop-i-preserved c =
    let l = c.loop-i in (
      search rules,
      c.more-v.ensures
          ∙ digits_more 8 _ (λ i. let f = c.type_inv.s (c.args.at + i) in
          omega arith) 64
          l.i l.v _ (omega arith) l.invariant.1 c.byte_at.ensures,
    )

pub returns : goal.returns
unfolding word_in
returns c =
    let l = c.loop-i in
    l.invariant.1 ∙ ap (digits 8 (λ i. get_or c.args.s.now (c.args.at + i) 0))
    (last l.i l.invariant.0 c.loop-i-test.false)
  where
    last : (i : ℕ) → i ≤ 8 → 8 ≤ i → i ≡ 8
    last i h k = omega arith
