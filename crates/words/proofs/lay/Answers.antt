use borrow.Author.Rules.{rules}
use Prim.Native.Nat.{ℕ, ◌-◌, ◌≤◌}
use native.Mathlib.Omega.{arith}
use mathlib.Core.Path.{◌≡◌, refl, ap, ◌∙◌}
use lib.ListN.{length-set}
use Rattle.blocks.proofs.Laid.{laid_none, laid_more}
use Rattle.blocks.specs.Steps.Laid.{laid}
use Rattle.words.specs.Steps.Words.{byte_of}
use Rattle.words.proofs.lay.Goals as goal

pub loop-i-init : goal.loop-i-init
loop-i-init c = (search rules, (refl, laid_none _ _ _))

pub loop-i-preserved : goal.loop-i-preserved
loop-i-preserved c =
    let l = c.loop-i in
    let a = c.args in (
      search rules,
      (
        simp length-set l.invariant.1.0,
        laid_more a.from l.i (byte_of a.v) a.t.now l.t _ (omega arith) l.invariant.1.1
            c.byte_of.ensures,
      ),
    )

pub returns : goal.returns
returns c =
    let l = c.loop-i in
    let a = c.args in
    l.invariant.1.1 ∙ ap (λ n. laid a.from n (byte_of a.v) a.t.now)
    (last l.i (a.end - a.from) l.invariant.0 c.loop-i-test.false)
  where
    last : (i n : ℕ) → i ≤ n → n ≤ i → i ≡ n
    last i n h k = omega arith
