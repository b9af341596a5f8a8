use Rattle.settle.proofs.Loops.{still_flooded}
use Rattle.settle.specs.Steps.Words.{once_in, flooded}
use Prim.Native.Nat.{ℕ, ◌≤◌, ◌-◌, ◌+◌}
use mathlib.Core.Path.{◌≡◌, refl, sym, ap, ◌∙◌}
use borrow.Author.Rules.{rules}
use native.Mathlib.Numerals.{add-one}
use native.Mathlib.Omega.{arith}
use Rattle.settlecell.proofs.flood.Goals as goal

pub loop-i-init : goal.loop-i-init
unfolding flooded
loop-i-init c = (search rules, refl)

pub returns-then-next-v : goal.returns-then-next-v
returns-then-next-v c =
    let a = c.args in
    let l = c.loop-i in
    still_flooded a.m a.o a.c l.v l.i (64 - l.i) l.invariant.1
    (sym c.once_in-next.ensures ∙ c.if-next-v.true)
    ∙ ap (flooded a.m a.o a.c) (left l.i l.invariant.0)
  where
    left : (i : ℕ) → i ≤ 64 → i + (64 - i) ≡ 64
    left i h = omega arith

pub loop-i-preserved : goal.loop-i-preserved
unfolding flooded
loop-i-preserved c =
    let a = c.args in
    let l = c.loop-i in (
      search rules,
      c.once_in-next.ensures ∙ ap (once_in a.m a.o) l.invariant.1
          ∙ ap (flooded a.m a.o a.c) (sym (add-one l.i)),
    )

pub returns : goal.returns
returns c =
    let a = c.args in
    let l = c.loop-i in
    l.invariant.1 ∙ ap (flooded a.m a.o a.c) (all l.i l.invariant.0 (omega arith))
  where
    all : (i : ℕ) → i ≤ 64 → 64 ≤ i → i ≡ 64
    all i h k = omega arith
