use mathlib.Core.List.{append-nil, ◌++◌}
use Rattle.basics.proofs.Lists.{fill_none, fill_store}
use Rattle.basics.specs.Lists.{firsts}
use lib.ListN.{get_or, replicate}
use native.Mathlib.Nat.{sub_self}
use Prim.Native.Nat.{◌+◌, ◌-◌}
use mathlib.Core.Path.{◌≡◌, refl, ap, ◌∙◌}
use native.Mathlib.Omega.{arith}
use borrow.Author.Rules.{rules}
use Rattle.blocks.proofs.bytes_at.Goals as goal

pub loop-i-init : goal.loop-i-init
loop-i-init g c = (search rules, fill_none _ g.row.N 0)

pub loop-i-preserved : goal.loop-i-preserved
loop-i-preserved g c =
    let l = c.loop-i in
    let a = c.args in (
      search rules,
      fill_store (λ i. get_or a.s.now (a.at + i) 0) g.row.N 0 l.i l.bytes _ (omega arith)
          l.invariant.1 refl,
    )

pub returns : goal.returns
returns g c =
    let e : c.loop-i.i ≡ g.row.N = omega arith in
    let a = c.args in
    c.loop-i.invariant.1 ∙ ap (λ i. firsts (λ i. get_or a.s.now (a.at + i) 0) i ++ replicate
    (g.row.N - i) 0) e ∙ simp sub_self (append-nil _)
