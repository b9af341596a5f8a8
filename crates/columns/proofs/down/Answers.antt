use Rattle.columns.proofs.Rows.{row_in, block_none, block_more}
use Rattle.columns.specs.Steps.Down.{down_at}
use Rattle.basics.specs.Lists.{firsts}
use Rattle.basics.proofs.Lists.{length_firsts}
use lib.ListN.{length}
use Prim.Native.Nat.{◌+◌, ◌*◌, ◌≤◌}
use mathlib.Core.Path.{◌≡◌, refl, ap, ◌∙◌}
use native.Mathlib.Omega.{arith}
use borrow.Author.Rules.{rules}
use Rattle.columns.proofs.down.Goals as goal
use Rattle.columns.proofs.down.Goals.{In-loop-v}

room : (c : In-loop-v)
    → ((c.args.lo + c.loop-v.v) * c.args.n + (c.args.i + 64)
    ≤ length c.args.s.now) × (c.args.lo + c.loop-v.v ≤ length c.args.s.now)
room c = let a = c.args in
    row_in a.lo c.loop-v.v a.count a.n _ _ c.loop-v-test.true c.requires.0
    c.requires.1

pub loop-v-init : goal.loop-v-init
loop-v-init c =
    let a = c.args in (
      search rules,
      search rules,
      block_none a.packed a.grows a.s.now a.n a.lo a.i _ _ c.beyond-c.ensures refl,
    )

pub loop-v-preserved : goal.loop-v-preserved
loop-v-preserved c =
    let l = c.loop-v in
    let a = c.args in
    let e = block_more a.packed a.grows a.s.now a.n a.lo l.v a.i l.c _ l.invariant.2
    c.join_block-next.ensures in
    (search rules, ap length e ∙ length_firsts _ 64, e)

pub returns : goal.returns
returns c =
    let a = c.args in
    let e : c.loop-v.v ≡ a.count = omega arith in
    c.loop-v.invariant.2 ∙ ap (λ v. firsts (λ m. down_at a.packed a.grows a.s.now a.n a.lo v
    (a.i + m)) 64) e
