use Rattle.columns.proofs.Rows.{row_in, down_none, down_more}
use Rattle.columns.specs.Steps.Down.{down_at}
use lib.ListN.{length}
use Prim.Native.Nat.{◌+◌, ◌*◌, ◌≤◌}
use mathlib.Core.Path.{◌≡◌, ap, ◌∙◌}
use native.Mathlib.Omega.{arith}
use borrow.Author.Rules.{rules}
use Rattle.columns.proofs.byte_down.Goals as goal
use Rattle.columns.proofs.byte_down.Goals.{In-loop-v}

room : (c : In-loop-v)
    → ((c.args.lo + c.loop-v.v) * c.args.n + c.args.n
    ≤ length c.args.s.now) × (c.args.lo + c.loop-v.v ≤ length c.args.s.now)
room c = let a = c.args in
    row_in a.lo c.loop-v.v a.count a.n a.n _ c.loop-v-test.true
    (omega (arith, c.requires.0)) (omega (arith, c.requires.1))

pub loop-v-init : goal.loop-v-init
loop-v-init c =
    let a = c.args in (
      search rules,
      c.beyond-c.ensures ∙ down_none a.packed a.grows a.s.now a.n a.lo a.i,
    )

pub loop-v-preserved : goal.loop-v-preserved
loop-v-preserved c =
    let l = c.loop-v in
    let a = c.args in (
      search rules,
      down_more a.packed a.grows a.s.now a.n a.lo l.v a.i l.c _ l.invariant.1
          c.join-c.ensures,
    )

pub returns : goal.returns
returns c =
    let a = c.args in
    let e : c.loop-v.v ≡ a.count = omega arith in
    c.loop-v.invariant.1 ∙ ap (λ v. down_at a.packed a.grows a.s.now a.n a.lo v a.i) e
