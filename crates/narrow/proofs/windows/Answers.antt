use Rattle.narrow.proofs.Strips.{window_more}
use mathlib.Core.Path.{refl}
use native.Mathlib.Nat.{le_refl}
use native.Mathlib.Omega.{arith}
use Prim.Native.Nat.{◌+◌, ◌-◌}
use borrow.Author.Rules.{rules}
use Rattle.narrow.proofs.windows.Goals as goal

pub loop-m-preserved : goal.loop-m-preserved
loop-m-preserved c =
    let l = c.loop-m in (
      search rules,
      (
        search rules,
        window_more _ l.v _ _ l.m l.m (l.m + l.m) (le_refl l.m) refl l.invariant.1.1
            c.moved.ensures c.joined-v.ensures,
      ),
    )

pub returns : goal.returns
returns c =
    let l = c.loop-m in
    let n = c.args.n in
    window_more _ l.v _ _ l.m (n - l.m) n (omega arith) (omega arith) l.invariant.1.1
    c.moved-2.ensures c.joined.ensures
