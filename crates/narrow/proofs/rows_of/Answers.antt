use mathlib.Core.Path.{◌≡◌, subst}
use Prim.Native.Nat.{ℕ, ◌*◌, ◌≤◌}
use Rattle.narrow.proofs.Rows.{row_near, rows_none, rows_more}
use Rattle.narrow.specs.Steps.Strip.{OffWhere}
use Rattle.narrow.specs.Steps.Row.{NoRow}
use native.Mathlib.Omega.{arith}
use borrow.Author.Rules.{rules}
use Rattle.narrow.proofs.rows_of.Goals as goal
use Rattle.narrow.proofs.rows_of.Goals.{In-loop-i}

near : (c : In-loop-i) → c.loop-i.i * c.args.n ≤ 4096
near c = row_near c.loop-i.i c.args.n c.args.end c.loop-i-test.true c.requires.1.0 c.requires.0

pub loop-i-init : goal.loop-i-init
loop-i-init c = (search rules, (search rules, rows_none _ _ _ _ _))

pub loop-i-preserved : goal.loop-i-preserved
loop-i-preserved c =
    let l = c.loop-i in let a = c.args in (
      search rules,
      (
        search rules,
        rows_more a.over a.s.now a.w a.n a.from l.i l.v _ _ l.invariant.0 l.invariant.1.1
            c.row_at.ensures c.joined-v.ensures,
      ),
    )

pub returns : goal.returns
returns c =
    let l = c.loop-i in let a = c.args in
    subst (λ i. OffWhere l.v (NoRow a.over a.s.now a.w a.n a.from i))
    (last l.i a.end l.invariant.1.0 c.loop-i-test.false) l.invariant.1.1
  where
    last : (i n : ℕ) → i ≤ n → n ≤ i → i ≡ n
    last i n h k = omega arith
