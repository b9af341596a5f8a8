use Rattle.marker.specs.Steps.Bytes.{row_within, rows_within}
use Rattle.picture.proofs.Sizes.{row_room}
use Rattle.basics.proofs.Tests.{all_none, all_more, all_stop, all_done}
use Prim.Native.Nat.{◌*◌}
use mathlib.Core.Path.{sym, ◌∙◌}
use native.Mathlib.Omega.{arith}
use borrow.Author.Rules.{rules}
use Rattle.marker.proofs.rows_within.Goals as goal

pub loop-y-init : goal.loop-y-init
loop-y-init c = (search rules, all_none _)

pub overflow_mul-y : goal.overflow_mul-y
overflow_mul-y c = omega (arith, row_room c.args.n c.loop-y-test.true)

pub row_within-requires : goal.row_within-requires
row_within-requires c =
    let r = row_room c.args.n c.loop-y-test.true in
    record {
      le_n = c.requires.le_n;
      n_in_bounds = (omega (arith, r, c.requires.n_in_bounds.0), omega (arith, r, c.requires.n_in_bounds.1));
    }

pub returns-then-not-row_within : goal.returns-then-not-row_within
unfolding rows_within
returns-then-not-row_within c =
    let a = c.args in
    sym (all_stop (λ j. row_within a.a.now a.b.now (j * a.n) a.n a.u) c.loop-y.y a.h
    c.loop-y-test.true (sym c.row_within.ensures ∙ c.if-not-row_within.true))

pub loop-y-preserved : goal.loop-y-preserved
loop-y-preserved c =
    let l = c.loop-y in (
      search rules,
      all_more _ l.y l.invariant.1
          (sym c.row_within.ensures ∙ c.if-not-row_within.false),
    )

pub returns : goal.returns
unfolding rows_within
returns c = sym (all_done _ c.loop-y.y _ (omega arith) c.loop-y.invariant.1)
