use Rattle.marker.proofs.Within.{row_stopped, row_passed}
use Rattle.basics.proofs.Tests.{all_none, all_more}
use mathlib.Core.Path.{sym, ◌∙◌}
use native.Mathlib.Omega.{arith}
use borrow.Author.Rules.{rules}
use Rattle.marker.proofs.row_within.Goals as goal

pub loop-i-init : goal.loop-i-init
loop-i-init c = (search rules, all_none _)

pub returns-then-not-byte_within : goal.returns-then-not-byte_within
returns-then-not-byte_within c =
    let a = c.args in
    row_stopped a.a.now a.b.now a.at a.n a.u c.loop-i.i
    c.loop-i-test.true
    (sym c.byte_within.ensures ∙ c.if-not-byte_within.true)

pub loop-i-preserved : goal.loop-i-preserved
loop-i-preserved c =
    let l = c.loop-i in (
      search rules,
      all_more _ l.i l.invariant.1
          (sym c.byte_within.ensures ∙ c.if-not-byte_within.false),
    )

pub returns : goal.returns
returns c =
    let a = c.args in
    row_passed a.a.now a.b.now a.at a.n a.u c.loop-i.i
    (omega arith) c.loop-i.invariant.1 _ c.byte_within-2.ensures
