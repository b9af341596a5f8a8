use Rattle.basics.proofs.Tests.{all_none, all_more, all_stop, all_done}
use Rattle.strokes.proofs.RowKinds.{kind_is, word_masked, other_kind, this_kind}
use Rattle.strokes.specs.Steps.Strokes.{kind_at, lacks_kind}
use lib.Dec.{eqb}
use lib.ListN.{get_or}
use mathlib.Core.Bool.{true, not}
use mathlib.Core.Path.{sym}
use native.Mathlib.Omega.{arith}
use borrow.Author.Rules.{rules}
use Rattle.strokes.proofs.lacks_kind.Goals as goal

pub loop-r-init : goal.loop-r-init
loop-r-init c = (search rules, all_none _)

pub returns-then-kind_of-k : goal.returns-then-kind_of-k
unfolding lacks_kind
returns-then-kind_of-k c =
    let l = c.loop-r in
    let a = c.args in
    sym (all_stop (λ r. not (eqb (kind_at a.o a.words.now r) a.k)) l.r a.o.h (omega arith)
    (this_kind a.o a.words.now a.k l.r _
    (kind_is a.o a.words.now l.r _ _ _
    (word_masked (get_or a.words.now l.r 0) a.o.w _ c.run_word.ensures)
    c.level_of-n.ensures c.kind_of.ensures) c.if-kind_of-k.true))

pub loop-r-preserved : goal.loop-r-preserved
loop-r-preserved c =
    let l = c.loop-r in
    let a = c.args in (
      search rules,
      all_more (λ r. not (eqb (kind_at a.o a.words.now r) a.k)) l.r l.invariant.1
          (other_kind a.o a.words.now a.k l.r _
          (kind_is a.o a.words.now l.r _ _ _
          (word_masked (get_or a.words.now l.r 0) a.o.w _ c.run_word.ensures)
          c.level_of-n.ensures c.kind_of.ensures) c.if-kind_of-k.false),
    )

pub returns : goal.returns
unfolding lacks_kind
returns c = sym (all_done _ c.loop-r.r _ (omega arith) c.loop-r.invariant.1)
