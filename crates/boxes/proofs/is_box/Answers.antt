use Rattle.boxes.specs.Steps.Box.{is_box}
use Rattle.packedline.specs.Steps.Cells.{run_word}
use Rattle.basics.proofs.Tests.{all_none, all_more, all_stop, all_done}
use borrow.Author.Tests.{eq-eqb, ne_eqb}
use lib.Dec.{eqb}
use lib.ListN.{get_or}
use mathlib.Core.Bool.{true}
use mathlib.Core.Path.{sym, ◌∙◌}
use native.Mathlib.Omega.{arith}
use borrow.Author.Rules.{rules}
use Rattle.boxes.proofs.is_box.Goals as goal

pub loop-r-init : goal.loop-r-init
loop-r-init c = (search rules, all_none _)

pub returns-then-words-r : goal.returns-then-words-r
unfolding is_box
returns-then-words-r c =
    let a = c.args in
    let l = c.loop-r in
    sym (all_stop (λ r. eqb (get_or a.words.now r 0) (run_word a.o.w)) l.r a.o.h
    c.loop-r-test.true
    (ne_eqb _ _ (λ q. c.if-words-r.true (q ∙ sym c.run_word-run.ensures))))

pub loop-r-preserved : goal.loop-r-preserved
loop-r-preserved c =
    let a = c.args in
    let l = c.loop-r in (
      search rules,
      all_more (λ r. eqb (get_or a.words.now r 0) (run_word a.o.w)) l.r l.invariant.1
          (eq-eqb _ _ (c.if-words-r.false ∙ c.run_word-run.ensures)),
    )

pub returns : goal.returns
unfolding is_box
returns c = sym (all_done _ c.loop-r.r _ (omega arith) c.loop-r.invariant.1)
