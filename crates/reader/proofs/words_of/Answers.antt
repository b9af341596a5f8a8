use Rattle.element.specs.Steps.Words.{row_word, row_words}
use Rattle.element.specs.Descriptor.{most_cells}
use Rattle.basics.proofs.Lists.{fill_none, fill_store}
use mathlib.Core.Path.{◌≡◌, ◌∙◌}
use borrow.Author.Rules.{rules}
use native.Mathlib.Omega.{arith}
use Rattle.reader.proofs.words_of.Goals as goal
use Rattle.reader.proofs.words_of.Goals.{In-loop-r}

pub loop-r-init : goal.loop-r-init
loop-r-init c = (search rules, fill_none _ most_cells 0)

pub loop-r-preserved : goal.loop-r-preserved
unfolding row_word
loop-r-preserved c =
    let l = c.loop-r in
    let a = c.args in (
      search rules,
      fill_store (row_word a.d.now a.n) most_cells 0 l.r _ _ (omega arith)
          l.invariant.1 c.word_at.ensures,
    )

pub returns : goal.returns
unfolding row_words
returns c =
    let e : c.loop-r.r ≡ c.args.h = omega arith in
    c.loop-r.invariant.1 ∙ simp e
