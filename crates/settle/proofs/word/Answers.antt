-- Eight bytes are read at once, fewer one by one.
-- Either way it is the word of as many bytes.
use Rattle.settle.specs.Steps.Words.{word_of}
use mathlib.Core.Path.{sym, ap, ◌∙◌}
use Rattle.settle.proofs.word.Goals as goal

pub returns-then-k-eq-BYTES : goal.returns-then-k-eq-BYTES
returns-then-k-eq-BYTES c =
    let a = c.args in
    c.eight.ensures ∙ ap (word_of a.s.now a.at) (sym c.if-k-eq-BYTES.true)
