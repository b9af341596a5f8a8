-- The branch settles the definition's own test.
-- Where there is such a byte, its place lies within the bytes, by what is required.
use Rattle.settle.specs.Steps.Words.{byte_from}
use borrow.Author.Tests.{lt-ltb, le-ltb}
use mathlib.Core.Path.{◌∙◌}
use Rattle.settle.proofs.byte_from.Goals as goal

pub returns-then-j-n : goal.returns-then-j-n
unfolding byte_from
returns-then-j-n c = c.from.ensures ∙ simp (lt-ltb _ _ c.if-j-n.true)

pub returns-else-j-n : goal.returns-else-j-n
unfolding byte_from
returns-else-j-n c = simp (le-ltb _ _ c.if-j-n.false)
