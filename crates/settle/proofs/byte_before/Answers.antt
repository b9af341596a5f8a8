-- The branch settles the definition's own test.
-- Where there is such a byte, its place lies within the bytes, by what is required.
use Rattle.settle.specs.Steps.Words.{byte_before}
use borrow.Author.Tests.{lt-ltb, le-ltb}
use mathlib.Core.Path.{◌∙◌}
use Rattle.settle.proofs.byte_before.Goals as goal

pub returns-then-j-gt0 : goal.returns-then-j-gt0
unfolding byte_before
returns-then-j-gt0 c = c.from.ensures ∙ simp (lt-ltb _ _ c.if-j-gt0.true)

pub returns-else-j-gt0 : goal.returns-else-j-gt0
unfolding byte_before
returns-else-j-gt0 c = simp (le-ltb _ _ c.if-j-gt0.false)
