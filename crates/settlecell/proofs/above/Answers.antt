-- The branch settles the definition's own test: the first row has none above, the last none below.
-- Any other has one within the bytes, since the cell's row is one of h.
use Rattle.settle.specs.Steps.Cells.{above_of}
use Rattle.settle.proofs.Loops.{above_room}
use borrow.Author.Tests.{lt-ltb, le-ltb}
use mathlib.Core.Path.{◌∙◌}
use borrow.Author.Rules.{rules}
use native.Mathlib.Omega.{arith}
use Rattle.settlecell.proofs.above.Goals as goal

pub overflow_mul-c : goal.overflow_mul-c
overflow_mul-c c =
    let a = c.args in
    omega (
      arith,
      above_room a.c.n {y = a.c.y} {h = a.c.h} c.requires.in_bins c.if-c-gt0.true,
    )

pub spread-requires : goal.spread-requires
spread-requires c =
    let a = c.args in
    let r = above_room a.c.n {y = a.c.y} {h = a.c.h} c.requires.in_bins c.if-c-gt0.true in
    ((search rules, search rules), (search rules, omega arith))

pub returns-then-c-gt0 : goal.returns-then-c-gt0
unfolding above_of
returns-then-c-gt0 c = c.spread.ensures ∙ simp (lt-ltb _ _ c.if-c-gt0.true)

pub returns-else-c-gt0 : goal.returns-else-c-gt0
unfolding above_of
returns-else-c-gt0 c = simp (le-ltb _ _ c.if-c-gt0.false)
