-- The branch settles the definition's own test: the first row has none above, the last none below.
-- Any other has one within the bytes, since the cell's row is one of h.
use Rattle.settle.specs.Steps.Cells.{below_of}
use Rattle.picture.proofs.Sizes.{row_room}
use Prim.Native.Nat.{◌+◌}
use borrow.Author.Tests.{lt-ltb, le-ltb}
use mathlib.Core.Path.{◌∙◌}
use borrow.Author.Rules.{rules}
use native.Mathlib.Omega.{arith}
use Rattle.settlecell.proofs.below.Goals as goal

pub overflow_mul-c : goal.overflow_mul-c
overflow_mul-c c =
    let a = c.args in
    omega (arith, row_room a.c.n {y = a.c.y + 1} {n = a.c.h} c.if-c.true)

pub spread-requires : goal.spread-requires
spread-requires c =
    let a = c.args in
    let r = row_room a.c.n {y = a.c.y + 1} {n = a.c.h} c.if-c.true in
    ((search rules, search rules), (search rules, omega arith))

pub returns-then-c : goal.returns-then-c
unfolding below_of
returns-then-c c = c.spread.ensures ∙ simp (lt-ltb _ _ c.if-c.true)

pub returns-else-c : goal.returns-else-c
unfolding below_of
returns-else-c c = simp (le-ltb _ _ c.if-c.false)
