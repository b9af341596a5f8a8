-- The machine's own expression: the cell's row, the row above and the row below.
-- Each is the definition's.
use Rattle.settle.specs.Steps.Cells.{around_of}
use Rattle.picture.proofs.Sizes.{row_room}
use lib.Bits.{bit_or}
use borrow.Author.Rules.{rules}
use native.Mathlib.Omega.{arith}
use Rattle.settlecell.proofs.around.Goals as goal

pub overflow_mul-c : goal.overflow_mul-c
overflow_mul-c c = omega (arith, row_room c.args.c.n c.requires.in_bins)

pub across-own-requires : goal.across-own-requires
across-own-requires c =
    ((search rules, search rules), (search rules, omega (arith, row_room c.args.c.n c.requires.in_bins)))

pub returns : goal.returns
unfolding around_of
returns c =
    λ i. bit_or (bit_or (c.across-own.ensures i) (c.above.ensures i)) (c.below.ensures i)
