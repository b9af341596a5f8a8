-- By the tests: an element that fits the frame, and at least one block.
-- No number is past 257 rows of 1,024.
use Prim.Native.Nat.{◌+◌, ◌-◌}
use Rattle.cellwise.proofs.Made.{size_few, one_row}
use native.Mathlib.Omega.{arith}
use Rattle.cellwise.proofs.middle_bytes.Goals as goal

pub overflow_mul-n : goal.overflow_mul-n
overflow_mul-n c =
    let a = c.args in
    omega (arith, size_few (a.h + 1 - a.o.h) a.w (omega (arith, c.requires.1.1)) c.requires.1.0)

pub overflow_add-n-2 : goal.overflow_add-n-2
overflow_add-n-2 c =
    let a = c.args in
    omega (arith, size_few (a.h + 1 - a.o.h) a.w (omega (arith, c.requires.1.1)) c.requires.1.0)

pub overflow_sub-n-2 : goal.overflow_sub-n-2
overflow_sub-n-2 c =
    let a = c.args in
    omega (arith, one_row (a.h + 1 - a.o.h) a.w (omega arith))
