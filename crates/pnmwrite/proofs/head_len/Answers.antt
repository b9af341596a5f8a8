-- Stands on how many digits W and H have, and on the bytes that end the header.
-- The magic, its line feed and the space are four.
use Rattle.netpbm.proofs.Writing.{head_long}
use native.Mathlib.Omega.{arith}
use Rattle.pnmwrite.proofs.head_len.Goals as goal

pub returns : goal.returns
returns c =
    let a = c.args in
    omega (
      arith,
      head_long a.depth a.w a.h,
      c.decimal_len.ensures.0,
      c.decimal_len-2.ensures.0,
      c.tail_len.ensures.0,
    )
