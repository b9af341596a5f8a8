-- The point of a number lies in the column of the remainder and the row of the quotient.
-- Both are within the frame, whose bytes are there.
use Rattle.mates.proofs.Frames.{column_in, row_in, point_within}
use Rattle.regions.specs.Regions.{point_of}
use native.Mathlib.Omega.{arith}
use Rattle.mates.proofs.point.Goals as goal

pub overflow_cast-x : goal.overflow_cast-x
overflow_cast-x c =
    let a = c.args in
    omega (
      arith,
      column_in _ a.w a.h a.i c.requires.framed c.requires.i_bound,
      c.requires.framed.few_pings,
    )

pub overflow_cast-y : goal.overflow_cast-y
overflow_cast-y c =
    let a = c.args in
    omega (
      arith,
      row_in _ a.w a.h a.i c.requires.framed c.requires.i_bound,
      c.requires.framed.few_bins,
    )

pub value-requires : goal.value-requires
value-requires c =
    let a = c.args in
    point_within _ a.w a.h a.i c.requires.framed c.requires.i_bound

pub returns : goal.returns
unfolding point_of
returns c = c.value.ensures
