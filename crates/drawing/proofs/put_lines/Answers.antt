use Rattle.text.specs.Steps.Lines.{line_of}
use Rattle.text.specs.Text.{row_lines}
use Rattle.digits.proofs.Pieces.{upto_none, upto_long, next_fits, upto_more, upto_all}
use Rattle.picture.proofs.Sizes.{row_room}
use Rattle.picture.specs.Frame.{row_bytes}
use native.Mathlib.Omega.{arith}
use Rattle.drawing.proofs.put_lines.Goals as goal

pub loop-y-init : goal.loop-y-init
unfolding row_lines line_of
loop-y-init c = upto_none c.requires.h_in_bounds

pub overflow_cast-y : goal.overflow_cast-y
overflow_cast-y c =
    let p = c.requires.holds in
    omega (arith, c.loop-y-test.true)

pub put_line-next-requires : goal.put_line-next-requires
put_line-next-requires c =
    let p = c.requires.holds in
    let within = c.loop-y-test.true in
    let a = c.args in record {
      w_le_most_pings = (p.few_pings, omega (arith, row_room (row_bytes a.depth a.w) within, p.long));
      y_in_bounds = next_fits c.loop-y.invariant within;
    }

pub loop-y-preserved : goal.loop-y-preserved
loop-y-preserved c =
    upto_more c.loop-y.invariant
    c.loop-y-test.true (c.put_line-next.ensures.value, c.put_line-next.ensures.t_after)

pub shape_of-t : goal.shape_of-t
shape_of-t c = upto_long c.loop-y.invariant

pub returns : goal.returns
unfolding row_lines line_of
returns c =
    let p = upto_all c.loop-y.invariant c.loop-y-test.false in
    record { value = p.0; t_after = p.1 }
