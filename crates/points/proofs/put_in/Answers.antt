-- Stands on the two arms of the definition, of one bit on one_bit_put.
-- At 8 bits the value is the byte.
use Rattle.picture.specs.Points.{put_in}
use mathlib.Core.Path.{sym, ap}
use Rattle.points.proofs.put_in.Goals as goal

pub returns-in-EightBit : goal.returns-in-EightBit
unfolding put_in
returns-in-EightBit c =
    let a = c.args in
    ap (λ d. put_in d a.b a.p.0 a.v) (sym c.in-EightBit.is)
