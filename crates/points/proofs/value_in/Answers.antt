-- Stands on the two arms of the definition: the shifted byte's lowest bit is the column's.
-- At 8 bits the byte is the value.
use Rattle.picture.specs.Points.{value_in}
use lib.Bits.{bit_and, and_mask}
use Prim.Native.Nat.{◌^◌, ◌/◌}
use mathlib.Core.Path.{sym, ap, ◌∙◌}
use Rattle.points.proofs.value_in.Goals as goal

pub returns-in-OneBit : goal.returns-in-OneBit
unfolding value_in
returns-in-OneBit c =
    let a = c.args in
    ap (λ n. bit_and (a.b / 2 ^ n) 1) c.shift_of.ensures ∙ and_mask _ 1
    ∙ ap (λ d. value_in d a.b a.p.0) (sym c.in-OneBit.is)

pub returns-in-EightBit : goal.returns-in-EightBit
unfolding value_in
returns-in-EightBit c =
    let a = c.args in
    ap (λ d. value_in d a.b a.p.0) (sym c.in-EightBit.is)
