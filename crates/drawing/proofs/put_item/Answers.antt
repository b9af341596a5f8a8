-- Stands on digits: each arm puts the one piece that the definition of a point has there.
-- At 8 bits the piece is the value, or a space and the value.
use Rattle.text.proofs.Texts.{mark_item, first_item, next_item, fits_as, put_as}
use native.Mathlib.Omega.{arith}
use Rattle.drawing.proofs.put_item.Goals as goal

pub put_byte-requires : goal.put_byte-requires
put_byte-requires c =
    omega (arith, fits_as _ (mark_item _ _ _ _ c.in-OneBit.is c.mark_of.ensures) c.requires)

pub returns-in-OneBit : goal.returns-in-OneBit
returns-in-OneBit c =
    let p = put_as _ (mark_item _ _ _ _ c.in-OneBit.is c.mark_of.ensures) _
    (c.put_byte.ensures.value, c.put_byte.ensures.t_after) in
    record { value = p.0; t_after = p.1 }

pub put_decimal-requires : goal.put_decimal-requires
put_decimal-requires c =
    fits_as _ (first_item _ _ _ _ c.in-EightBit.is c.from-n.ensures c.if-x-eq0.true) c.requires

pub returns-then-x-eq0 : goal.returns-then-x-eq0
returns-then-x-eq0 c =
    let p = put_as _ (first_item _ _ _ _ c.in-EightBit.is c.from-n.ensures c.if-x-eq0.true) _
    (c.put_decimal.ensures.value, c.put_decimal.ensures.t_after) in
    record { value = p.0; t_after = p.1 }

pub put_labelled-requires : goal.put_labelled-requires
put_labelled-requires c =
    fits_as _ (next_item _ _ _ _ c.in-EightBit.is c.from-n.ensures c.if-x-eq0.false) c.requires

pub returns-else-x-eq0 : goal.returns-else-x-eq0
returns-else-x-eq0 c =
    let p = put_as _ (next_item _ _ _ _ c.in-EightBit.is c.from-n.ensures c.if-x-eq0.false) _
    (c.put_labelled.ensures.value, c.put_labelled.ensures.t_after) in
    record { value = p.0; t_after = p.1 }
