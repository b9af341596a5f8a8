-- Bytes are joined one by one: what stands p places past byte i is byte i + p.
-- The order of the two sums is all that differs.
use Rattle.rooms.proofs.Lanes.{bytes_place}
use mathlib.Core.Path.{◌∙◌}
use Rattle.rooms.proofs.BytesLane.join_place.Goals as goal

pub returns : goal.returns
returns c =
    let a = c.args in
    c.join_block.ensures ∙ bytes_place a.grows a.c a.b.now a.i a.p
