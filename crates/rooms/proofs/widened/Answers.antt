-- Stands on three joins with what stands d, e and f places past,
-- of the block as it was: `four_block`.
use Rattle.rooms.proofs.Windows.{four_block}
use Rattle.rooms.proofs.widened.Goals as goal

pub returns : goal.returns
returns g c =
    let a = c.args in
    four_block g.L.Lane.way a.grows a.b.now a.i _ _ _ _ a.d a.e a.f
    c.block_at-c.ensures c.join_place-x.ensures
    c.join_place-y.ensures c.join_place.ensures
