-- The block is taken, joined and put: a piece of 64 bytes.
-- It is read before it is written.
use Rattle.rowruns.proofs.Pieces.{block_piece}
use Rattle.rowruns.proofs.join_block.Goals as goal

pub returns : goal.returns
returns c =
    let a = c.args in
    block_piece a.grows a.i a.s _ a.t.now _ _ _ c.requires c.block_at-c.ensures
    c.join_block-d.ensures c.put_place-at.ensures.0 c.put_block.ensures
