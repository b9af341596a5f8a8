-- Stands on three joins of the block that was taken first.
-- Byte by byte that is the definition: `four_block`.
use Rattle.bytewindows.proofs.Blocks.{four_block}
use Rattle.bytewindows.proofs.four.Goals as goal

pub returns : goal.returns
returns c =
    let a = c.args in
    four_block a.grows a.b.now _ _ _ _ a.p a.q a.r a.s
    c.block_at-c.ensures c.join_block-d.ensures
    c.join_block-e.ensures c.join_block.ensures
