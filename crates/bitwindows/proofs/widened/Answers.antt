-- Stands on three joins of the block as it was, with the points 1, 2 and 3 further on, or 4, 8 and 12.
-- Byte by byte that is the definition: `wide_block`, `wider_block`.
use Rattle.windows.proofs.Again.{wide_block, wider_block}
use Rattle.bitwindows.proofs.widened.Goals as goal

pub returns-then-again : goal.returns-then-again
returns-then-again c =
    let a = c.args in
    wider_block a.grows a.again a.b.now _ _ _ _ a.i
    c.block_at-c.ensures c.if-again.true
    c.join_bits-d.ensures c.join_block-e.ensures c.join_bits.ensures

pub returns : goal.returns
returns c =
    let a = c.args in
    wide_block a.grows a.again a.b.now _ _ _ _ a.i
    c.block_at-c.ensures c.if-again.false
    c.join_bits-d-2.ensures c.join_bits-e.ensures c.join_bits-2.ensures
