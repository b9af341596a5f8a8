-- Stands on `bytes_at`, of 64 bytes.
-- That they are those from the place on is its own clause.
use Rattle.blocks.specs.Steps.Block.{block_of}
use Rattle.blocks.proofs.block_at.Goals as goal

pub returns : goal.returns
unfolding block_of
returns c = c.bytes_at.ensures
