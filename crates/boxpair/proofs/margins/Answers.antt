-- Stands on two blocks of what counts beyond the frame, one laid after the other.
-- The row is laid over them later.
use Rattle.boxlaw.proofs.Padded.{margins_made}
use mathlib.Core.Path.{refl}
use Rattle.boxpair.proofs.margins.Goals as goal

pub returns : goal.returns
returns c =
    margins_made c.args.packed c.args.grows c.args.n _ _ _ c.args.b.now _ _ refl
    c.beyond-c.ensures c.side_of.ensures c.requires.0 c.put_block.ensures
    c.put_block-2.ensures
