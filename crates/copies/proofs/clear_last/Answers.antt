-- Only the last byte is stored, with its u low bits 0.
-- The others have no spare bits, so that the whole row is the row cleared: law `last_cleared`.
use Rattle.copies.proofs.InPlace.{last_cleared}
use Rattle.copies.proofs.clear_last.Goals as goal

pub returns : goal.returns
returns c =
    last_cleared c.args.t.now c.args.n c.args.u _
    c.requires.1.0 c.requires.1.1 c.cleared.ensures
