-- Stands on `copy_over` and `blot`, one after the other in rooms that count as beyond the frame.
-- The last byte of the row is the one with padding.
use Rattle.bitparts.proofs.Filled.{padded_made}
use Rattle.bitsource.proofs.pad.Goals as goal

pub returns : goal.returns
returns c =
    let a = c.args in
    padded_made a.grows a.at a.s.now a.w _ _ _ c.requires.fit.empty
    c.copy_over.ensures c.blot.ensures
