-- Stands on `copy_over` and `blot`, one after the other in a room that counts as beyond the frame.
-- The last byte of the row is the one with padding.
use Rattle.packedline.proofs.Margins.{padded_made}
use Rattle.packedline.proofs.pad.Goals as goal

pub returns : goal.returns
returns c =
    let a = c.args in
    let e = c.requires.in_bounds.1.1 in
    padded_made a.over a.grows a.s.now a.w _ _ _ e
    c.copy_over.ensures c.blot.ensures
