-- The copied marker is what growth begins with; what it leaves is what the marker grows to, `made_from`.
-- The marker lies within the mask, since no point of it is outside.
use Rattle.reconstruct.proofs.Made.{made_from}
use Rattle.grown.proofs.Marker.{outside_none}
use Rattle.picture.specs.declared.Depth.TheVariants.{OneBit}
use Rattle.picture.specs.Frame.{frame}
use Rattle.picture.specs.Points.{value_at}
use native.Mathlib.Omega.{arith}
use Rattle.reconstruct.proofs.make.Goals as goal

pub returns : goal.returns
returns c =
    let a = c.args in
    let mask = value_at OneBit a.mask.now a.w in
    let marker = value_at OneBit a.marker.now a.w in
    made_from a.neighbours a.w a.h c.requires.holds.some_pings a.marker.now a.mask.now
    ((outside_none (frame a.w a.h) mask marker).0 c.requires.w_value) a.target.now _ _
    (λ i. omega (
      arith,
      c.slice_known-1.given i,
    )) c.requires.holds_3.long c.copy_picture.ensures
    _ _ _ c.is_square.ensures c.row_bytes-n.ensures c.spare_bits-u.ensures c.grow.ensures.grew
    c.grow.ensures.still
