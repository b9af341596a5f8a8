-- One word after the other: `put_both`.
-- A row of at most 8 bytes leaves nothing to the second.
use Rattle.narrow.proofs.Strips.{put_both}
use native.Mathlib.Omega.{arith}
use Rattle.narrow.proofs.put.Goals as goal

pub returns : goal.returns
returns c =
    let a = c.args in
    let one = c.put_points in
    let two = c.put_points-2 in
    put_both a.over a.x a.w c.requires.0 one.ensures.known two.ensures.known _ _ a.t.now _ _
    (omega (arith, c.requires.0, c.requires.1)) c.min-m.ensures c.saturating_sub.ensures
    one.ensures.bytes two.ensures.bytes
