-- Whole blocks first, then the bytes that are left.
-- All of them, in two parts.
use Rattle.rowruns.proofs.Pieces.{piece_whole}
use Rattle.rowruns.proofs.join_all.Goals as goal

pub returns : goal.returns
returns c =
    let a = c.args in
    let b = c.join_blocks-c in
    piece_whole a.grows a.n a.s _ a.t.now _ _ b.ensures.0 c.requires b.ensures.1
    c.join_rest.ensures
