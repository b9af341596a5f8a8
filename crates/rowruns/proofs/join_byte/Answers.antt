-- A piece of one byte.
-- Both bytes are read before one is written.
use Rattle.rowruns.proofs.Pieces.{byte_piece}
use Rattle.rowruns.proofs.join_byte.Goals as goal

pub returns : goal.returns
returns c =
    let a = c.args in
    byte_piece a.grows a.i a.s _ _ a.t.now c.requires
    c.put_place-at.ensures.0
    c.joined.ensures
