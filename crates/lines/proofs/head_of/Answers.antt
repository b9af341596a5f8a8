-- Each number begins where the one before it ends.
-- So the head is the definition's, number by number.
use Rattle.lines.proofs.Reading.{head_is}
use Rattle.lines.proofs.head_of.Goals as goal

pub returns : goal.returns
returns c =
    head_is _ _ _ _ _ _ _ c.number_at-d.ensures c.number_at-w.ensures c.number_at-h.ensures
    c.number_at-k.ensures c.depth_of-depth.ensures
