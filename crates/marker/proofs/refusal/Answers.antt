-- Stands on judge's refusal, of the mask and then of the marker, with MARKER handed to it as what was found.
-- Nothing is written, so that nothing else falls: one answer waits on the other, and both are the whole list.
use Rattle.marker.proofs.Judged.{judged}
use Rattle.marker.proofs.refusal.Goals as goal

pub returns : goal.returns
returns c =
    let a = c.args in
    judged a.w a.h a.marker.now a.mask.now a.room _ _ _
    c.marker_answer-found.ensures c.refusal-then.ensures c.refusal.ensures
