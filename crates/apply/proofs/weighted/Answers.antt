-- The rows of bytes by the row words and heights.
-- What they promise is the weighted operation as it stands: `weighted_bytes`.
use Rattle.apply.proofs.Applied.{weighted_bytes}
use Rattle.apply.proofs.weighted.Goals as goal

pub returns : goal.returns
returns c =
    let a = c.args in
    weighted_bytes a.w a.h a.o a.words.now a.s.now a.t.now _ a.grows a.heights.now
    c.sweep.ensures
