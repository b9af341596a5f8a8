-- Word by word, and so place by place: `join_at_lem`.
-- Nothing falls: there is no loop.
use Rattle.narrow.proofs.Strips.{join_at_lem}
use Rattle.narrow.proofs.joined.Goals as goal

pub returns : goal.returns
returns c = join_at_lem c.args.x c.args.y
