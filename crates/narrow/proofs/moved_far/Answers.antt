-- Up to 63 places by `moved`; from 64 on a whole word first: `moved_on`.
-- Nothing falls: there is no loop.
use Rattle.narrow.proofs.Strips.{moved_on}
use Rattle.narrow.proofs.moved_far.Goals as goal

pub returns : goal.returns
returns c = moved_on c.args.x _ c.args.d c.if-d-lt64.false c.moved-2.ensures
