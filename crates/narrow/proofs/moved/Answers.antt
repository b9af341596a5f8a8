-- Each word takes in the next one: `moved_at`.
-- Past the third word there is nothing.
use Rattle.narrow.proofs.Strips.{moved_at}
use Rattle.narrow.proofs.moved.Goals as goal

pub returns : goal.returns
returns c =
    moved_at c.args.x _ c.args.d c.requires c.slid.ensures.1 c.slid-2.ensures.1 c.slid-3.ensures.1
