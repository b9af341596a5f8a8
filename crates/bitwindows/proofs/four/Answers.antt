-- Stands on four joins, after a block of points beyond the frame.
-- They are the joins of a list of four places: `four_block`.
use Rattle.bitwindows.proofs.Gathered.{four_block}
use lib.ListN.{replicate}
use mathlib.Core.Path.{ap}
use Rattle.bitwindows.proofs.four.Goals as goal

pub returns : goal.returns
returns c =
    let a = c.args in
    four_block a.grows a.b.now _ _ _ _ _ a.i a.p a.q a.r a.s
    (ap (λ v. replicate 64 v) c.beyond-none.ensures)
    c.join_place-c.ensures c.join_place-d.ensures
    c.join_place-e.ensures c.join_place.ensures
