-- The length first: 0 is well made. Else the bytes of that length are one descriptor to the end.
-- The part ends within the share, since the lengths' sum does.
use Rattle.share.proofs.Checks.{entry_end}
use Rattle.share.proofs.entry_made.Goals as goal

pub slice_bounds-well_made-end : goal.slice_bounds-well_made-end
slice_bounds-well_made-end c =
    let a = c.args in
    entry_end a.numbers a.s.now a.n _ c.length_at-k.ensures.0 _ c.total.ensures.0 c.requires
