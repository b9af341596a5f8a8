-- Each number is counted from the lesser of origin and first.
-- The definition has the same four differences.
use Rattle.hulls.proofs.Hulls.{side_is}
use Rattle.hulls.proofs.side_of.Goals as goal

pub returns : goal.returns
returns c =
    side_is _ _ _ _ _ _ _ _ _ c.min-start.ensures
    c.max.ensures c.saturating_sub.ensures
    c.saturating_sub-2.ensures c.saturating_sub-3.ensures c.saturating_sub-4.ensures
