-- Each field is what the call for it returns, of the extent that was measured: law `hull_is`.
-- Left and top are below 64, as the rows of own cells ask.
use Rattle.hulls.proofs.Hulls.{hull_is}
use Rattle.hulls.proofs.hull_of.Goals as goal

pub returns : goal.returns
returns c =
    hull_is _ _ _ _ _ _ _ _ _ _ _ _ _ c.extent_of-x.ensures
    c.side_of-across.ensures c.side_of-down.ensures
    c.cut_of.ensures c.cut_of-2.ensures c.cut_of-3.ensures
    c.cut_of-4.ensures
    c.min.ensures c.min-left.ensures
    c.min-2.ensures c.min-top.ensures
    c.own_rows-own.ensures
