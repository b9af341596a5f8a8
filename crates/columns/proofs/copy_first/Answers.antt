-- As many bytes of a as the row has are copied over it.
-- Nothing of the row is left.
use Rattle.basics.proofs.Lists.{list_is}
use lib.ListN.{length, get_or}
use lib.Seq.{get_or-take, length-take-le}
use mathlib.Core.Path.{◌∙◌}
use Rattle.columns.proofs.copy_first.Goals as goal

pub returns : goal.returns
returns c =
    let a = c.args.a.now in
    let n = length c.args.t.now in
    c.copy_from_slice.ensures.after
    ∙ list_is (λ i. get_or a i 0) n _ (length-take-le n a c.requires) (λ i h. get_or-take n a i 0 h)
