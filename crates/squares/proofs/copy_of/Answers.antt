-- The row is copied over the first bytes of a room of none.
-- The others stay 0.
use mathlib.Core.Path.{refl, ap₂, ◌∙◌}
use mathlib.Core.List.{◌++◌}
use lib.ListN.{length, get_or}
use Rattle.std.proofs.lemmas.List.{drop-replicate}
use Rattle.basics.proofs.Lists.{list_is}
use Rattle.squares.proofs.copy_of.Goals as goal

pub returns : goal.returns
returns c =
    let t = c.args.t.now in
    ap₂ ◌++◌ (c.copy_from_slice.ensures.after ∙ list_is (λ i. get_or t i 0) (length t) t refl (λ i h. refl))
    (drop-replicate (length t) 128 0)
