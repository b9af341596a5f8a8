-- Stands on `spare` and `blotted`: one byte is stored, the others stay.
-- Where the row has no padding the byte stays too.
use Rattle.packedline.specs.Steps.Padded.{blotted_by}
use lib.ListN.{get_or, set}
use mathlib.Core.Path.{ap, ◌∙◌}
use Rattle.packedline.proofs.blot.Goals as goal

pub returns : goal.returns
returns c =
    let a = c.args in
    ap (λ v. set a.b.now a.at v)
    (c.blotted.ensures ∙ ap (λ m. blotted_by a.grows (get_or a.b.now a.at 0) m)
    c.spare.ensures)
