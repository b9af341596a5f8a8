-- The link and its origin are set in their places, and the next number to 0.
-- All as the definition has it.
use mathlib.Core.Path.{◌∙◌}
use Rattle.dividing.proofs.Least.{or_end}
use Rattle.choosing.proofs.Choices.{origin_few}
use Rattle.takeapart.proofs.Ways.{forth_is}
use Rattle.takeapart.proofs.forth.Goals as goal

pub returns : goal.returns
returns c =
    forth_is _ _ _ _ _ _ _ c.first_cell-first.ensures.0 c.last_cell-last.ensures
    c.link_no.ensures
    (c.unwrap_or.ensures
    ∙ or_end 64 _ c.origin_no.result c.origin_no.ensures (origin_few _ _ _ _ _ _))
