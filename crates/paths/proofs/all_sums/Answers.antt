-- The board of all sums is that of a box so wide that no sum of a chain meets its ends.
-- The box is made of bytes, which is all that the loop over links asks of it.
use lib.ListN.{take}
use mathlib.Core.Path.{ap, ◌∙◌}
use Rattle.reach.proofs.Meaning.{everywhere_in}
use Rattle.reach.specs.Steps.Boards.{board_of}
use Rattle.paths.proofs.all_sums.Goals as goal

pub reach-requires : goal.reach-requires
reach-requires c =
    record {
      linked = c.requires;
      in_bytes = everywhere_in _ c.everywhere-m.ensures;
    }

pub returns : goal.returns
returns c =
    let a = c.args in
    c.reach.ensures ∙ ap (λ m. board_of m (take a.k a.links)) c.everywhere-m.ensures
