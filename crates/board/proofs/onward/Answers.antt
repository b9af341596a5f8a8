-- One step of the board with the link's own rows and size:
-- the cut is the definition's, and lies on the board.
-- So what `step` promises is the definition's next board.
use mathlib.Core.Path.{ap, ◌∙◌}
use Rattle.reach.specs.Steps.Words.{step_of}
use Rattle.reach.specs.Steps.Boards.{onward_of}
use Rattle.reach.proofs.Loops.{cut_in}
use Rattle.board.proofs.onward.Goals as goal

pub step-requires : goal.step-requires
step-requires c =
    let size = c.requires.w_le_most_cells in
    (size.0, (size.1, cut_in _ _ _ c.cut_by-cut.ensures))

pub returns : goal.returns
unfolding onward_of
returns c = c.step.ensures ∙ ap (step_of _ _ _ _) c.cut_by-cut.ensures
