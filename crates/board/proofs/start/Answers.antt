-- The array with 1 stored at 0 is the definition's list, by computing.
-- No loop: one store into an array of zeros.
use mathlib.Core.Path.{refl}
use Rattle.reach.specs.Steps.Boards.{start_of}
use Rattle.board.proofs.start.Goals as goal

pub returns : goal.returns
unfolding start_of
returns c = refl
