-- Both halves are shifted as the definition has it.
-- What leaves at one end comes in at the other.
use mathlib.Core.Path.{refl}
use Rattle.dividing.specs.Board.{turned}
use Rattle.dividing.proofs.turned.Goals as goal

pub returns : goal.returns
unfolding turned
returns c = refl
