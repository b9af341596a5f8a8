-- The bit is the lowest of the shifted word.
-- So the test is the definition.
use mathlib.Core.Path.{refl}
use Rattle.dividing.specs.Board.{is_set}
use Rattle.dividing.proofs.is_set.Goals as goal

pub returns : goal.returns
unfolding is_set
returns c = refl
