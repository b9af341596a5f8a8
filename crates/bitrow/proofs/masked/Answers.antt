-- Stands on `run_word`, the word of the first `wide` cells:
-- what lies past them is cut off.
use lib.Bits.{bit_and}
use mathlib.Core.Path.{ap}
use Rattle.bitrow.specs.Steps.Added.{masked_of}
use Rattle.bitrow.proofs.masked.Goals as goal

pub returns : goal.returns
unfolding masked_of
returns c = ap (bit_and c.args.word) c.run_word.ensures
