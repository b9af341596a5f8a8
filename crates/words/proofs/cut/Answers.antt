-- Stands on `faced` and on the word of the first w points.
-- That v is a word is kept for the callers.
use mathlib.Core.Path.{ap₂}
use lib.Bits.{bit_and}
use Rattle.words.specs.Steps.Words.{cut_of}
use Rattle.words.proofs.cut.Goals as goal

pub returns : goal.returns
unfolding cut_of
returns c = (ap₂ bit_and c.faced.ensures.0 c.run_word.ensures, c.faced.ensures.1)
