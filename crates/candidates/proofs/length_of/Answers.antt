-- Four bytes, and one for each row.
-- So there are at most 12.
use native.Mathlib.Omega.{arith}
use Rattle.candidates.specs.Candidates.{length_of}
use Rattle.candidates.proofs.length_of.Goals as goal

pub returns : goal.returns
unfolding length_of
returns c = (omega arith, omega arith)
