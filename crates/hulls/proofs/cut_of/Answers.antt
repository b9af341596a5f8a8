-- Both terms are capped, so that the sum does not wrap; the rest is the definition.
-- The difference stops at 0, as `-` does in the definition.
use native.Mathlib.Omega.{arith}
use Rattle.hulls.specs.Hull.{cut_of}
use Rattle.hulls.proofs.cut_of.Goals as goal

pub returns : goal.returns
unfolding cut_of
returns c = omega arith
