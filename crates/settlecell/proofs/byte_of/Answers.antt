-- A shift down by whole bytes, and the lowest eight bits of what is left.
-- These are below 256, so that they fit a byte.
use Rattle.settle.specs.Steps.Words.{byte_of}
use mathlib.Core.Path.{refl}
use Rattle.settlecell.proofs.byte_of.Goals as goal

pub returns : goal.returns
unfolding byte_of
returns c = refl
