-- Stands on byte_of and value_in: one byte is read.
-- The point lies in the picture, and so its byte lies in the buffer.
use Rattle.picture.specs.Points.{value_at}
use mathlib.Core.Path.{◌∙◌}
use Rattle.points.proofs.value.Goals as goal

pub returns : goal.returns
unfolding value_at
returns c = c.value_in.ensures ∙ simp c.byte_of-at.ensures
