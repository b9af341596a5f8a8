-- Stands on byte_of and put_in: one byte is read, changed in one column and stored.
-- The point lies in the picture, and so its byte lies in the buffer.
use Rattle.picture.specs.Points.{put_at}
use Rattle.points.proofs.put.Goals as goal

pub returns : goal.returns
unfolding put_at
returns c = simp (c.put_in.ensures, c.byte_of-at.ensures)
