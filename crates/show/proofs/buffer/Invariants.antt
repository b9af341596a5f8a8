-- No invariant: each step prints a run of like values and goes on after it.
-- What falls: the values that are left, since a run has at least one.
use Rattle.std.proofs.Common.{length}
use Rattle.show.proofs.buffer.Given as goal

abbrev pub decreases-loop-x : goal.decreases-loop-x
decreases-loop-x g l = length l.rest
