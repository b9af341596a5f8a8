-- No invariant: each turn takes a line and goes on after it.
-- What falls: the bytes that are left, since a line ends past its start.
use Rattle.std.proofs.Common.{length}
use Rattle.growcases.proofs.each_line.Given as goal

abbrev pub decreases-loop-rest : goal.decreases-loop-rest
decreases-loop-rest g l = length l.rest
