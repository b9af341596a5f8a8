-- Invariant: the rows from r on, before e, are the same. Falls: the rows left.
-- It stops at the first other one.
use Rattle.narrow.specs.Steps.Row.{SameRows}
use Rattle.narrow.proofs.same_end.Given as goal

abbrev pub invariant-loop-e : goal.invariant-loop-e
invariant-loop-e l = SameRows l.words l.r l.h l.e
