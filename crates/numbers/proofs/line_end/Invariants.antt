-- Invariant: what is left gives the line's end.
-- No byte before i ends the line.
use Rattle.std.proofs.Common.{drop, ◌≡◌}
use Rattle.numbers.specs.Numbers.{end_in}
use Rattle.numbers.proofs.line_end.Given as goal

abbrev pub invariant-loop-i : goal.invariant-loop-i
invariant-loop-i l = end_in (drop l.i l.input) l.i ≡ end_in (drop l.at l.input) l.at
