-- Invariant: the digits that are left, after the number so far, give the number at the place.
-- The place lies within the line, or is the first where that is past the line.
use Rattle.std.proofs.Common.{length, drop, ◌≡◌, ◌≤◌}
use Rattle.std.specs.Prelude.{max}
use Rattle.numbers.specs.Numbers.{number_in}
use Rattle.numbers.proofs.number_at.Given as goal

abbrev pub invariant-loop-i : goal.invariant-loop-i
invariant-loop-i l =
    (number_in (drop l.i l.line) l.v l.i ≡ number_in (drop l.at l.line) 0 l.at)
    × (l.i ≤ max l.at (length l.line))
