-- Invariant: what was read stands at the start of the buffer, which keeps its length, as the input had it.
-- What falls: the room that is left.
use Rattle.std.proofs.Common.{◌≡◌, ◌-◌, ◌^◌, ◌≤◌, ◌<◌, length, take}
use Rattle.std.specs.Io.KnownBytes.{Consumes}
use Rattle.lines.proofs.read_full.Given as goal

abbrev pub invariant-loop-done : goal.invariant-loop-done
invariant-loop-done g l =
    (length l.b ≡ length l.initial.b) × (l.done ≤ length l.b) × (length l.b < 2 ^ 64)
    × Consumes (g.R.Read.remaining l.initial.input) (g.R.Read.remaining l.input) (take l.done l.b)

abbrev pub decreases-loop-done : goal.decreases-loop-done
decreases-loop-done g l = length l.b - l.done
