-- The first i bytes are those of the line, the others as they were,
-- and the last number is the one of the byte before.
use Rattle.std.proofs.Common.{◌≡◌, ◌≤◌, ◌++◌, length, drop}
use Rattle.basics.specs.Lists.{firsts}
use Rattle.lines.specs.Buffers.{last_in, byte_of}
use Rattle.lines.proofs.buffer_at.Given as goal

abbrev pub invariant-loop-i : goal.invariant-loop-i
invariant-loop-i l =
    (l.i ≤ l.k) × ((length l.b ≡ length l.initial.b)
    × ((l.b ≡ firsts (byte_of l.line l.count l.initial.last.next) l.i ++ drop l.i l.initial.b)
    × (l.last ≡ last_in l.line l.count l.initial.last.next l.i)))
