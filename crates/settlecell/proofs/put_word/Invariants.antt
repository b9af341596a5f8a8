-- Invariant: the bytes before i are those of the word, the others as they were.
-- What falls: the bytes that are left.
use Rattle.settle.specs.Steps.Words.{byte_of}
use Rattle.basics.specs.Lists.{firsts}
use lib.ListN.{length, drop}
use Prim.Native.Nat.{◌≤◌, ◌-◌}
use mathlib.Core.List.{◌++◌}
use mathlib.Core.Path.{◌≡◌}
use Rattle.settlecell.proofs.put_word.Given as goal

abbrev pub invariant-loop-i : goal.invariant-loop-i
invariant-loop-i l =
    (l.i ≤ l.k) × (length l.t ≡ length l.initial.t)
    × (l.t ≡ firsts (byte_of l.v l.k) l.i ++ drop l.i l.initial.t)
