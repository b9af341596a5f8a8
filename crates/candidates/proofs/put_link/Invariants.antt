-- Invariant: the first j bytes are the link's, and the rest is as it was.
-- What falls: the bytes that are left.
use Prim.Native.Nat.{◌≤◌}
use mathlib.Core.Path.{◌≡◌}
use mathlib.Core.List.{◌++◌}
use lib.ListN.{length, drop}
use Rattle.basics.specs.Lists.{firsts}
use Rattle.candidates.specs.Candidates.{link_byte}
use Rattle.candidates.proofs.put_link.Given as goal

abbrev pub invariant-loop-j : goal.invariant-loop-j
invariant-loop-j l =
    (l.j ≤ length l.initial.t) × (length l.t ≡ length l.initial.t)
    × (l.t ≡ firsts (link_byte l.hull l.c l.i) l.j ++ drop l.j l.initial.t)
