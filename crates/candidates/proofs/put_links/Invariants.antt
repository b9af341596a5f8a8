-- Invariant: the first i links are there, and the bytes past them are as they were.
-- What falls: the links that are left.
use Prim.Native.Nat.{◌*◌, ◌≤◌}
use mathlib.Core.Path.{◌≡◌}
use mathlib.Core.List.{◌++◌}
use lib.ListN.{length, drop}
use Rattle.basics.specs.Lists.{firsts, joined}
use Rattle.candidates.specs.Candidates.{link_byte}
use Rattle.candidates.proofs.put_links.Given as goal

abbrev pub invariant-loop-i : goal.invariant-loop-i
invariant-loop-i l =
    (l.i ≤ l.k) × (length l.t ≡ length l.initial.t)
    × (l.t ≡ joined (λ n. firsts (link_byte l.hull l.c n) l.m) l.i ++ drop (l.i * l.m) l.initial.t)
