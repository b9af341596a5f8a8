-- Invariant: the first i bytes are those of s from `at` on, the others 0. What falls: the bytes left.
-- No byte is read past those that are asked for.
use mathlib.Core.List.{◌++◌}
use Rattle.basics.specs.Lists.{firsts}
use lib.ListN.{get_or, replicate}
use Prim.Native.Nat.{◌+◌, ◌-◌, ◌≤◌}
use mathlib.Core.Path.{◌≡◌}
use Rattle.blocks.proofs.bytes_at.Given as goal

abbrev pub invariant-loop-i : goal.invariant-loop-i
invariant-loop-i g l =
    (l.i ≤ g.row.N) × (l.bytes ≡ firsts (λ i. get_or l.s (l.at + i) 0) l.i ++ replicate (g.row.N - l.i) 0)
