-- Invariant: m bytes of the block are laid at `at`. What falls: the bytes left.
-- All else of t stays.
use Rattle.blocks.specs.Steps.Laid.{laid}
use lib.ListN.{length, get_or}
use Prim.Native.Nat.{◌≤◌}
use mathlib.Core.Path.{◌≡◌}
use Rattle.rooms.proofs.put_some.Given as goal

abbrev pub invariant-loop-m : goal.invariant-loop-m
invariant-loop-m l =
    (l.m ≤ l.n) × (length l.t ≡ length l.initial.t) × (l.t ≡ laid l.at l.m (λ i. get_or l.c i 0) l.initial.t)
