-- Invariant: i bytes are laid at `at`. What falls: the bytes left.
-- All else of t stays.
use Rattle.blocks.specs.Steps.Laid.{laid}
use lib.ListN.{length, get_or}
use Prim.Native.Nat.{◌≤◌}
use mathlib.Core.Path.{◌≡◌}
use Rattle.blocks.proofs.put_bytes.Given as goal

abbrev pub invariant-loop-i : goal.invariant-loop-i
invariant-loop-i g l =
    (l.i ≤ g.row.N) × (length l.t ≡ length l.initial.t)
    × (l.t ≡ laid l.at l.i (λ i. get_or l.c i 0) l.initial.t)
