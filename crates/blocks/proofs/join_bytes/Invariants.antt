-- Invariant: i bytes are joined, and t is as it was from there on. What falls: the bytes left.
-- What a turn reads of t it has not written yet.
use Prim.Native.Nat.{◌≤◌}
use Rattle.blocks.specs.Steps.Joins.{join_packed}
use Rattle.blocks.specs.Steps.Laid.{laid}
use lib.ListN.{length, get_or}
use mathlib.Core.Path.{◌≡◌}
use Rattle.blocks.proofs.join_bytes.Given as goal

abbrev pub invariant-loop-i : goal.invariant-loop-i
invariant-loop-i l =
    (l.i ≤ length l.initial.t) × (length l.t ≡ length l.initial.t)
    × (l.t ≡ laid 0 l.i (λ i. join_packed l.grows (get_or l.initial.t i 0) (get_or l.b i 0)) l.initial.t)
