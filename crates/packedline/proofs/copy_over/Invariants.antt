-- Invariant: i bytes of s, as they are or turned over, are laid at `at`. What falls: the bytes left.
-- All else of b stays: it is what counts beyond the frame.
use Rattle.packedline.specs.Steps.Padded.{faced_byte}
use Rattle.blocks.specs.Steps.Laid.{laid}
use lib.ListN.{length, get_or}
use Prim.Native.Nat.{◌≤◌}
use mathlib.Core.Path.{◌≡◌}
use Rattle.packedline.proofs.copy_over.Given as goal

abbrev pub invariant-loop-i : goal.invariant-loop-i
invariant-loop-i l =
    (l.i ≤ length l.s) × (length l.b ≡ length l.initial.b)
    × (l.b ≡ laid l.at l.i (λ i. faced_byte l.over (get_or l.s i 0)) l.initial.b)
