-- Invariant: the first j blocks are laid, the rest of t is as it was. What falls: the blocks left.
-- Each block is what stands at the four places, 64 j bytes on.
use Rattle.bytewindows.specs.Steps.Four.{joined_four}
use Rattle.blocks.specs.Steps.Laid.{laid}
use lib.ListN.{length}
use Prim.Native.Nat.{◌+◌, ◌*◌, ◌≤◌}
use mathlib.Core.Path.{◌≡◌}
use Rattle.bytewindows.proofs.lay_blocks.Given as goal

abbrev pub invariant-loop-j : goal.invariant-loop-j
invariant-loop-j l =
    (l.j ≤ l.k) × (length l.t ≡ length l.initial.t)
    × (l.t ≡ laid 0 (64 * l.j) (λ i. joined_four l.grows l.b (l.p + i) (l.q + i) (l.r + i) (l.s + i))
    l.initial.t)
