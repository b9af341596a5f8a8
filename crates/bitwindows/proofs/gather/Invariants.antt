-- Invariant: in the first j blocks stands what was gathered, and b is as it was from there on. Falls: the
-- blocks left.
-- In place, as `widen`: the same lemma, of another function on bytes.
use Rattle.windows.specs.Steps.Widened.{widened_by}
use Rattle.windows.specs.Steps.Places.{gathered_at}
use lib.ListN.{length}
use mathlib.Core.List.{[], ◌∷◌}
use Prim.Native.Nat.{◌≤◌}
use mathlib.Core.Path.{◌≡◌}
use Rattle.bitwindows.proofs.gather.Given as goal

abbrev pub invariant-loop-j : goal.invariant-loop-j
invariant-loop-j l =
    (l.j ≤ l.k) × (length l.b ≡ length l.initial.b)
    × (l.b ≡ widened_by (gathered_at l.grows (l.p ∷ l.q ∷ l.r ∷ l.s ∷ [])) l.j l.initial.b)
