-- Invariant: v is joined with x at the places of the set cells before column c, which is set, or past all.
-- Falls: the columns left.
-- Each turn is one run of cells: `through_more`.
use Prim.Native.Nat.{◌-◌, ◌≤◌, ◌<◌}
use mathlib.Core.Path.{◌≡◌}
use mathlib.Core.Bool.{true}
use Rattle.packedline.specs.Steps.Cells.{cell_on64}
use Rattle.narrow.proofs.Cells.{Through}
use Rattle.narrow.proofs.spread.Given as goal

abbrev pub invariant-loop-c : goal.invariant-loop-c
invariant-loop-c l =
    (l.c ≤ 64) × ((l.c < 64 → cell_on64 l.word l.c ≡ true)
    × Through l.initial.r l.x l.grows l.word l.o l.c l.r)

abbrev pub decreases-loop-c : goal.decreases-loop-c
decreases-loop-c l = 64 - l.c
