-- Invariant: the set cells are those found and those of the rest m, which is below 2 ^ (64 - count); and from
-- here on the places are found that were to be found from the start. What falls: m, by its first cell.
use Rattle.strokes.proofs.Strokes.{So}
use Rattle.strokes.specs.Steps.Places.{cells_from}
use Prim.Native.Nat.{◌-◌}
use mathlib.Core.Path.{◌≡◌}
use Rattle.strokes.proofs.cell_places.Given as goal

abbrev pub invariant-loop-m : goal.invariant-loop-m
invariant-loop-m l =
    So l.grows l.word l.o l.m l.count l.at
    × (cells_from l.grows l.o 64 l.word 0 l.initial.at
    ≡ cells_from l.grows l.o (64 - l.count) l.m l.count l.at)

abbrev pub decreases-loop-m : goal.decreases-loop-m
decreases-loop-m l = l.m
