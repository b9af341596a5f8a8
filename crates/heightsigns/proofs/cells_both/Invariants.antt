-- Invariant: n and m cells of the first c are taken, and both lists are those of the definition so far.
-- What falls: the cells left. A number is stored at n and at m, which are at most c: `cells_taken`.
use Rattle.heightsigns.specs.Steps.Taken.{count_of, cells_of}
use lib.ListN.{length}
use Prim.Native.Nat.{◌≤◌}
use mathlib.Core.Bool.{true, false}
use mathlib.Core.Path.{◌≡◌}
use Rattle.heightsigns.proofs.cells_both.Given as goal

abbrev pub invariant-loop-c : goal.invariant-loop-c
invariant-loop-c l =
    (l.c ≤ l.wide) × ((length l.rising ≡ length l.initial.rising)
    × (length l.others ≡ length l.initial.others))
    × ((l.n ≡ count_of true l.word l.heights l.first l.c)
    × (l.m ≡ count_of false l.word l.heights l.first l.c))
    × ((l.rising ≡ cells_of l.grows true l.word l.o l.heights l.first l.initial.rising l.c)
    × (l.others ≡ cells_of l.grows false l.word l.o l.heights l.first l.initial.others l.c))
