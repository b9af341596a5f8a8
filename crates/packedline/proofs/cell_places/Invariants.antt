-- Invariant: the set cells are those found and those of the rest m, which is below 2 ^ (64 - count).
-- What falls: m, by the digit of its first cell.
use Rattle.packedline.proofs.Runs.{CellSo}
use Rattle.packedline.proofs.cell_places.Given as goal

abbrev pub invariant-loop-m : goal.invariant-loop-m
invariant-loop-m l = CellSo l.grows l.word l.o l.m l.count l.at

abbrev pub decreases-loop-m : goal.decreases-loop-m
decreases-loop-m l = l.m
