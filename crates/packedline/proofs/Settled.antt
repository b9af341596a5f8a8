-- Any two outcomes that a contract allows of one call are the same:
-- for each public function, of its contract itself, as the prover reads it.
use Rattle.basics.specs.Settles.{Settles, SettlesBytes}
use Rattle.basics.proofs.Settled.{settled}
use Rattle.packedline.proofs.blot.Kinds as blot-kinds
use Rattle.packedline.proofs.blot.Reads as blot
use Rattle.packedline.proofs.run_word.Kinds as run-word-kinds
use Rattle.packedline.proofs.run_word.Reads as run-word
use Rattle.packedline.proofs.line.Kinds as line-kinds
use Rattle.packedline.proofs.line.Reads as line
use Rattle.packedline.proofs.copy_over.Kinds as copy-over-kinds
use Rattle.packedline.proofs.copy_over.Reads as copy-over
use Rattle.packedline.proofs.cell_place.Kinds as cell-place-kinds
use Rattle.packedline.proofs.cell_place.Reads as cell-place
use Rattle.packedline.proofs.cell_bit.Kinds as cell-bit-kinds
use Rattle.packedline.proofs.cell_bit.Reads as cell-bit
use Rattle.packedline.proofs.first_cell.Kinds as first-cell-kinds
use Rattle.packedline.proofs.first_cell.Reads as first_Cell
use Rattle.packedline.proofs.cell_count.Kinds as cell-count-kinds
use Rattle.packedline.proofs.cell_count.Reads as cell-count
use Rattle.packedline.proofs.level_of.Kinds as level-of-kinds
use Rattle.packedline.proofs.level_of.Reads as level-of
use Rattle.packedline.proofs.end_cell.Kinds as end-cell-kinds
use Rattle.packedline.proofs.end_cell.Reads as end-cell

pub blot_settled : SettlesBytes 1 blot-kinds.ps blot-kinds.r blot.Learnt (λ κs e. e.1.0.now)
blot_settled κs a x y s t p q = settled p q

pub run_word_settled : Settles 0 run-word-kinds.ps run-word-kinds.r run-word.Learnt
run_word_settled κs a x y s t p q = settled p q

pub line_settled : SettlesBytes 2 line-kinds.ps line-kinds.r line.Learnt (λ κs e. e.1.1.0.now)
line_settled κs a x y s t p q = settled p q

pub copy_over_settled : SettlesBytes 2 copy-over-kinds.ps
    copy-over-kinds.r copy-over.Learnt (λ κs e. e.1.0.now)
copy_over_settled κs a x y s t p q = settled p q

pub cell_place_settled : Settles 0 cell-place-kinds.ps cell-place-kinds.r cell-place.Learnt
cell_place_settled κs a x y s t p q = settled p.0 q.0

pub cell_bit_settled : Settles 0 cell-bit-kinds.ps cell-bit-kinds.r cell-bit.Learnt
cell_bit_settled κs a x y s t p q = settled p q

pub first_cell_settled : Settles 0 first-cell-kinds.ps first-cell-kinds.r first_Cell.Learnt
first_cell_settled κs a x y s t p q = settled p.1.1.1 q.1.1.1

pub cell_count_settled : Settles 0 cell-count-kinds.ps cell-count-kinds.r cell-count.Learnt
cell_count_settled κs a x y s t p q = settled p.0 q.0

pub level_of_settled : Settles 0 level-of-kinds.ps level-of-kinds.r level-of.Learnt
level_of_settled κs a x y s t p q = settled p q

pub end_cell_settled : Settles 0 end-cell-kinds.ps end-cell-kinds.r end-cell.Learnt
end_cell_settled κs a x y s t p q = settled p.0 q.0
