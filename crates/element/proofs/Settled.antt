-- Any two outcomes that a contract allows of one call are the same:
-- for each public function, of its contract itself, as the prover reads it.
use Rattle.basics.specs.Settles.{Settles}
use Rattle.basics.proofs.Settled.{settled}
use Rattle.element.proofs.cell.Kinds as cell-kinds
use Rattle.element.proofs.cell.Reads as cell
use Rattle.element.proofs.cells_end.Kinds as cells-end-kinds
use Rattle.element.proofs.cells_end.Reads as cells-end
use Rattle.element.proofs.descriptor_len.Kinds as descriptor-len-kinds
use Rattle.element.proofs.descriptor_len.Reads as descriptor-len
use Rattle.element.proofs.origin_of.Kinds as origin-of-kinds
use Rattle.element.proofs.origin_of.Reads as origin-of

pub cell_settled : Settles 0 cell-kinds.ps cell-kinds.r cell.Learnt
cell_settled κs a x y s t p q = settled p q

pub cells_end_settled : Settles 0 cells-end-kinds.ps cells-end-kinds.r cells-end.Learnt
cells_end_settled κs a x y s t p q = settled p q

pub descriptor_len_settled : Settles 1 descriptor-len-kinds.ps descriptor-len-kinds.r descriptor-len.Learnt
descriptor_len_settled κs a x y s t p q = settled p q

pub origin_of_settled : Settles 1 origin-of-kinds.ps origin-of-kinds.r origin-of.Learnt
origin_of_settled κs a x y s t p q = settled p q
