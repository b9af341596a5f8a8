-- Any two outcomes that a contract allows of one call are the same:
-- for each public function, of its contract itself, as the prover reads it.
use Rattle.basics.specs.Settles.{Settles}
use Rattle.basics.proofs.Settled.{settled}
use Rattle.reader.proofs.outline_at.Kinds as outline-at-kinds
use Rattle.reader.proofs.outline_at.Reads as outline-at
use Rattle.reader.proofs.rows_at.Kinds as rows-at-kinds
use Rattle.reader.proofs.rows_at.Reads as rows_at
use Rattle.reader.proofs.element_at.Kinds as element-at-kinds
use Rattle.reader.proofs.element_at.Reads as element-at
use Rattle.reader.proofs.read_element.Kinds as read-element-kinds
use Rattle.reader.proofs.read_element.Reads as read-element

pub outline_at_settled : Settles 1 outline-at-kinds.ps outline-at-kinds.r outline-at.Learnt
outline_at_settled κs a x y s t p q = settled p q

pub rows_at_settled : Settles 1 rows-at-kinds.ps rows-at-kinds.r rows_at.Learnt
rows_at_settled κs a x y s t p q = settled p q

pub element_at_settled : Settles 1 element-at-kinds.ps element-at-kinds.r element-at.Learnt
element_at_settled κs a x y s t p q = settled p q

pub read_element_settled : Settles 1 read-element-kinds.ps read-element-kinds.r read-element.Learnt
read_element_settled κs a x y s t p q = settled p q
