-- Any two outcomes that a contract allows of one call are the same:
-- for each public function, of its contract itself, as the prover reads it.
use Rattle.basics.specs.Settles.{Settles}
use Rattle.basics.proofs.Settled.{settled}
use Rattle.dividing.proofs.turned.Kinds as turned-kinds
use Rattle.dividing.proofs.turned.Reads as turned
use Rattle.dividing.proofs.is_set.Kinds as is-set-kinds
use Rattle.dividing.proofs.is_set.Reads as is_set
use Rattle.dividing.proofs.first_cell.Kinds as first-cell-kinds
use Rattle.dividing.proofs.first_cell.Reads as first_Cell
use Rattle.dividing.proofs.last_cell.Kinds as last-cell-kinds
use Rattle.dividing.proofs.last_cell.Reads as last-cell
use Rattle.dividing.proofs.window.Kinds as window-kinds
use Rattle.dividing.proofs.window.Reads as window
use Rattle.dividing.proofs.rest_of.Kinds as rest-of-kinds
use Rattle.dividing.proofs.rest_of.Reads as rest_of

pub turned_settled : Settles 0 turned-kinds.ps turned-kinds.r turned.Learnt
turned_settled κs a x y s t p q = settled p q

pub is_set_settled : Settles 0 is-set-kinds.ps is-set-kinds.r is_set.Learnt
is_set_settled κs a x y s t p q = settled p q

pub first_cell_settled : Settles 1 first-cell-kinds.ps first-cell-kinds.r first_Cell.Learnt
first_cell_settled κs a x y s t p q = settled p.0 q.0

pub last_cell_settled : Settles 1 last-cell-kinds.ps last-cell-kinds.r last-cell.Learnt
last_cell_settled κs a x y s t p q = settled p q

pub window_settled : Settles 1 window-kinds.ps window-kinds.r window.Learnt
window_settled κs a x y s t p q = settled p q

pub rest_of_settled : Settles 1 rest-of-kinds.ps rest-of-kinds.r rest_of.Learnt
rest_of_settled κs a x y s t p q = settled p q
