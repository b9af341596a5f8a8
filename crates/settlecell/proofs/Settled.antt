-- Any two outcomes that a contract allows of one call are the same:
-- for each public function, of its contract itself, as the prover reads it.
use Rattle.basics.specs.Settles.{Settles, SettlesBytes}
use Rattle.basics.proofs.Settled.{settled}
use Rattle.settlecell.proofs.settle_cell.Kinds as settle-cell-kinds
use Rattle.settlecell.proofs.settle_cell.Reads as settle-cell

pub settle_cell_settled : Settles 2 settle-cell-kinds.ps settle-cell-kinds.r settle-cell.Learnt
settle_cell_settled κs a x y s t p q = settled p.0 q.0

pub settle_cell_settled_bytes :
    SettlesBytes 2 settle-cell-kinds.ps settle-cell-kinds.r settle-cell.Learnt (λ κs e. e.1.1.0.now)
settle_cell_settled_bytes κs a x y s t p q = settled p.1 q.1
