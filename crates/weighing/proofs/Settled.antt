-- Any two outcomes that a contract allows of one call are the same:
-- for each public function, of its contract itself, as the prover reads it.
use Rattle.basics.specs.Settles.{SettlesBytes}
use Rattle.basics.proofs.Settled.{settled}
use Rattle.weighing.proofs.join_cell.Kinds as join-cell-kinds
use Rattle.weighing.proofs.join_cell.Reads as join-cell

pub join_cell_settled : SettlesBytes 2 join-cell-kinds.ps
    join-cell-kinds.r join-cell.Learnt (λ κs e. e.1.1.0.now)
join_cell_settled κs a x y s t p q = settled p q
