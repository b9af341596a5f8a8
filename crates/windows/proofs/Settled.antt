-- Any two outcomes that a contract allows of one call are the same:
-- for each public function, of its contract itself, as the prover reads it.
use Rattle.basics.specs.Settles.{SettlesBytes}
use Rattle.basics.proofs.Settled.{settled}
use Rattle.windows.proofs.windows.Kinds as windows-kinds
use Rattle.windows.proofs.windows.Reads as windows
use Rattle.windows.proofs.join_row.Kinds as join-row-kinds
use Rattle.windows.proofs.join_row.Reads as join-row

pub windows_settled : SettlesBytes 1 windows-kinds.ps windows-kinds.r windows.Learnt (λ κs e. e.1.0.now)
windows_settled κs a x y s t p q = settled p q

pub join_row_settled : SettlesBytes 3 join-row-kinds.ps
    join-row-kinds.r join-row.Learnt (λ κs e. e.1.0.now)
join_row_settled κs a x y s t p q = settled p.0 q.0

pub join_row_settled_gathered : SettlesBytes 3 join-row-kinds.ps
    join-row-kinds.r join-row.Learnt (λ κs e. e.1.1.0.now)
join_row_settled_gathered κs a x y s t p q = settled p.1 q.1
