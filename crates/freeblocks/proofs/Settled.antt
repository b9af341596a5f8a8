-- Any two outcomes that a contract allows of one call are the same:
-- for each public function, of its contract itself, as the prover reads it.
use Rattle.basics.specs.Settles.{Settles, SettlesBytes}
use Rattle.basics.proofs.Settled.{settled}
use Rattle.freeblocks.proofs.is_sure.Kinds as is-sure-kinds
use Rattle.freeblocks.proofs.is_sure.Reads as is-sure
use Rattle.freeblocks.proofs.join_row.Kinds as join-row-kinds
use Rattle.freeblocks.proofs.join_row.Reads as join-row

pub is_sure_settled : Settles 1 is-sure-kinds.ps is-sure-kinds.r is-sure.Learnt
is_sure_settled κs a x y s t p q = settled p q

pub join_row_settled : SettlesBytes 4 join-row-kinds.ps
    join-row-kinds.r join-row.Learnt (λ κs e. e.1.1.1.0.now)
join_row_settled κs a x y s t p q = settled p q
