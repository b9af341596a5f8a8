-- Any two outcomes that a contract allows of one call are the same:
-- for each public function, of its contract itself, as the prover reads it.
use Rattle.basics.specs.Settles.{Settles, SettlesBytes}
use Rattle.basics.proofs.Settled.{settled}
use Rattle.weighblocks.proofs.join_both.Kinds as join-both-kinds
use Rattle.weighblocks.proofs.join_both.Reads as join-both
use Rattle.weighblocks.proofs.join_rest.Kinds as join-rest-kinds
use Rattle.weighblocks.proofs.join_rest.Reads as join-rest
use Rattle.weighblocks.proofs.join_row.Kinds as join-row-kinds
use Rattle.weighblocks.proofs.join_row.Reads as join-row

pub join_both_settled : Settles 3 join-both-kinds.ps join-both-kinds.r join-both.Learnt
join_both_settled κs a x y s t p q = settled p q

pub join_rest_settled : SettlesBytes 4 join-rest-kinds.ps
    join-rest-kinds.r join-rest.Learnt (λ κs e. e.1.0.now)
join_rest_settled κs a x y s t p q = settled p q

pub join_row_settled : SettlesBytes 4 join-row-kinds.ps
    join-row-kinds.r join-row.Learnt (λ κs e. e.1.0.now)
join_row_settled κs a x y s t p q = settled p q
