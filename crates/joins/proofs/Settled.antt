-- Any two outcomes that a contract allows of one call are the same:
-- for each public function, of its contract itself, as the prover reads it.
use Rattle.basics.specs.Settles.{Settles}
use Rattle.basics.proofs.Settled.{settled}
use Rattle.joins.proofs.join.Kinds as join-kinds
use Rattle.joins.proofs.join.Reads as join
use Rattle.joins.proofs.join_block.Kinds as join-block-kinds
use Rattle.joins.proofs.join_block.Reads as join-block

pub join_settled : Settles 0 join-kinds.ps join-kinds.r join.Learnt
join_settled κs a x y s t p q = settled p q

pub join_block_settled : Settles 1 join-block-kinds.ps join-block-kinds.r join-block.Learnt
join_block_settled κs a x y s t p q = settled p q
