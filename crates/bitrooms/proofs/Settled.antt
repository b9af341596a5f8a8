-- Any two outcomes that a contract allows of one call are the same:
-- for each public function, of its contract itself, as the prover reads it.
use Rattle.basics.specs.Settles.{Settles}
use Rattle.basics.proofs.Settled.{settled}
use Rattle.bitrooms.proofs.join_place.Kinds as join-place-kinds
use Rattle.bitrooms.proofs.join_place.Reads as join-place

pub join_place_settled : Settles 1 join-place-kinds.ps join-place-kinds.r join-place.Learnt
join_place_settled κs a x y s t p q = settled p q
