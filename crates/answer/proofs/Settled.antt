-- Any two outcomes that a contract allows of one call are the same:
-- for each public function, of its contract itself, as the prover reads it.
use Rattle.basics.specs.Settles.{Settles}
use Rattle.basics.proofs.Settled.{settled}
use Rattle.answer.proofs.tell.Kinds as tell-kinds
use Rattle.answer.proofs.tell.Reads as tell
use Rattle.answer.proofs.is_done.Kinds as is-done-kinds
use Rattle.answer.proofs.is_done.Reads as is-done
use Rattle.answer.proofs.pack.Kinds as pack-kinds
use Rattle.answer.proofs.pack.Reads as pack

pub tell_settled : Settles 0 tell-kinds.ps tell-kinds.r tell.Learnt
tell_settled κs a x y s t p q = settled p q

pub is_done_settled : Settles 0 is-done-kinds.ps is-done-kinds.r is-done.Learnt
is_done_settled κs a x y s t p q = settled p q

pub pack_settled : Settles 0 pack-kinds.ps pack-kinds.r pack.Learnt
pack_settled κs a x y s t p q = settled p q
