-- Any two outcomes that a contract allows of one call are the same:
-- for each public function, of its contract itself, as the prover reads it.
use Rattle.basics.specs.Settles.{Settles}
use Rattle.basics.proofs.Settled.{settled}
use Rattle.overlap.proofs.offset_shared.Kinds as offset-shared-kinds
use Rattle.overlap.proofs.offset_shared.Reads as offset-shared

pub offset_shared_settled : Settles 2 offset-shared-kinds.ps offset-shared-kinds.r offset-shared.Learnt
offset_shared_settled κs a x y s t p q = settled p q
