-- Any two outcomes that a contract allows of one call are the same:
-- for each public function, of its contract itself, as the prover reads it.
use Rattle.basics.specs.Settles.{Settles}
use Rattle.basics.proofs.Settled.{settled}
use Rattle.hulls.proofs.hull_of.Kinds as hull-of-kinds
use Rattle.hulls.proofs.hull_of.Reads as hull-of

pub hull_of_settled : Settles 0 hull-of-kinds.ps hull-of-kinds.r hull-of.Learnt
hull_of_settled κs a x y s t p q = settled p q
