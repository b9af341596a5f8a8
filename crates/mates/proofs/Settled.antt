-- Any two outcomes that a contract allows of one call are the same:
-- for each public function, of its contract itself, as the prover reads it.
use Rattle.basics.specs.Settles.{Settles}
use Rattle.basics.proofs.Settled.{settled}
use Rattle.mates.proofs.mate.Kinds as mate-kinds
use Rattle.mates.proofs.mate.Reads as mate

pub mate_settled : Settles 1 mate-kinds.ps mate-kinds.r mate.Learnt
mate_settled κs a x y s t p q = settled p q
