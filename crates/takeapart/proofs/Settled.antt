-- Any two outcomes that a contract allows of one call are the same:
-- for each public function, of its contract itself, as the prover reads it.
use Rattle.basics.specs.Settles.{Settles}
use Rattle.basics.proofs.Settled.{settled}
use Rattle.takeapart.proofs.walk.Kinds as walk-kinds
use Rattle.takeapart.proofs.walk.Reads as walk
use Rattle.takeapart.proofs.sum_bytes.Kinds as sum-bytes-kinds
use Rattle.takeapart.proofs.sum_bytes.Reads as sum-bytes

pub walk_settled : Settles 0 walk-kinds.ps walk-kinds.r walk.Learnt
walk_settled κs a x y s t p q = settled p q

pub sum_bytes_settled : Settles 0 sum-bytes-kinds.ps sum-bytes-kinds.r sum-bytes.Learnt
sum_bytes_settled κs a x y s t p q = settled p q
