-- Any two outcomes that a contract allows of one call are the same:
-- for each public function, of its contract itself, as the prover reads it.
use Rattle.basics.specs.Settles.{Settles}
use Rattle.basics.proofs.Settled.{settled}
use Rattle.few.proofs.sweep.Kinds as sweep-kinds
use Rattle.few.proofs.sweep.Reads as sweep

pub sweep_settled : Settles 3 sweep-kinds.ps sweep-kinds.r sweep.Learnt
sweep_settled κs a x y s t p q = settled p.0 q.0
