-- Any two outcomes that a contract allows of one call are the same:
-- for each public function, of its contract itself, as the prover reads it.
use Rattle.basics.specs.Settles.{SettlesBytes}
use Rattle.basics.proofs.Settled.{settled}
use Rattle.bitways.proofs.sweep.Kinds as sweep-kinds
use Rattle.bitways.proofs.sweep.Reads as sweep

pub sweep_settled : SettlesBytes 3 sweep-kinds.ps sweep-kinds.r sweep.Learnt (λ κs e. e.1.1.0.now)
sweep_settled κs a x y s t p q = settled p q
