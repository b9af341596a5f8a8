-- Any two outcomes that a contract allows of one call are the same:
-- for each public function, of its contract itself, as the prover reads it.
use Rattle.basics.specs.Settles.{SettlesBytes}
use Rattle.basics.proofs.Settled.{settled}
use Rattle.labels.proofs.label.Kinds as label-kinds
use Rattle.labels.proofs.label.Reads as label

pub label_settled : SettlesBytes 2 label-kinds.ps label-kinds.r label.Learnt (λ κs e. e.1.1.1.0.now)
label_settled κs a x y s t p q = settled p q
