-- Any two outcomes that a contract allows of one call are the same:
-- for each public function, of its contract itself, as the prover reads it.
use Rattle.basics.specs.Settles.{Settles}
use Rattle.basics.proofs.Settled.{settled}
use Rattle.boxes.proofs.is_box.Kinds as is-box-kinds
use Rattle.boxes.proofs.is_box.Reads as is-box

pub is_box_settled : Settles 1 is-box-kinds.ps is-box-kinds.r is-box.Learnt
is_box_settled κs a x y s t p q = settled p q
