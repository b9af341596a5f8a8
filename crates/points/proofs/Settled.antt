-- Any two outcomes that a contract allows of one call are the same: for each public function, of its contract
-- itself, as the prover reads it.
use Rattle.basics.specs.Settles.{Settles, SettlesBytes}
use Rattle.basics.proofs.Settled.{settled}
use Rattle.points.proofs.value_in.Kinds as value-in-kinds
use Rattle.points.proofs.value_in.Reads as value_in
use Rattle.points.proofs.value.Kinds as value-kinds
use Rattle.points.proofs.value.Reads as value
use Rattle.points.proofs.put.Kinds as put-kinds
use Rattle.points.proofs.put.Reads as put

pub value_in_settled : Settles 0 value-in-kinds.ps value-in-kinds.r value_in.Learnt
value_in_settled κs a x y s t p q = settled p q

pub value_settled : Settles 1 value-kinds.ps value-kinds.r value.Learnt
value_settled κs a x y s t p q = settled p q

pub put_settled : SettlesBytes 1 put-kinds.ps put-kinds.r put.Learnt (λ κs e. e.1.0.now)
put_settled κs a x y s t p q = settled p q
