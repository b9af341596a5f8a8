-- Any two outcomes that a contract allows of one call are the same:
-- for each public function, of its contract itself, as the prover reads it.
use Rattle.basics.specs.Settles.{SettlesBytes}
use Rattle.basics.proofs.Settled.{settled}
use Rattle.rectangle.proofs.bits.Kinds as bits-kinds
use Rattle.rectangle.proofs.bits.Reads as bits
use Rattle.rectangle.proofs.bits_by_plan.Kinds as bits-by-plan-kinds
use Rattle.rectangle.proofs.bits_by_plan.Reads as bits-by-plan
use Rattle.rectangle.proofs.bytes.Kinds as bytes-kinds
use Rattle.rectangle.proofs.bytes.Reads as bytes

pub bits_settled : SettlesBytes 2 bits-kinds.ps bits-kinds.r bits.Learnt (λ κs e. e.1.1.0.now)
bits_settled κs a x y s t p q = settled p q

pub bits_by_plan_settled : SettlesBytes 2 bits-by-plan-kinds.ps
    bits-by-plan-kinds.r bits-by-plan.Learnt (λ κs e. e.1.1.0.now)
bits_by_plan_settled κs a x y s t p q = settled p q

pub bytes_settled : SettlesBytes 2 bytes-kinds.ps bytes-kinds.r bytes.Learnt (λ κs e. e.1.1.0.now)
bytes_settled κs a x y s t p q = settled p q
