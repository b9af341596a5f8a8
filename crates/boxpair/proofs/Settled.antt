-- Any two outcomes that a contract allows of one call are the same:
-- for each public function, of its contract itself, as the prover reads it.
use Rattle.basics.specs.Settles.{SettlesBytes}
use Rattle.basics.proofs.Settled.{settled}
use Rattle.boxpair.proofs.upper.Kinds as upper-kinds
use Rattle.boxpair.proofs.upper.Reads as upper
use Rattle.boxpair.proofs.lower.Kinds as lower-kinds
use Rattle.boxpair.proofs.lower.Reads as lower

pub upper_settled : SettlesBytes 3 upper-kinds.ps upper-kinds.r upper.Learnt (λ κs e. e.1.1.1.0.now)
upper_settled κs a x y s t p q = settled p.0 q.0

pub upper_settled_left : SettlesBytes 3 upper-kinds.ps
    upper-kinds.r upper.Learnt (λ κs e. e.1.1.1.1.0.now)
upper_settled_left κs a x y s t p q = settled p.1 q.1

pub lower_settled : SettlesBytes 2 lower-kinds.ps lower-kinds.r lower.Learnt (λ κs e. e.1.1.0.now)
lower_settled κs a x y s t p q = settled p.0 q.0

pub lower_settled_left : SettlesBytes 2 lower-kinds.ps lower-kinds.r lower.Learnt (λ κs e. e.1.1.1.0.now)
lower_settled_left κs a x y s t p q = settled p.1.0 q.1.0
