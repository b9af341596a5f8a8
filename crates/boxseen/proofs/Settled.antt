-- Any two outcomes that a contract allows of one call are the same:
-- for each public function, of its contract itself, as the prover reads it.
use Rattle.basics.specs.Settles.{SettlesBytes}
use Rattle.basics.proofs.Settled.{settled}
use Rattle.boxseen.proofs.lead.Kinds as lead-kinds
use Rattle.boxseen.proofs.lead.Reads as lead

pub lead_settled : SettlesBytes 3 lead-kinds.ps lead-kinds.r lead.Learnt (λ κs e. e.1.1.1.0.now)
lead_settled κs a x y s t p q = settled p.0 q.0

pub lead_settled_other : SettlesBytes 3 lead-kinds.ps lead-kinds.r lead.Learnt (λ κs e. e.1.1.1.1.0.now)
lead_settled_other κs a x y s t p q = settled p.1 q.1
