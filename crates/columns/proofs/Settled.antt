-- Any two outcomes that a contract allows of one call are the same:
-- for each public function, of its contract itself, as the prover reads it.
use Rattle.basics.specs.Settles.{SettlesBytes}
use Rattle.basics.proofs.Settled.{settled}
use Rattle.columns.proofs.pair.Kinds as pair-kinds
use Rattle.columns.proofs.pair.Reads as pair

pub pair_settled : SettlesBytes 3 pair-kinds.ps pair-kinds.r pair.Learnt (λ κs e. e.1.1.1.0.now)
pair_settled κs a x y s t p q = settled p.0 q.0

pub pair_settled_other : SettlesBytes 3 pair-kinds.ps pair-kinds.r pair.Learnt (λ κs e. e.1.1.1.1.0.now)
pair_settled_other κs a x y s t p q = settled p.1 q.1
