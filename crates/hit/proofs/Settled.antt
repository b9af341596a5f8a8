-- Any two outcomes that a contract allows of one call are the same:
-- for each public function, of its contract itself, as the prover reads it.
use Rattle.answer.proofs.OneToOne.{same_answer}
use Rattle.basics.specs.Settles.{Settles, SettlesBytes}
use Rattle.basics.proofs.Settled.{settled}
use Rattle.hit.proofs.hit_or_miss.Kinds as hit-or-miss-kinds
use Rattle.hit.proofs.hit_or_miss.Reads as hit-or-miss

pub hit_or_miss_settled : Settles 4 hit-or-miss-kinds.ps hit-or-miss-kinds.r hit-or-miss.Learnt
hit_or_miss_settled κs a x y s t p q = same_answer x y _ p.0 q.0

pub hit_or_miss_settled_target : SettlesBytes 4 hit-or-miss-kinds.ps
    hit-or-miss-kinds.r hit-or-miss.Learnt (λ κs e. e.1.1.1.1.1.0.now)
hit_or_miss_settled_target κs a x y s t p q = settled p.1 q.1
