-- Any two outcomes that a contract allows of one call are the same:
-- for each public function, of its contract itself, as the prover reads it.
use Rattle.basics.specs.Settles.{Settles, SettlesBytes}
use Rattle.basics.proofs.Settled.{settled}
use Rattle.lines.proofs.buffer_at.Kinds as buffer-at-kinds
use Rattle.lines.proofs.buffer_at.Reads as buffer-at
use Rattle.lines.proofs.head_of.Kinds as head-of-kinds
use Rattle.lines.proofs.head_of.Reads as head_of

pub buffer_at_settled : Settles 2 buffer-at-kinds.ps buffer-at-kinds.r buffer-at.Learnt
buffer_at_settled κs a x y s t p q = settled p.0 q.0

pub buffer_at_settled_bytes : SettlesBytes 2 buffer-at-kinds.ps
    buffer-at-kinds.r buffer-at.Learnt (λ κs e. e.1.1.0.now)
buffer_at_settled_bytes κs a x y s t p q = settled p.1.0 q.1.0

pub head_of_settled : Settles 1 head-of-kinds.ps head-of-kinds.r head_of.Learnt
head_of_settled κs a x y s t p q = settled p q
