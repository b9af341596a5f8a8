-- Any two outcomes that a contract allows of one call are the same:
-- for each public function, of its contract itself, as the prover reads it.
use Rattle.basics.specs.Settles.{Settles, SettlesBytes}
use Rattle.basics.proofs.Settled.{settled}
use Rattle.text.proofs.most_len.Kinds as most-len-kinds
use Rattle.text.proofs.most_len.Reads as most-len
use Rattle.text.proofs.put_refused.Kinds as put-refused-kinds
use Rattle.text.proofs.put_refused.Reads as Put-refused

pub most_len_settled : Settles 0 most-len-kinds.ps most-len-kinds.r most-len.Learnt
most_len_settled κs a x y s t p q = settled p q

pub put_refused_settled : Settles 1 put-refused-kinds.ps put-refused-kinds.r Put-refused.Learnt
put_refused_settled κs a x y s t p q = settled p.0 q.0

pub put_refused_settled_target : SettlesBytes 1 put-refused-kinds.ps
    put-refused-kinds.r Put-refused.Learnt (λ κs e. e.0.now)
put_refused_settled_target κs a x y s t p q = settled p.1 q.1
