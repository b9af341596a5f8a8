-- Any two outcomes that a contract allows of one call are the same:
-- for each public function, of its contract itself, as the prover reads it.
use Rattle.basics.specs.Settles.{Settles, SettlesBytes}
use Rattle.basics.proofs.Settled.{settled}
use Rattle.drawing.proofs.put_text.Kinds as put-text-kinds
use Rattle.drawing.proofs.put_text.Reads as put-text

pub put_text_settled : Settles 2 put-text-kinds.ps put-text-kinds.r put-text.Learnt
put_text_settled κs a x y s t p q = settled p.0 q.0

pub put_text_settled_target : SettlesBytes 2 put-text-kinds.ps
    put-text-kinds.r put-text.Learnt (λ κs e. e.1.0.now)
put_text_settled_target κs a x y s t p q = settled p.1 q.1
