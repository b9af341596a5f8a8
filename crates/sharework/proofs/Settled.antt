-- Any two outcomes that a contract allows of one call are the same:
-- for each public function, of its contract itself, as the prover reads it.
use Rattle.answer.proofs.OneToOne.{same_answer}
use Rattle.basics.specs.Settles.{Settles, SettlesBytes}
use Rattle.basics.proofs.Settled.{settled}
use Rattle.sharework.proofs.put.Kinds as put-kinds
use Rattle.sharework.proofs.put.Reads as put
use Rattle.sharework.proofs.remove.Kinds as remove-kinds
use Rattle.sharework.proofs.remove.Reads as remove

pub put_settled : Settles 2 put-kinds.ps put-kinds.r put.Learnt
put_settled κs a x y s t p q = same_answer x y _ p.0 q.0

pub put_settled_bytes : SettlesBytes 2 put-kinds.ps put-kinds.r put.Learnt (λ κs e. e.0.now)
put_settled_bytes κs a x y s t p q = settled p.1 q.1

pub remove_settled : Settles 1 remove-kinds.ps remove-kinds.r remove.Learnt
remove_settled κs a x y s t p q = same_answer x y _ p.0 q.0

pub remove_settled_bytes : SettlesBytes 1 remove-kinds.ps remove-kinds.r remove.Learnt (λ κs e. e.0.now)
remove_settled_bytes κs a x y s t p q = settled p.1 q.1
