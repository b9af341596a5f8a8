-- Any two outcomes that a contract allows of one call are the same:
-- for each public function, of its contract itself, as the prover reads it.
use Rattle.answer.proofs.OneToOne.{same_answer}
use Rattle.basics.specs.Settles.{Settles, SettlesBytes}
use Rattle.basics.proofs.Settled.{settled}
use Rattle.reconstruct.proofs.reconstruct.Kinds as reconstruct-kinds
use Rattle.reconstruct.proofs.reconstruct.Reads as reconstruct

pub reconstruct_settled : Settles 3 reconstruct-kinds.ps reconstruct-kinds.r reconstruct.Learnt
reconstruct_settled κs a x y s t p q = same_answer x y _ p.0 q.0

pub reconstruct_settled_bytes : SettlesBytes 3 reconstruct-kinds.ps
    reconstruct-kinds.r reconstruct.Learnt (λ κs e. e.1.1.1.1.1.0.now)
reconstruct_settled_bytes κs a x y s t p q = settled p.1 q.1
