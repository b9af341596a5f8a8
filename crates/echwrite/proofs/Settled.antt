-- Any two outcomes that a contract allows of one call are the same:
-- for each public function, of its contract itself, as the prover reads it.
use Rattle.answer.proofs.OneToOne.{same_answer}
use Rattle.basics.specs.Settles.{Settles, SettlesBytes}
use Rattle.basics.proofs.Settled.{settled}
use Rattle.echwrite.proofs.write_ech.Kinds as write-ech-kinds
use Rattle.echwrite.proofs.write_ech.Reads as write-ech

pub write_ech_settled : Settles 2 write-ech-kinds.ps write-ech-kinds.r write-ech.Learnt
write_ech_settled κs a x y s t p q = same_answer x y _ p.0 q.0

pub write_ech_settled_target : SettlesBytes 2 write-ech-kinds.ps
    write-ech-kinds.r write-ech.Learnt (λ κs e. e.1.1.1.1.0.now)
write_ech_settled_target κs a x y s t p q = settled p.1 q.1
