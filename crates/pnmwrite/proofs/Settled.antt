-- Any two outcomes that a contract allows of one call are the same:
-- for each public function, of its contract itself, as the prover reads it.
use Rattle.answer.proofs.OneToOne.{same_answer}
use Rattle.basics.specs.Settles.{Settles, SettlesBytes}
use Rattle.basics.proofs.Settled.{settled}
use Rattle.pnmwrite.proofs.write_pbm.Kinds as write-pbm-kinds
use Rattle.pnmwrite.proofs.write_pbm.Reads as write-pbm
use Rattle.pnmwrite.proofs.write_pgm.Kinds as write-pgm-kinds
use Rattle.pnmwrite.proofs.write_pgm.Reads as write-pgm

pub write_pbm_settled : Settles 2 write-pbm-kinds.ps write-pbm-kinds.r write-pbm.Learnt
write_pbm_settled κs a x y s t p q = same_answer x y _ p.0 q.0

pub write_pbm_settled_target : SettlesBytes 2 write-pbm-kinds.ps
    write-pbm-kinds.r write-pbm.Learnt (λ κs e. e.1.1.1.0.now)
write_pbm_settled_target κs a x y s t p q = settled p.1 q.1

pub write_pgm_settled : Settles 2 write-pgm-kinds.ps write-pgm-kinds.r write-pgm.Learnt
write_pgm_settled κs a x y s t p q = same_answer x y _ p.0 q.0

pub write_pgm_settled_target : SettlesBytes 2 write-pgm-kinds.ps
    write-pgm-kinds.r write-pgm.Learnt (λ κs e. e.1.1.1.0.now)
write_pgm_settled_target κs a x y s t p q = settled p.1 q.1
