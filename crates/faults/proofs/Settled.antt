-- Any two outcomes that a contract allows of one call are the same:
-- for each public function, of its contract itself, as the prover reads it.
use Rattle.answer.proofs.OneToOne.{same_answer}
use Rattle.basics.specs.Settles.{Settles}
use Rattle.faults.proofs.check.Kinds as check-kinds
use Rattle.faults.proofs.check.Reads as check

pub check_settled : Settles 1 check-kinds.ps check-kinds.r check.Learnt
check_settled κs a x y s t p q = same_answer x y _ p q
