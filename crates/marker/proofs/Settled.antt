-- Any two outcomes that a contract allows of one call are the same:
-- for each public function, of its contract itself, as the prover reads it.
use Rattle.answer.proofs.OneToOne.{same_answer}
use Rattle.basics.specs.Settles.{Settles}
use Rattle.marker.proofs.refusal.Kinds as refusal-kinds
use Rattle.marker.proofs.refusal.Reads as refusal

pub refusal_settled : Settles 2 refusal-kinds.ps refusal-kinds.r refusal.Learnt
refusal_settled κs a x y s t p q = same_answer x y _ p q
