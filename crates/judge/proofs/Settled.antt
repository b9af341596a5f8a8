-- Any two outcomes that a contract allows of one call are the same:
-- for each public function, of its contract itself, as the prover reads it.
use Rattle.answer.proofs.OneToOne.{same_answer}
use Rattle.basics.specs.Settles.{Settles}
use Rattle.judge.proofs.refusal.Kinds as refusal-kinds
use Rattle.judge.proofs.refusal.Reads as refusal
use Rattle.judge.proofs.shape_answer.Kinds as shape-answer-kinds
use Rattle.judge.proofs.shape_answer.Reads as shape-answer
use Rattle.judge.proofs.element_refusal.Kinds as element-refusal-kinds
use Rattle.judge.proofs.element_refusal.Reads as element-refusal

pub refusal_settled : Settles 1 refusal-kinds.ps refusal-kinds.r refusal.Learnt
refusal_settled κs a x y s t p q = same_answer x y _ p q

pub element_refusal_settled : Settles 1 element-refusal-kinds.ps element-refusal-kinds.r
    element-refusal.Learnt
element_refusal_settled κs a x y s t p q = same_answer x y _ p q

pub shape_answer_settled : Settles 0 shape-answer-kinds.ps shape-answer-kinds.r shape-answer.Learnt
shape_answer_settled κs a x y s t p q = same_answer x y _ p q
