-- The flag settles which of the two the answer is.
-- Each is told as the one test of the list has it.
use Rattle.answer.specs.Answer.{told, told_refusal}
use Rattle.judge.proofs.shape_answer.Goals as goal

pub returns-then-made : goal.returns-then-made
unfolding told told_refusal
returns-then-made c = simp c.if-made.true

pub returns-else-made : goal.returns-else-made
unfolding told told_refusal
returns-else-made c = simp c.if-made.false
