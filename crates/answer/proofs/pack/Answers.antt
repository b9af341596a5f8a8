-- Done is the plain number 0, which stays itself.
-- Of a refusal it is what `pack_refusal` gives, since an answer that is refused is told as its refusal.
use Rattle.answer.specs.Answer.{told, plain}
use Rattle.answer.specs.Packed.{packed}
use borrow.Author.Rules.{rules}
use Rattle.answer.proofs.pack.Goals as goal

pub returns-in-Ok : goal.returns-in-Ok
unfolding told plain packed
returns-in-Ok c = search rules

pub returns-in-Err : goal.returns-in-Err
unfolding told
returns-in-Err c = search rules
