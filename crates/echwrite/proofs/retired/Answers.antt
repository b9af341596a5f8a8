-- Stands on the one test of the definition.
-- Each arm is the test's.
use Rattle.answer.specs.Answer.{told, told_refusal}
use borrow.Author.Rules.{rules}
use Rattle.echwrite.proofs.retired.Goals as goal

pub returns-in-3 : goal.returns-in-3
unfolding told told_refusal
returns-in-3 c = search rules

pub returns-in_default : goal.returns-in_default
unfolding told
returns-in_default c = search rules
