-- Stands on the four letters of the definition: each asks for its own operation.
-- Any other letter differs from each of them, and asks for nothing.
use Rattle.job.specs.Job.{known_letter, operation_of}
use Rattle.job.specs.Steps.Decided.{asked_of}
use borrow.Author.Rules.{rules}
use Rattle.job.proofs.asked_of.Goals as goal

pub returns-in-101 : goal.returns-in-101
unfolding asked_of known_letter operation_of
returns-in-101 c = search rules

pub returns-in-100 : goal.returns-in-100
unfolding asked_of known_letter operation_of
returns-in-100 c = search rules

pub returns-in-111 : goal.returns-in-111
unfolding asked_of known_letter operation_of
returns-in-111 c = search rules

pub returns-in-99 : goal.returns-in-99
unfolding asked_of known_letter operation_of
returns-in-99 c = search rules

pub returns-in_default : goal.returns-in_default
unfolding asked_of known_letter operation_of
returns-in_default c = search rules
