-- Stands on apply: each arm calls the operation, or the two of them, that the definition has there.
-- Erosion and dilation leave the scratch as it was.
use Rattle.work.specs.Work.{operated, middle_in}
use borrow.Author.Rules.{rules}
use Rattle.work.proofs.operate.Goals as goal

pub returns-in-Erode : goal.returns-in-Erode
unfolding operated middle_in
returns-in-Erode c = search rules

pub returns-in-Dilate : goal.returns-in-Dilate
unfolding operated middle_in
returns-in-Dilate c = search rules

pub returns-in-Open : goal.returns-in-Open
unfolding operated middle_in
returns-in-Open c = search rules

pub returns-in-Close : goal.returns-in-Close
unfolding operated middle_in
returns-in-Close c = search rules
