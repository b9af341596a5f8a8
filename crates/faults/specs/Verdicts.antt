-- The answer of a verdict.
use Rattle.std.specs.Prelude.{Ok, Err}
use Rattle.answer.specs.Answer.{Answer}
use Rattle.answer.specs.declared.Refusal.{Refusal}
use Rattle.morphology.specs.Check.{Verdict, Taken, Split}

-- accepted is done
unfoldable pub answer_of : Verdict → Answer
answer_of Taken = Ok (tt {0})
answer_of (Split x y) = Err (Refusal.Split x y)
