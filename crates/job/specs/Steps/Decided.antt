-- What the letter decides, and what the flag decides.
use Rattle.std.specs.Prelude.{not, cond, List, ℕ, Option, Some, None}
use Rattle.answer.specs.declared.Told.{Told}
use Rattle.answer.specs.Answer.{plain}
use Rattle.work.specs.Work.{work_answer}
use Rattle.work.specs.declared.Operation.{Operation}
use Rattle.job.specs.Job.{known_letter, operation_of, known_flag, element_by, file_by}

unfoldable pub asked_of : ℕ → Option Operation
asked_of letter = cond (known_letter letter) (Some (operation_of letter)) None

-- the answer from the flag on
unfoldable pub flag_answer : ℕ → List ℕ → List ℕ → List ℕ → List ℕ → List ℕ → Told
flag_answer flag rest p r m t =
    cond (not (known_flag flag)) (plain 10) (work_answer (element_by flag rest) (file_by flag rest) p r m t)
