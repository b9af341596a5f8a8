-- A job of echtext, as the prover reads the contract of `run_job`, and the text that is asked of it.
use Rattle.std.specs.Prelude.{ℕ, List, length}
use borrow.Fn.Kinds.{Dens, ended_of}
use denote.Triple.Clauses.{AtExit}
use contract.Lifetimes.{Lfts}
use Rattle.answer.specs.Refuse.{Test}
use Rattle.element.specs.Descriptor.{shape_in}
use Rattle.ech.specs.File.{depth_of, kind_of, reported_kind, pings_of, bins_of}
use Rattle.ech.specs.ReadWrite.{picture_of}
use Rattle.text.specs.Text.{text_of}
use Rattle.job.specs.Job.{letter_of, operation_of, element_in, file_in, job_tests}
use Rattle.work.specs.Work.{shortest, operated}
use Rattle.job.proofs.run_job.Kinds as kinds

-- the arguments of a job, and its buffers before and after
pub record JobCall : Type 0 where
  pub job : List ℕ
  pub picture : List ℕ
  pub result : List ℕ
  pub scratch : List ℕ
  pub text : List ℕ
  pub picture_after : List ℕ
  pub result_after : List ℕ
  pub scratch_after : List ℕ
  pub text_after : List ℕ

abbrev pub job_call : (κs : Lfts 5) → Dens κs kinds.ps → AtExit (ended_of 5 kinds.ps kinds.r) κs → JobCall
job_call κs a e =
    record {
      job = a.0.now;
      picture = a.1.0.now;
      result = a.1.1.0.now;
      scratch = a.1.1.1.0.now;
      text = a.1.1.1.1.0.now;
      picture_after = e.1.0.now;
      result_after = e.1.1.0.now;
      scratch_after = e.1.1.1.0.now;
      text_after = e.1.1.1.1.0.now;
    }

abbrev pub tests_job : JobCall → List Test
tests_job c = job_tests c.job (shortest c.picture c.result c.scratch) (length c.text)

-- the text of the operation that the letter asks for, by the job's element, of the file's picture
abbrev pub text_of_job : List ℕ → List ℕ
text_of_job job =
    text_of (depth_of (kind_of (file_in job)))
    (operated (operation_of (letter_of job)) (depth_of (kind_of (file_in job))) (pings_of (file_in job))
    (bins_of (file_in job)) (shape_in (element_in job)) (picture_of (file_in job)))
    (pings_of (file_in job)) (bins_of (file_in job)) (reported_kind (file_in job))
