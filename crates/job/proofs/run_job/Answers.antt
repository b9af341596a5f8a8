-- Stands on by_flag where the letter asks for an operation; both bytes are there, by the tests of length.
-- A job of another length or letter is refused by JOB, and every work buffer stays.
use Rattle.job.proofs.Jobs.{too_short, too_long, nothing_asked, job_done, job_not}
use Rattle.basics.proofs.Lists.{tail_is}
use mathlib.Core.Path.{sym, ◌∙◌}
use Rattle.job.proofs.run_job.Goals as goal

pub returns-then-job-lt2 : goal.returns-then-job-lt2
returns-then-job-lt2 c =
    let p = job_not _ _ _ _ _ (too_short _ _ _ _ _ c.if-job-lt2.true) _ _
    (c.refused.ensures.answer_value, c.refused.ensures.text_after) in
    record {
      answer = p.0;
      length = p.1.0;
      picture = p.1.1.0;
      res = p.1.1.1.0;
      scratch = p.1.1.1.1.0;
      text = p.1.1.1.1.1;
    }

pub returns-then-job-gt-MOST_JOB : goal.returns-then-job-gt-MOST_JOB
returns-then-job-gt-MOST_JOB c =
    let p = job_not _ _ _ _ _ (too_long _ _ _ _ _ c.if-job-lt2.false c.if-job-gt-MOST_JOB.true) _ _ (
      c.refused-then-job-gt-MOST_JOB.ensures.answer_value,
      c.refused-then-job-gt-MOST_JOB.ensures.text_after,
    ) in
    record {
      answer = p.0;
      length = p.1.0;
      picture = p.1.1.0;
      res = p.1.1.1.0;
      scratch = p.1.1.1.1.0;
      text = p.1.1.1.1.1;
    }

pub returns-in-Some : goal.returns-in-Some
returns-in-Some c =
    let p = job_done _ _ _ _ _ _ _ _ _ _ c.if-job-lt2.false c.if-job-gt-MOST_JOB.false _ _
    (sym c.in-Some.is ∙ c.asked_of.ensures) (tail_is c.args.job.now 2)
    c.by_flag.ensures in
    record {
      answer = p.0;
      length = p.1.0;
      picture = p.1.1.0;
      res = p.1.1.1.0;
      scratch = p.1.1.1.1.0;
      text = p.1.1.1.1.1;
    }

pub returns-in-None : goal.returns-in-None
returns-in-None c =
    let p = job_not _ _ _ _ _ (nothing_asked _ _ _ _ _ c.if-job-lt2.false c.if-job-gt-MOST_JOB.false
    (sym c.in-None.is ∙ c.asked_of.ensures)) _ _
    (c.refused-in-None.ensures.answer_value, c.refused-in-None.ensures.text_after) in
    record {
      answer = p.0;
      length = p.1.0;
      picture = p.1.1.0;
      res = p.1.1.1.0;
      scratch = p.1.1.1.1.0;
      text = p.1.1.1.1.1;
    }
