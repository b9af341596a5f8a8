-- Any two outcomes that a contract allows of one call are the same:
-- for each public function, of its contract itself, as the prover reads it.
use Rattle.answer.proofs.OneToOne.{same_answer}
use Rattle.basics.specs.Settles.{Settles, SettlesBytes}
use Rattle.basics.proofs.Settled.{settled}
use Rattle.job.proofs.run_job.Kinds as run-job-kinds
use Rattle.job.proofs.run_job.Reads as run-job

pub run_job_settled : Settles 5 run-job-kinds.ps run-job-kinds.r run-job.Learnt
run_job_settled κs a x y s t p q = λ i. record {
  answer = same_answer x.answer y.answer _ p.0 q.0 i;
  printed = settled p.1.0 q.1.0 i;
}

pub run_job_settled_picture : SettlesBytes 5 run-job-kinds.ps
    run-job-kinds.r run-job.Learnt (λ κs e. e.1.0.now)
run_job_settled_picture κs a x y s t p q = settled p.1.1.0 q.1.1.0

pub run_job_settled_result : SettlesBytes 5 run-job-kinds.ps
    run-job-kinds.r run-job.Learnt (λ κs e. e.1.1.0.now)
run_job_settled_result κs a x y s t p q = settled p.1.1.1.0 q.1.1.1.0

pub run_job_settled_scratch : SettlesBytes 5 run-job-kinds.ps
    run-job-kinds.r run-job.Learnt (λ κs e. e.1.1.1.0.now)
run_job_settled_scratch κs a x y s t p q = settled p.1.1.1.1.0 q.1.1.1.1.0

pub run_job_settled_text : SettlesBytes 5 run-job-kinds.ps
    run-job-kinds.r run-job.Learnt (λ κs e. e.1.1.1.1.0.now)
run_job_settled_text κs a x y s t p q = settled p.1.1.1.1.1 q.1.1.1.1.1
