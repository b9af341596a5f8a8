-- Stands on run_job, which answers no ROOM since the buffers are long: what is printed lies in the text.
-- Each array is as long as a job may be, and the text as long as any job's.
use Rattle.std.proofs.Common.{ℕ, ◌≤◌, length, sym, ◌∙◌}
use native.Mathlib.Nat.{le_of_eq}
use lib.ListN.{replicate, length-replicate}
use Rattle.job.specs.Job.{most_job}
use Rattle.job.proofs.Room.{text_room, never_room}
use Rattle.echtext.proofs.main.Goals as goal

-- an array of n bytes has n
long : (n : ℕ) → n ≤ length (replicate {A = ℕ} n 0)
long n = le_of_eq (sym (length-replicate n 0))

pub printed-k-requires : goal.printed-k-requires
printed-k-requires c =
    λ e. never_room _ _ _ _ _ (long most_job) (long most_job) (long most_job) (long text_room)
    (sym c.run_job-done.ensures.answer ∙ e)
