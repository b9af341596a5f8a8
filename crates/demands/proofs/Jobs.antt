-- Demands 1 and 2 of echtext's work: which refusal is printed,
-- and that what is printed else is the text of the operation's definition.
use Prim.Native.Nat.{ℕ, ◌≤◌, ◌<◌}
use mathlib.Core.Path.{◌≡◌, refl, sym, ap, ap₂, ◌∙◌}
use mathlib.Core.Bool.{false, cond, ◌||◌}
use mathlib.Core.List.{List, []}
use borrow.Author.Tests.{ne_eqb, le-ltb}
use lib.Dec.{lit<}
use lib.ListN.{length}
use Rattle.answer.specs.declared.Told.{Told}
use Rattle.answer.specs.Answer.{told, plain, is_done}
use Rattle.answer.specs.Refuse.{FirstHolds, NoneHolds}
use Rattle.answer.proofs.Order.{Numbered, exactly, done_exactly}
use Rattle.answer.specs.Lent.{unless_refused}
use Rattle.answer.proofs.Lent.{not_done, all_done, kept_by}
use Rattle.text.specs.Text.{refused_line}
use Rattle.work.specs.declared.Operation.{Operation}
use Rattle.job.specs.Job.{letter_of, operation_of, element_in, file_in, job_answer}
use Rattle.work.specs.Work.{text_in}
use Rattle.work.specs.Prints.{most_refused, refusal_of, printed, over, picture_after, result_after}
use Rattle.work.specs.Prints.{scratch_after}
use Rattle.job.proofs.run_job.Kinds as kinds
use Rattle.job.proofs.run_job.Reads as reads
use Rattle.demands.specs.Demands.{Every, Exactly, Kept}
use Rattle.demands.specs.Jobs.{JobCall, job_call, tests_job, text_of_job}
use Rattle.demands.proofs.Laws.{first_some, exactly_of}

numbered : (c : JobCall) → Numbered (tests_job c)
numbered c = (
  lit< tt,
  (
    lit< tt,
    (lit< tt, (lit< tt, (lit< tt, (lit< tt, (lit< tt, (lit< tt, (lit< tt, (lit< tt, (lit< tt, tt))))))))),
  ),
)

-- ---- where a test holds the answer is a refusal
module _ (c : JobCall) where
  abbrev answer : Told
  answer = job_answer c.job c.picture c.result c.scratch c.text

  refused_is : (n : ℕ) → FirstHolds (tests_job c) n → answer ≡ plain n
  unfolding job_answer
  refused_is n f = (exactly (tests_job c) n (first_some (tests_job c) n (numbered c) f)).1 f

  refused_not : (n : ℕ) → FirstHolds (tests_job c) n → is_done answer ≡ false
  refused_not n f = ap is_done (refused_is n f) ∙ not_done n (first_some (tests_job c) n (numbered c) f)

  done_is : NoneHolds (tests_job c) → answer ≡ plain 0
  unfolding job_answer
  done_is f = (done_exactly (tests_job c) (numbered c)).1 f

  line_is : (n : ℕ) → FirstHolds (tests_job c) n → (n ≡ 8 → ⊥) → most_refused ≤ length c.text
      → printed answer (operation_of (letter_of c.job))
      (element_in c.job) (file_in c.job) (length c.text)
      ≡ refused_line n
  unfolding printed refusal_of plain
  line_is n f ne l =
      ap (λ b. cond b (text_in (operation_of (letter_of c.job)) (element_in c.job) (file_in c.job))
      (refusal_of answer (length c.text))) (refused_not n f)
      ∙ ap (λ a. refusal_of a (length c.text)) (refused_is n f)
      ∙ ap₂ (λ a b. cond (a || b) [] (refused_line n))
      (ne_eqb n 8 ne) (le-ltb (length c.text) most_refused l)

  none_is : FirstHolds (tests_job c) 8
      → printed answer (operation_of (letter_of c.job))
      (element_in c.job) (file_in c.job) (length c.text)
      ≡ []
  unfolding printed refusal_of plain
  none_is f =
      ap (λ b. cond b (text_in (operation_of (letter_of c.job)) (element_in c.job) (file_in c.job))
      (refusal_of answer (length c.text))) (refused_not 8 f)
      ∙ ap (λ a. refusal_of a (length c.text)) (refused_is 8 f)

  text_is : NoneHolds (tests_job c)
      → printed answer (operation_of (letter_of c.job))
      (element_in c.job) (file_in c.job) (length c.text)
      ≡ text_of_job c.job
  unfolding printed text_in
  text_is f =
      ap (λ b. cond b (text_of_job c.job) (refusal_of answer (length c.text)))
      (ap is_done (done_is f) ∙ all_done)

-- a buffer by an answer that is a refusal
was : (a : Told) (l made : List ℕ) → is_done a ≡ false → unless_refused a l made ≡ l
was a l made e = sym (kept_by l made a a refl e)

module _ (a : Told) (op : Operation) (d f l : List ℕ) (e : is_done a ≡ false) where
  picture_was : picture_after a f l ≡ l
  unfolding picture_after
  picture_was = was a l _ e

  result_was : result_after a op d f l ≡ l
  unfolding result_after
  result_was = was a l _ e

  scratch_was : scratch_after a op d f l ≡ l
  unfolding scratch_after
  scratch_was = was a l _ e

-- the same of what is given back and of the text
prints : (l k t t' : List ℕ) (n : ℕ) → l ≡ k → n ≡ length l → t' ≡ over l t → (n ≡ length k) × (t' ≡ over k t)
prints l k t t' n e en et = (en ∙ ap length e, et ∙ ap (λ l. over l t) e)

-- ---- demand 1: each refusal exactly under its condition and none earlier in the order,
-- and no work buffer is changed by one
pub job_exactly : Every 5 kinds.ps kinds.r reads.Learnt
    (λ κs a r e. Exactly (tests_job (job_call κs a e)) (told r.answer))
unfolding job_answer
job_exactly κs a r e p = let c = job_call κs a e in
    exactly_of (tests_job c) (told r.answer) (numbered c) p.0

pub job_kept_picture : Every 5 kinds.ps kinds.r reads.Learnt
    (λ κs a r e. let c = job_call κs a e in Kept (tests_job c) c.picture c.picture_after)
job_kept_picture κs a r e p n f = let c = job_call κs a e in
    p.1.1.0
    ∙ picture_was _ (operation_of (letter_of c.job)) (element_in c.job) _ c.picture (refused_not c n f)

pub job_kept_result : Every 5 kinds.ps kinds.r reads.Learnt
    (λ κs a r e. let c = job_call κs a e in Kept (tests_job c) c.result c.result_after)
job_kept_result κs a r e p n f = let c = job_call κs a e in
    p.1.1.1.0
    ∙ result_was _ (operation_of (letter_of c.job)) (element_in c.job) _ c.result (refused_not c n f)

pub job_kept_scratch : Every 5 kinds.ps kinds.r reads.Learnt
    (λ κs a r e. let c = job_call κs a e in Kept (tests_job c) c.scratch c.scratch_after)
job_kept_scratch κs a r e p n f = let c = job_call κs a e in
    p.1.1.1.1.0
    ∙ scratch_was _ (operation_of (letter_of c.job)) (element_in c.job) _ c.scratch (refused_not c n f)

-- a refusal prints only its line
pub job_prints_refusal : Every 5 kinds.ps kinds.r reads.Learnt (λ κs a r e. let c = job_call κs a e in
    (n : ℕ) → FirstHolds (tests_job c) n → (n ≡ 8 → ⊥) → most_refused ≤ length c.text
    → (r.printed ≡ length (refused_line n)) × (c.text_after ≡ over (refused_line n) c.text))
job_prints_refusal κs a r e p n f ne l = let c = job_call κs a e in
    prints _ _ c.text c.text_after r.printed (line_is c n f ne l) p.1.0 p.1.1.1.1.1

-- and ROOM nothing at all
pub job_room : Every 5 kinds.ps kinds.r reads.Learnt (λ κs a r e. let c = job_call κs a e in
    FirstHolds (tests_job c) 8 → (r.printed ≡ 0) × (c.text_after ≡ c.text))
job_room κs a r e p f = let c = job_call κs a e in
    prints _ _ c.text c.text_after r.printed (none_is c f) p.1.0 p.1.1.1.1.1

-- ---- demand 2: where nothing is refused, what is printed is the text of the definition's result
pub job_prints : Every 5 kinds.ps kinds.r reads.Learnt (λ κs a r e. let c = job_call κs a e in
    NoneHolds (tests_job c)
    → (r.printed ≡ length (text_of_job c.job)) × (c.text_after ≡ over (text_of_job c.job) c.text))
job_prints κs a r e p f = let c = job_call κs a e in
    prints _ _ c.text c.text_after r.printed (text_is c f) p.1.0 p.1.1.1.1.1
