-- What a job leaves, from what its parts leave.
use Prim.Native.Nat.{ℕ, ◌≤◌, ◌<◌}
use mathlib.Core.Path.{◌≡◌, refl, sym, ap, ◌∙◌, subst}
use mathlib.Core.Bool.{Bool, true, false, not, cond}
use mathlib.Core.List.{List}
use native.Mathlib.Omega.{arith}
use borrow.Author.Tests.{lt-ltb, le-ltb, ne_eqb}
use lib.ListN.{length, take, drop}
use Rattle.std.specs.Prelude.{Some, None, Err}
use Rattle.std.proofs.lemmas.Option.{cond_some}
use Rattle.answer.specs.declared.Refusal.TheVariants.{Job}
use Rattle.answer.specs.declared.Told.{Told}
use Rattle.answer.specs.Answer.{Answer, told, told_refusal, plain}
use Rattle.answer.proofs.Variants.{err_undone}
use Rattle.element.specs.Descriptor.{descriptor_length}
use Rattle.work.specs.declared.Operation.{Operation}
use Rattle.work.specs.declared.Outcome.{Outcome}
use Rattle.work.specs.Work.{work_answer}
use Rattle.work.specs.Prints.{refusal_of, over, Carried}
use Rattle.work.proofs.Outcomes.{carried_refused}
use Rattle.job.specs.Job.{most_job, letter_of, flag_of, rest_of, known_letter, operation_of, known_flag}
use Rattle.job.specs.Job.{default_element, trailing_element, element_by, file_by, element_in, file_in}
use Rattle.job.specs.Job.{job_answer, job_printed, job_picture, job_result, job_scratch}
use Rattle.job.specs.Steps.Decided.{asked_of, flag_answer}

-- ---- the letter: where none is asked for, it is not known
none_tells : (k : Bool) (o : Operation) → None ≡ cond k (Some o) None → k ≡ false
none_tells true o e = cc
none_tells false o e = refl

-- ---- the flag
pub length_few : (rest : List ℕ) (n : ℕ) → n ≡ descriptor_length rest → n ≤ length rest
unfolding descriptor_length
length_few rest n e = omega arith

-- a job that is refused as such
abbrev no_job : Answer
no_job = Err Job

-- a refusal by JOB, printed
abbrev pub Refused : Outcome → List ℕ → List ℕ → Type 0
Refused back t t' =
    ((back.answer ≡ no_job) × (back.printed ≡ length (refusal_of (told no_job) (length t))))
    × (t' ≡ over (refusal_of (told no_job) (length t)) t)

module _ (op : Operation) (rest p r m t : List ℕ) where
  -- what the work gave for an element and a file, and what it gave by the flag
  abbrev pub CarriedOut : List ℕ → List ℕ → Outcome → List ℕ → List ℕ → List ℕ → List ℕ → Type 0
  CarriedOut d f back p' r' m' t' = Carried (work_answer d f p r m t) op d f p r m t back p' r' m' t'

  abbrev pub Flagged : ℕ → Outcome → List ℕ → List ℕ → List ℕ → List ℕ → Type 0
  Flagged flag back p' r' m' t' =
      Carried (flag_answer flag rest p r m t) op (element_by flag rest) (file_by flag rest) p r m t
      back p' r' m' t'

  module _ (flag : ℕ) (back : Outcome) (p' r' m' t' : List ℕ) where
    -- a flag that is known: what is carried out is by its element, on its file
    flag_carried : (k : ℕ) (d f : List ℕ) → flag ≡ k → known_flag k ≡ true → d ≡ element_by k rest
        → f ≡ file_by k rest → CarriedOut d f back p' r' m' t' → Flagged flag back p' r' m' t'
    unfolding flag_answer
    flag_carried k d f e known ed ef c =
        subst (λ (n : ℕ). Flagged n back p' r' m' t') (sym e)
        (subst (λ (a : Told). Carried a op (element_by k rest) (file_by k rest) p r m t back p' r' m' t')
        (ap (λ b. cond (not b) (plain 10) (work_answer (element_by k rest) (file_by k rest) p r m t))
        (sym known))
        (subst (λ (x : List ℕ). CarriedOut x (file_by k rest) back p' r' m' t') ed
        (subst (λ (x : List ℕ). CarriedOut d x back p' r' m' t') ef c)))

    pub flag_default : (d : List ℕ) → flag ≡ 0 → d ≡ default_element → CarriedOut d rest back p' r' m' t'
        → Flagged flag back p' r' m' t'
    unfolding element_by file_by
    flag_default d e ed c = flag_carried 0 d rest e refl ed refl c

    pub flag_trailing : (d : List ℕ) → flag ≡ 2 → d ≡ trailing_element → CarriedOut d rest back p' r' m' t'
        → Flagged flag back p' r' m' t'
    unfolding element_by file_by
    flag_trailing d e ed c = flag_carried 2 d rest e refl ed refl c

    pub flag_own : (n : ℕ) (f : List ℕ) → flag ≡ 1 → n ≡ descriptor_length rest → f ≡ drop n rest
        → CarriedOut (take n rest) f back p' r' m' t' → Flagged flag back p' r' m' t'
    unfolding element_by file_by
    flag_own n f e en ef c =
        flag_carried 1 (take n rest) f e refl (ap (λ k. take k rest) en) (ef ∙ ap (λ k. drop k rest) en) c

  module _ (flag : ℕ) (n0 : flag ≡ 0 → ⊥) (n1 : flag ≡ 1 → ⊥) (n2 : flag ≡ 2 → ⊥) where
    flag_stops : told no_job ≡ flag_answer flag rest p r m t
    unfolding told told_refusal flag_answer
    flag_stops = simp (ne_eqb flag 0 n0, ne_eqb flag 1 n1, ne_eqb flag 2 n2)

    pub flag_other : (back : Outcome) (t' : List ℕ) → Refused back t t' → Flagged flag back p r m t'
    flag_other back t' b =
        carried_refused _ op _ _ p r m t no_job flag_stops back t' (err_undone no_job Job refl) b.0 b.1

-- ---- the whole job
module _ (job p r m t : List ℕ) where
  -- JOB's tests before the flag, one after another
  abbrev pub Stops : Type 0
  Stops = told no_job ≡ job_answer job p r m t

  pub too_short : length job < 2 → Stops
  unfolding told told_refusal job_answer
  too_short l = simp (lt-ltb (length job) 2 l)

  module _ (some : 2 ≤ length job) where
    pub too_long : most_job < length job → Stops
    unfolding told told_refusal job_answer
    too_long l = simp (le-ltb (length job) 2 some, lt-ltb most_job (length job) l)

    module _ (few : length job ≤ most_job) where
      pub nothing_asked : None ≡ asked_of (letter_of job) → Stops
      unfolding told told_refusal job_answer asked_of
      nothing_asked e =
          let k = none_tells (known_letter (letter_of job)) (operation_of (letter_of job)) e in
          simp (le-ltb (length job) 2 some, le-ltb most_job (length job) few, k)

      goes : known_letter (letter_of job) ≡ true
          → flag_answer (flag_of job) (rest_of job) p r m t ≡ job_answer job p r m t
      unfolding flag_answer job_answer work_answer
      goes k = simp (le-ltb (length job) 2 some, le-ltb most_job (length job) few, k)

  module _ (back : Outcome) (p' r' m' t' : List ℕ) where
    -- the promise of a job
    abbrev pub Whole : Type 0
    Whole =
        (told back.answer ≡ job_answer job p r m t)
        × ((back.printed ≡ length (job_printed job p r m t))
        × ((p' ≡ job_picture job p r m t)
        × ((r' ≡ job_result job p r m t)
        × ((m' ≡ job_scratch job p r m t) × (t' ≡ over (job_printed job p r m t) t)))))

    whole : Carried (job_answer job p r m t) (operation_of (letter_of job))
        (element_in job) (file_in job) p r m t back p' r' m' t'
        → Whole
    whole c = (c.answer, (c.length_is, (c.picture, (c.result, (c.scratch, c.text)))))

    pub job_done : 2 ≤ length job → length job ≤ most_job → (op : Operation) (rest : List ℕ)
        → Some op ≡ asked_of (letter_of job) → rest ≡ rest_of job
        → Flagged op rest p r m t (flag_of job) back p' r' m' t' → Whole
    unfolding asked_of
    job_done some few op rest e er c =
        let k = cond_some _ _ op (sym e) in
        whole
        (subst (λ (a : Told). Carried a (operation_of (letter_of job))
        (element_in job) (file_in job) p r m t back p' r' m' t')
        (goes some few k.0)
        (subst (λ (o : Operation). Flagged o (rest_of job) p r m t (flag_of job) back p' r' m' t') (sym k.1)
        (subst (λ (l : List ℕ). Flagged op l p r m t (flag_of job) back p' r' m' t') er c)))

  pub job_not : Stops → (back : Outcome) (t' : List ℕ) → Refused back t t' → Whole back p r m t'
  job_not e back t' b =
      whole back p r m t'
      (carried_refused _ (operation_of (letter_of job)) (element_in job)
      (file_in job) p r m t no_job e back t' (err_undone no_job Job refl) b.0 b.1)
