-- echtext never answers ROOM: its buffers are long enough for every job that nothing else refuses.
use Prim.Native.Nat.{ℕ, ◌+◌, ◌*◌, ◌/◌, ◌≤◌}
use mathlib.Core.Path.{◌≡◌, refl, sym, ap, ◌∙◌}
use mathlib.Core.Bool.{Bool, true, false, not, cond, ◌||◌}
use mathlib.Core.List.{List}
use native.Mathlib.Omega.{arith}
use native.Mathlib.Nat.{mul-le-mul}
use borrow.Author.Tests.{le-ltb, eqb-true, ltb-false, not-false}
use lib.Dec.{ltb, eqb}
use lib.ListN.{length, drop, length-drop}
use Rattle.answer.specs.declared.Told.{Told}
use Rattle.answer.specs.Answer.{plain}
use Rattle.picture.specs.declared.Depth.{Depth}
use Rattle.picture.specs.declared.Depth.TheVariants.{OneBit, EightBit}
use Rattle.picture.specs.Frame.{most_bins, sized_frame, picture_bytes}
use Rattle.picture.specs.Bytes.{padding_clear}
use Rattle.picture.proofs.Sizes.{sized_tells}
use Rattle.element.specs.Descriptor.{well_made, descriptor_length}
use Rattle.ech.specs.File.{head_bytes, depth_of, kind_of, reported_kind, pings_of, bins_of, body_of, formed}
use Rattle.ech.proofs.Judging.{formed_tells}
use Rattle.text.specs.Text.{most_line, most_text}
use Rattle.text.proofs.Longest.{most_few}
use Rattle.work.specs.Work.{shortest}
use Rattle.job.specs.Job.{most_job, letter_of, flag_of, rest_of, known_letter}
use Rattle.job.specs.Job.{known_flag, file_by, file_in, element_in, job_answer}

-- a test of another number that gives 8 does not hold, and the next decides
other : (b : Bool) (n : ℕ) (after : Told) → (n ≡ 8 → ⊥) → cond b (plain n) after ≡ plain 8
    → (b ≡ false) × (after ≡ plain 8)
unfolding plain
other true n after ne e = absurd (ne (ap (λ (t : Told). t.number) e))
other false n after ne e = (refl, e)

nothing_more : plain 0 ≡ plain 8 → ⊥
unfolding plain
nothing_more q = let z = ap (λ (t : Told). t.number) q in omega arith

-- the file is shorter than the job
file_short : (flag : ℕ) (rest : List ℕ) → length (file_by flag rest) ≤ length rest
unfolding file_by
file_short flag rest = by (eqb flag 0 || eqb flag 2)
  where
    by : (b : Bool) → length (cond b rest (drop (descriptor_length rest) rest)) ≤ length rest
    by true = omega arith
    by false = omega (arith, length-drop (descriptor_length rest) rest)

-- lines by the picture's bytes
lines_short : (depth : Depth) (w h : ℕ) → h ≤ most_bins
    → h * most_line depth w ≤ 8 * picture_bytes depth w h + most_bins
lines_short OneBit w h l =
    omega (arith, mul-le-mul {n₁ = h} {m₁ = w} {n₂ = h} {m₂ = 8 * ((w + 7) / 8)} (omega arith) (omega arith))
lines_short EightBit w h l = omega arith

-- room for the text of any job
abbrev pub text_room : ℕ
text_room = 262400

module _ (job p r m t : List ℕ) where
  pub never_room : most_job ≤ length p → most_job ≤ length r → most_job ≤ length m
      → text_room ≤ length t → job_answer job p r m t ≡ plain 8 → ⊥
  unfolding job_answer
  never_room lp lr lm lt e =
      let e1 = other (ltb (length job) 2) 10 _ (λ q. omega arith) e in
      let e2 = other (ltb most_job (length job)) 10 _ (λ q. omega arith) e1.1 in
      let e3 = other (not (known_letter (letter_of job))) 10 _ (λ q. omega arith) e2.1 in
      let e4 = other (not (known_flag (flag_of job))) 10 _ (λ q. omega arith) e3.1 in
      let e5 = other (not (well_made (element_in job))) 4 _ (λ q. omega arith) e4.1 in
      let e6 = other (not (formed (file_in job))) 9 _ (λ q. omega arith) e5.1 in
      let e7 = other (not (sized_frame (pings_of (file_in job)) (bins_of (file_in job))))
      1 _ (λ q. omega arith) e6.1 in
      let e8 = other (not (eqb (length (body_of (file_in job))) n)) 2 _ (λ q. omega arith) e7.1 in
      let e9 = other (not (padding_clear (depth_of (kind_of (file_in job))) (body_of (file_in job))
      (pings_of (file_in job)) (bins_of (file_in job)))) 3 _ (λ q. omega arith) e8.1 in
      last (body (ltb-false _ _ e1.0) (ltb-false _ _ e2.0) (not-false _ e6.0)
      (eqb-true _ _ (not-false _ e8.0))) (sized_tells _ _ (not-false _ e7.0)).few_bins e9.1
    where
      n : ℕ
      n = picture_bytes (depth_of (kind_of (file_in job))) (pings_of (file_in job)) (bins_of (file_in job))

      long : ℕ
      long =
          most_text (depth_of (kind_of (file_in job))) (pings_of (file_in job))
          (bins_of (file_in job)) (reported_kind (file_in job))

      body : 2 ≤ length job → length job ≤ most_job → formed (file_in job) ≡ true
          → length (body_of (file_in job)) ≡ n → n ≤ 32756
      body l2 lj lf ln =
          omega (
            arith,
            ln,
            length-drop head_bytes (file_in job),
            (formed_tells (file_in job) lf).long,
            file_short (flag_of job) (rest_of job),
            length-drop 2 job,
          )

      last : n ≤ 32756 → bins_of (file_in job) ≤ most_bins
          → cond (ltb (shortest p r m) (0 + n)) (plain 8) (cond (ltb (length t) long) (plain 8) (plain 0))
          ≡ plain 8
          → ⊥
      last few high q =
          nothing_more
          (sym (ap (λ b. cond b (plain 8) (plain 0)) (le-ltb (length t) long (omega (
            arith,
            most_few (depth_of (kind_of (file_in job))) (pings_of (file_in job))
                (bins_of (file_in job)) (reported_kind (file_in job)),
            lines_short (depth_of (kind_of (file_in job))) (pings_of (file_in job)) (bins_of (file_in job))
                high,
          ))))
          ∙ sym (ap (λ b. cond b (plain 8) (cond (ltb (length t) long) (plain 8) (plain 0)))
          (le-ltb (shortest p r m) (0 + n) (omega arith)))
          ∙ q)
