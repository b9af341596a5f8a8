-- Points and regions counted, and the first points gathered: nothing done, one more, all done.
use Prim.Native.Nat.{ℕ, zero, suc, ◌+◌, ◌≤◌, ◌<◌}
use mathlib.Core.Path.{◌≡◌, refl, sym, ap, ap₂, ◌∙◌, subst}
use mathlib.Core.Bool.{Bool, true, false, cond}
use mathlib.Core.List.{List, [], ◌∷◌, ◌++◌, append-nil}
use mathlib.Core.Logic.{⊎_elim}
use native.Mathlib.Omega.{arith}
use native.Mathlib.Numerals.{add-one}
use lib.Dec.{eqb}
use lib.ListN.{length, set, take, length-append}
use lib.Seq.{take-suc-set, take-set-le}
use Rattle.regions.proofs.Cases.{same_or}
use Rattle.regions.specs.Listing.{count_of, inner_of}

module _ (R : ℕ → ℕ) (r : ℕ) where
  pub count_none : 0 ≡ count_of R r 0
  unfolding count_of
  count_none = refl

  pub count_more : (k b i : ℕ) → k ≡ count_of R r i → b ≡ cond (eqb (R (i + 1)) r) 1 0
      → k + b ≡ count_of R r (i + 1)
  unfolding count_of
  count_more k b i e q = rw (add-one i) (ap₂ ◌+◌ e q)

  pub count_all : (k i n : ℕ) → i ≡ n → k ≡ count_of R r i → k ≡ count_of R r n
  count_all k i n e q = q ∙ ap (count_of R r) e

one_at_most : (t : Bool) → cond t 1 0 ≤ 1
one_at_most true = omega arith
one_at_most false = omega arith

pub flag_low : (t : Bool) (b : ℕ) → b ≡ cond t 1 0 → b ≤ 1
flag_low t b e = subst (λ b. b ≤ 1) (sym e) (one_at_most t)

pub count_le : (R : ℕ → ℕ) (r n : ℕ) → count_of R r n ≤ n
unfolding count_of
count_le R r zero = omega arith
count_le R r (suc n) = omega (arith, count_le R r n, one_at_most (eqb (R (n + 1)) r))

-- ---- the regions but the outer one
module _ (R : ℕ → ℕ) where
  pub inner_none : 0 ≡ length (inner_of R 0)
  unfolding inner_of
  inner_none = refl

  length_step : (I : List ℕ) (x : ℕ) (t : Bool) → length I + cond t 1 0 ≡ length (I ++ cond t (x ∷ []) [])
  length_step I x true = sym (length-append I (x ∷ []))
  length_step I x false = omega arith ∙ ap length (sym (append-nil I))

  inner_opened : (i : ℕ) → inner_of R i ++ cond (eqb (R (i + 1)) (i + 1)) ((i + 1) ∷ []) []
      ≡ inner_of R (suc i)
  unfolding inner_of
  inner_opened i = refl

  pub inner_more : (k b i : ℕ) → k ≡ length (inner_of R i) → b ≡ cond (eqb (R (i + 1)) (i + 1)) 1 0
      → k + b ≡ length (inner_of R (i + 1))
  inner_more k b i e q =
      ap₂ ◌+◌ e q ∙ length_step (inner_of R i) (i + 1) (eqb (R (i + 1)) (i + 1))
      ∙ ap length (inner_opened i ∙ ap (inner_of R) (sym (add-one i)))

  pub inner_all : (k i n : ℕ) → i ≡ n → k ≡ length (inner_of R i) → k ≡ length (inner_of R n)
  inner_all k i n e q = q ∙ ap (λ n. length (inner_of R n)) e

  inner_grows : (i : ℕ) → length (inner_of R i) ≤ length (inner_of R (suc i))
  unfolding inner_of
  inner_grows i = omega (arith, length_step (inner_of R i) (i + 1) (eqb (R (i + 1)) (i + 1)))

  pub inner_mono : (i n : ℕ) → i ≤ n → length (inner_of R i) ≤ length (inner_of R n)
  inner_mono i zero h = let e : i ≡ 0 = omega arith in
      subst (λ i. length (inner_of R i) ≤ length (inner_of R 0)) (sym e) (omega arith)
  inner_mono i (suc n) h =
      ⊎_elim (λ e. subst (λ i. length (inner_of R i) ≤ length (inner_of R (suc n))) (sym e) (omega arith))
      (λ ne. omega (arith, inner_mono i n (omega arith), inner_grows n)) (same_or i (suc n))

  pub gather_none : (l : List ℕ) → take 0 l ≡ inner_of R 0
  unfolding inner_of
  gather_none l = refl

  take_step : (l : List ℕ) (k x : ℕ) (t : Bool) → k < length l
      → take (k + cond t 1 0) (set l k x) ≡ take k l ++ cond t (x ∷ []) []
  take_step l k x true h = ap (λ j. take j (set l k x)) (add-one k) ∙ take-suc-set l k x h
  take_step l k x false h = ap (λ j. take j (set l k x)) (plus_zero k) ∙ take-set-le k l k x (omega arith)
      ∙ sym (append-nil (take k l))
    where
      plus_zero : (k : ℕ) → k + 0 ≡ k
      plus_zero k = omega arith

  pub gather_more : (l : List ℕ) (k b i : ℕ) → k < length l → take k l ≡ inner_of R i
      → b ≡ cond (eqb (R (i + 1)) (i + 1)) 1 0 → take (k + b) (set l k (i + 1)) ≡ inner_of R (i + 1)
  gather_more l k b i h e q =
      ap (λ b. take (k + b) (set l k (i + 1))) q ∙ take_step l k (i + 1) (eqb (R (i + 1)) (i + 1)) h
      ∙ ap (λ X. X ++ cond (eqb (R (i + 1)) (i + 1)) ((i + 1) ∷ []) []) e ∙ opened
    where
      opened : inner_of R i ++ cond (eqb (R (i + 1)) (i + 1)) ((i + 1) ∷ []) [] ≡ inner_of R (i + 1)
      opened = inner_opened i ∙ ap (inner_of R) (sym (add-one i))

  pub gather_all : (l : List ℕ) (k i n : ℕ) → i ≡ n → k ≡ length (inner_of R i) → take k l ≡ inner_of R i
      → take (length (inner_of R n)) l ≡ inner_of R n
  gather_all l k i n e q t =
      subst (λ n. take (length (inner_of R n)) l ≡ inner_of R n) e (subst (λ k. take k l ≡ inner_of R i) q t)

pub inner_le : (R : ℕ → ℕ) (n : ℕ) → length (inner_of R n) ≤ n
unfolding inner_of
inner_le R zero = omega arith
inner_le R (suc n) =
    omega (
      arith,
      inner_le R n,
      length_step R (inner_of R n) (n + 1) (eqb (R (n + 1)) (n + 1)),
      one_at_most
          (eqb (R (n + 1)) (n + 1)),
    )
