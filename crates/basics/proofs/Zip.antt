-- The laws of `zip_in`, over any operation on two bytes.
use Prim.Native.Nat.{ℕ, zero, suc, ◌+◌, ◌≤◌, ◌<◌}
use mathlib.Core.Path.{◌≡◌, refl, sym, ap, ◌∙◌}
use mathlib.Core.List.{List, [], ◌∷◌}
use native.Mathlib.Nat.{le_of_suc-le-suc, not-suc-le-zero}
use native.Mathlib.Numerals.{add-one}
use lib.ListN.{length, take, get_or, set}
use lib.Seq.{take_all}
use Rattle.basics.specs.Zip.{zip_in}

module _ (f : ℕ → ℕ → ℕ) where
  pub zip_none : (l : List ℕ) → l ≡ zip_in f l []
  unfolding zip_in
  zip_none [] = refl
  zip_none (x ∷ l) = refl

  pub length_zip : (l bs : List ℕ) → length (zip_in f l bs) ≡ length l
  unfolding zip_in
  length_zip [] bs = refl
  length_zip (x ∷ l) [] = refl
  length_zip (x ∷ l) (b ∷ bs) = ap suc (length_zip l bs)

  zip_at : (l bs : List ℕ) (i : ℕ) → get_or (zip_in f l (take i bs)) i 0 ≡ get_or l i 0
  unfolding zip_in
  zip_at [] bs i = refl
  zip_at (x ∷ l) [] zero = refl
  zip_at (x ∷ l) (b ∷ bs) zero = refl
  zip_at (x ∷ l) [] (suc i) = refl
  zip_at (x ∷ l) (b ∷ bs) (suc i) = zip_at l bs i

  zip_more : (l bs : List ℕ) (i : ℕ) → i < length bs
      → set (zip_in f l (take i bs)) i (f (get_or l i 0) (get_or bs i 0)) ≡ zip_in f l (take (suc i) bs)
  unfolding zip_in
  zip_more l [] i h = absurd (not-suc-le-zero h)
  zip_more [] (b ∷ bs) i h = refl
  zip_more (x ∷ l) (b ∷ bs) zero h = ap (λ (t : List ℕ). f x b ∷ t) (zip_none l)
  zip_more (x ∷ l) (b ∷ bs) (suc i) h = ap (λ (t : List ℕ). f x b ∷ t) (zip_more l bs i (le_of_suc-le-suc h))

  -- all are
  pub zip_all : (l bs acc : List ℕ) (i : ℕ) → length bs ≤ i → acc ≡ zip_in f l (take i bs)
      → acc ≡ zip_in f l bs
  zip_all l bs acc i h so = so ∙ ap (λ t. zip_in f l t) (take_all i bs h)

  -- one more byte is kept: by a store, or because the byte is right as it is
  module _ (l bs acc : List ℕ) (i : ℕ) (h : i < length bs) (so : acc ≡ zip_in f l (take i bs)) where
    pub zip_store : (v : ℕ) → v ≡ f (get_or acc i 0) (get_or bs i 0) → set acc i v
        ≡ zip_in f l (take (i + 1) bs)
    zip_store v e =
        ap (λ v. set acc i v) (e ∙ ap (λ n. f n (get_or bs i 0)) (ap (λ t. get_or t i 0) so ∙ zip_at l bs i))
        ∙ ap (λ t. set t i (f (get_or l i 0) (get_or bs i 0))) so
        ∙ zip_more l bs i h
        ∙ ap (λ n. zip_in f l (take n bs)) (sym (add-one i))

  pub zip_get : (l bs : List ℕ) (i : ℕ) → i < length l → i < length bs
      → get_or (zip_in f l bs) i 0 ≡ f (get_or l i 0) (get_or bs i 0)
  unfolding zip_in
  zip_get [] bs i h k = absurd (not-suc-le-zero h)
  zip_get (x ∷ l) [] i h k = absurd (not-suc-le-zero k)
  zip_get (x ∷ l) (b ∷ bs) zero h k = refl
  zip_get (x ∷ l) (b ∷ bs) (suc i) h k = zip_get l bs i (le_of_suc-le-suc h) (le_of_suc-le-suc k)
