-- Lists given by their parts, read back and filled from the front.
use Prim.Native.Nat.{ℕ, zero, suc, ◌+◌, ◌-◌, ◌≤◌, ◌<◌}
use mathlib.Core.Path.{◌≡◌, refl, sym, ap, ap₂, ◌∙◌, subst}
use mathlib.Core.List.{List, [], ◌∷◌, ◌++◌, append_assoc, append-nil}
use mathlib.Core.Logic.{⊎_elim}
use native.Mathlib.Omega.{arith}
use native.Mathlib.Numerals.{add-one}
use native.Mathlib.Nat.{sub-zero, le_refl, not-suc-le-zero, le_of_suc-le-suc, eq-or-lt_of_le}
use lib.ListN.{length, get_or, set, take, drop, length-take, length-drop}
use lib.ListN.{replicate, length-append, get_or-append, drop_of_length-le}
use lib.Seq.{take_all, set_at, drop-cons, get_or-append_seam, ext_get_or}
use Rattle.basics.specs.Lists.{firsts}

pub length_firsts : (f : ℕ → ℕ) (n : ℕ) → length (firsts f n) ≡ n
unfolding firsts
length_firsts f zero = refl
length_firsts f (suc n) = length-append (firsts f n) (f n ∷ []) ∙ omega (arith, length_firsts f n)

pub get_d_firsts : (f : ℕ → ℕ) (n i : ℕ) → i < n → get_or (firsts f n) i 0 ≡ f i
unfolding firsts
get_d_firsts f zero i h = absurd (not-suc-le-zero h)
get_d_firsts f (suc n) i h =
    ⊎_elim
    (λ e. ap (λ j. get_or (firsts f n ++ (f n ∷ [])) j 0) (e ∙ sym (length_firsts f n))
    ∙ get_or-append_seam (firsts f n) (f n) [] 0 ∙ ap f (sym e))
    (λ l. get_or-append (firsts f n) (f n ∷ []) 0 i (subst (λ m. i < m) (sym (length_firsts f n)) l)
    ∙ get_d_firsts f n i l)
    (eq-or-lt_of_le (le_of_suc-le-suc h))

-- a list is what its elements are
pub list_is : (f : ℕ → ℕ) (n : ℕ) (l : List ℕ) → length l ≡ n → ((i : ℕ) → i < n → get_or l i 0 ≡ f i)
    → l ≡ firsts f n
list_is f n l e each =
    ext_get_or 0 l (firsts f n) (e ∙ sym (length_firsts f n))
    (λ i h. let k : i < n = subst (λ m. i < m) e h in each i k ∙ sym (get_d_firsts f n i k))

pub firsts_same : (f g : ℕ → ℕ) (n : ℕ) → ((i : ℕ) → i < n → f i ≡ g i) → firsts f n ≡ firsts g n
firsts_same f g n each = list_is g n (firsts f n) (length_firsts f n) (λ i h. get_d_firsts f n i h ∙ each i h)

-- ---- a list filled from the front, over what was there
module _ (f : ℕ → ℕ) (t : List ℕ) where
  pub over_none : t ≡ firsts f 0 ++ drop 0 t
  unfolding firsts
  over_none = refl

  pub over_more : (u : List ℕ) (n v : ℕ) → n < length t → u ≡ firsts f n ++ drop n t → v ≡ f n
      → set u n v ≡ firsts f (n + 1) ++ drop (n + 1) t
  unfolding firsts
  over_more u n v h e k =
      ap₂ (λ l x. set l n x) (e ∙ ap (λ l. firsts f n ++ l) (drop-cons t n 0 h)) k
      ∙ set_at (firsts f n) _ (drop (suc n) t) (f n) n (length_firsts f n)
      ∙ sym (append_assoc (firsts f n) (f n ∷ []) (drop (suc n) t))
      ∙ ap (λ m. firsts f m ++ drop m t) (sym (add-one n))

  -- filled to the end
  pub over_whole : (u : List ℕ) (n m : ℕ) → u ≡ firsts f n ++ drop n t → n ≡ m → length t ≡ m → u ≡ firsts f m
  over_whole u n m e q l =
      e ∙ ap (λ k. firsts f k ++ drop k t) q
      ∙ ap (λ r. firsts f m ++ r) (drop_of_length-le t (subst (λ k. k ≤ m) (sym l) (le_refl m)))
      ∙ append-nil (firsts f m)

-- ---- an array of m places filled from the front
module _ (f : ℕ → ℕ) (m z : ℕ) where
  pub fill_none : replicate m z ≡ firsts f 0 ++ replicate (m - 0) z
  unfolding firsts
  fill_none = ap (λ n. replicate n z) (sym (sub-zero m))

  pub fill_more : (n : ℕ) → n < m
      → set (firsts f n ++ replicate (m - n) z) n (f n) ≡ firsts f (n + 1) ++ replicate (m - (n + 1)) z
  unfolding firsts
  fill_more n h =
      ap (λ k. set (firsts f n ++ replicate k z) n (f n)) (more n m h)
      ∙ set_at (firsts f n) z (replicate (m - (n + 1)) z) (f n) n (length_firsts f n)
      ∙ sym (append_assoc (firsts f n) (f n ∷ []) (replicate (m - (n + 1)) z))
      ∙ ap (λ k. firsts f k ++ replicate (m - (n + 1)) z) (sym (add-one n))
    where
      more : (n m : ℕ) → n < m → m - n ≡ suc (m - (n + 1))
      more n m h = omega arith

  pub fill_store : (n : ℕ) (l : List ℕ) (v : ℕ) → n < m → l ≡ firsts f n ++ replicate (m - n) z → v ≡ f n
      → set l n v ≡ firsts f (n + 1) ++ replicate (m - (n + 1)) z
  fill_store n l v h e e' = ap₂ (λ t x. set t n x) e e' ∙ fill_more n h

-- a part of n elements from the place a on
pub part_length : {X : Type 0} (l : List X) (a n : ℕ) → a + n ≤ length l
    → length (take (a + n - a) (drop a l)) ≡ n
part_length l a n h = simp (length-take, length-drop) (omega arith)

-- all that follows the place a
pub tail_is : {X : Type 0} (l : List X) (a : ℕ) → take (length l - a) (drop a l) ≡ drop a l
tail_is l a =
    take_all (length l - a) (drop a l)
    (subst (λ n. n ≤ length l - a) (sym (length-drop a l)) (le_refl (length l - a)))
