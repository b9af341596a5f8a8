-- A list with a middle part put back.
use Prim.Native.Nat.{ℕ, ◌+◌, ◌-◌, ◌≤◌, ◌<◌}
use mathlib.Core.Path.{◌≡◌, refl, sym, ap, ◌∙◌, subst}
use mathlib.Core.Bool.{Bool, true, false}
use mathlib.Core.List.{List, ◌++◌}
use mathlib.Core.Logic.{◌⊎◌, inl, inr}
use native.Mathlib.Omega.{arith}
use lib.Dec.{ltb}
use borrow.Author.Tests.{ltb-true, ltb-false}
use borrow.Rule.Slice.PartMut.{mid_of, put_mid, same_len_mid}
use lib.ListN.{length, take, drop, get_or, length-drop, get_or-append}
use lib.Seq.{get_or-take, get_or-drop, length-take-le, get_or-append-add}

pub below_or_not : (a b : ℕ) → (a < b) ⊎ (b ≤ a)
below_or_not a b = go (ltb a b) refl
  where
    go : (t : Bool) → ltb a b ≡ t → (a < b) ⊎ (b ≤ a)
    go true e = inl (ltb-true a b e)
    go false e = inr (ltb-false a b e)

-- an element past the first list
past_first : (xs ys : List ℕ) (n i : ℕ) → length xs ≡ n → n ≤ i → get_or (xs ++ ys) i 0 ≡ get_or ys (i - n) 0
past_first xs ys n i e h =
    ap (λ m. get_or (xs ++ ys) m 0) (whole (length xs) n i e h) ∙ get_or-append-add xs ys (i - n) 0
  where
    whole : (k n i : ℕ) → k ≡ n → n ≤ i → i ≡ k + (i - n)
    whole k n i e h = omega arith

-- the k elements of l from p on are now those of ys
module _ (p k : ℕ) (l ys : List ℕ) (fits : p + k ≤ length l) (same : length ys ≡ k) where
  front : length (take p l) ≡ p
  front = length-take-le p l (omega arith)

  pub put_before : (i : ℕ) → i < p → get_or (put_mid p k l ys) i 0 ≡ get_or l i 0
  put_before i h = get_or-append (take p l) _ 0 i (subst (λ n. i < n) (sym front) h) ∙ get_or-take p l i 0 h

  pub put_within : (j : ℕ) → j < k → get_or (put_mid p k l ys) (p + j) 0 ≡ get_or ys j 0
  put_within j h =
      ap (λ n. get_or (put_mid p k l ys) (n + j) 0) (sym front) ∙ get_or-append-add (take p l) _ j 0
      ∙ get_or-append ys _ 0 j (subst (λ n. j < n) (sym same) h)

  pub put_after : (i : ℕ) → p + k ≤ i → get_or (put_mid p k l ys) i 0 ≡ get_or l i 0
  put_after i h =
      past_first (take p l) _ p i front (omega arith) ∙ past_first ys _ k (i - p) same (omega arith)
      ∙ get_or-drop k (drop p l) (i - p - k) 0
      ∙ get_or-drop p l (k + (i - p - k)) 0 ∙ ap (λ n. get_or l n 0) (home i p k h)
    where
      home : (i p k : ℕ) → p + k ≤ i → p + (k + (i - p - k)) ≡ i
      home i p k h = omega arith

  pub put_length : length (put_mid p k l ys) ≡ length l
  put_length =
      same_len_mid p k l ys
      (same ∙ sym (length-take-le k (drop p l) (subst (λ n. k ≤ n) (sym (length-drop p l)) (omega arith))))

pub get_mid : (p k : ℕ) (l : List ℕ) (j : ℕ) → j < k → get_or (mid_of p k l) j 0 ≡ get_or l (p + j) 0
get_mid p k l j h = get_or-take k (drop p l) j 0 h ∙ get_or-drop p l j 0

pub length_mid : (p k : ℕ) (l : List ℕ) → p + k ≤ length l → length (mid_of p k l) ≡ k
length_mid p k l h = length-take-le k (drop p l) (subst (λ n. k ≤ n) (sym (length-drop p l)) (omega arith))
