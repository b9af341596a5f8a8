-- The points of a packed row, and the bits of its words: bit p of the k bytes from byte j on is column
-- 8 * (j + k) - 1 - p.
use Prim.Native.Nat.{ℕ, ◌+◌, ◌-◌, ◌*◌, ◌/◌, ◌%◌, ◌^◌, ◌≤◌, ◌<◌, max}
use mathlib.Core.Path.{◌≡◌, refl, sym, ap, ◌∙◌, subst}
use mathlib.Core.Bool.{Bool, true, false, cond}
use mathlib.Core.List.{List}
use mathlib.Core.Logic.{◌⊎◌, inl, inr, ⊎_elim}
use native.Mathlib.Omega.{arith}
use native.Mathlib.Nat.{div-eq_of_lt, le_refl}
use borrow.Author.Tests.{lt-ltb, le-ltb, ltb-true, ltb-false}
use lib.Bits.{bit_or}
use lib.Dec.{ltb}
use lib.ListN.{get_or}
use lib.Pow.{pow_mono}
use Rattle.basics.specs.Bits.{bit, digits}
use Rattle.basics.specs.Bytes.{Bytes}
use Rattle.basics.proofs.Bits.{bit_zero, bit_up, bit_mod, bit_or_lem, bit_shl_low, bit_shl, bit_digits}
use Rattle.basics.proofs.Bits.{digits_below}
use Rattle.basics.proofs.SliceParts.{below_or_not}
use Rattle.settle.specs.Steps.Grew.{point_in, Near, NearBy}
use Rattle.settle.specs.Steps.Words.{word_of, byte_before, byte_from, sides, across_of, spread_of}

-- a number has no digits past its own
pub bit_past : (v n p : ℕ) → v < 2 ^ n → n ≤ p → bit v p ≡ 0
bit_past v n p h l = ap (λ x. x % 2) (div-eq_of_lt (omega (arith, pow_mono l)))

module _ (l : List ℕ) (bytes : Bytes l) where
  pub word_lt : (at k : ℕ) → word_of l at k < 2 ^ (8 * k)
  unfolding word_of
  word_lt at k = digits_below 8 (λ i. get_or l (at + i) 0) (λ i. bytes (at + i)) k

  pub word_bit : (at j k p : ℕ) → p < 8 * k → bit (word_of l (at + j) k) p
      ≡ point_in l at (8 * (j + k) - 1 - p)
  unfolding word_of
  word_bit at j k p h =
      ap (bit (digits 8 (λ i. get_or l (at + j + i) 0) k)) (back k p h)
      ∙ bit_digits 8 (λ i. get_or l (at + j + i) 0) (λ i. bytes (at + j + i)) k (k - 1 - p / 8) (p % 8)
      (omega arith) (omega arith)
      ∙ λ i. bit (get_or l (place at j k p h i) 0) (digit j k p h i)
    where
      back : (k p : ℕ) → p < 8 * k → p ≡ 8 * (k - 1 - (k - 1 - p / 8)) + p % 8
      back k p h = omega arith

      place : (at j k p : ℕ) → p < 8 * k → at + j + (k - 1 - p / 8) ≡ at + (8 * (j + k) - 1 - p) / 8
      place at j k p h = omega arith

      digit : (j k p : ℕ) → p < 8 * k → p % 8 ≡ 7 - (8 * (j + k) - 1 - p) % 8
      digit j k p h = omega arith

-- the column before, none before the first; and the column after, none from the m-th on
abbrev pub left_of : (ℕ → ℕ) → ℕ → ℕ
left_of f x = cond (ltb 0 x) (f (x - 1)) 0

abbrev pub right_of : (ℕ → ℕ) → ℕ → ℕ → ℕ
right_of f m x = cond (ltb (x + 1) m) (f (x + 1)) 0

only_first : (a b c : ℕ) → a ≡ c → b ≡ 0 → max a b ≡ c
only_first a b c e z = omega arith

only_second : (a b c : ℕ) → a ≡ 0 → b ≡ c → max a b ≡ c
only_second a b c z e = omega arith

five : (a b c d e A L R r s t u : ℕ) → r ≡ max s e → s ≡ max t d → t ≡ max u c → u ≡ max a b
    → a ≡ A → max b d ≡ L → max c e ≡ R → r ≡ max A (max L R)
five a b c d e A L R r s t u hr hs ht hu ha hl hright =
    hr ∙ ap (λ n. max n e) (hs ∙ ap (λ n. max n d) (ht ∙ ap (λ n. max n c) hu)) ∙ out (max a b) c d e
    ∙ pairs a b d (max c e) ∙ λ i. max (ha i) (max (hl i) (hright i))
  where
    out : (p c d e : ℕ) → max (max (max p c) d) e ≡ max p (max d (max c e))
    out p c d e = omega arith

    pairs : (a b d y : ℕ) → max (max a b) (max d y) ≡ max a (max (max b d) y)
    pairs a b d y = omega arith

up_to : (a b : ℕ) → a ≤ b → (a < b) ⊎ (a ≡ b)
up_to a b h = ⊎_elim (λ l. inl l) (λ g. inr (omega arith)) (below_or_not a b)

module _ (l : List ℕ) (bytes : Bytes l) (at n j k : ℕ) (some : 1 ≤ k) (few : k ≤ 8) (row : j + k ≤ n)
    (p : ℕ) (h : p < 8 * k) where
  abbrev v : ℕ
  v = word_of l (at + j) k

  abbrev x : ℕ
  x = 8 * (j + k) - 1 - p

  abbrev f : ℕ → ℕ
  f = point_in l at

  -- ---- the column before, from the word or from the byte before
  before_first : 1 + p ≡ 8 * k → (t : Bool) → ltb 0 j ≡ t
      → cond t (get_or l (at + j - 1) 0) 0 % 2 ≡ left_of f x
  before_first q true e =
      let some-before = ltb-true 0 j e in
      rw (lt-ltb 0 x (omega arith))
      (sym (bit_zero (get_or l (at + j - 1) 0))
      ∙ λ i. bit (get_or l (place at j k p q some-before i) 0) (digit j k p q some-before i))
    where
      place : (at j k p : ℕ) → 1 + p ≡ 8 * k → 0 < j → at + j - 1 ≡ at + (8 * (j + k) - 1 - p - 1) / 8
      place at j k p q g = omega arith

      digit : (j k p : ℕ) → 1 + p ≡ 8 * k → 0 < j → 0 ≡ 7 - (8 * (j + k) - 1 - p - 1) % 8
      digit j k p q g = omega arith
  before_first q false e = let none = ltb-false 0 j e in rw (le-ltb 0 x (omega arith)) refl

  twice : (a : ℕ) → a % 2 % 2 ≡ a % 2
  twice a = omega arith

  from_left : max (bit v (1 + p)) (bit (byte_before l at j % 2 * 2 ^ (8 * k - 1)) p) ≡ left_of f x
  unfolding byte_before
  from_left =
      ⊎_elim
      (λ q. only_first _ _ _
      (word_bit l bytes at j k (1 + p) q ∙ ap f (one j k p q)
      ∙ sym (ap (λ b. cond b (f (x - 1)) 0) (lt-ltb 0 x (omega arith))))
      (bit_shl_low (byte_before l at j % 2) (8 * k - 1) p (omega arith)))
      (λ q. only_second _ _ _
      (bit_past v (8 * k) (1 + p) (word_lt l bytes (at + j) k) (omega arith))
      (ap (bit (byte_before l at j % 2 * 2 ^ (8 * k - 1))) (top k p q)
      ∙ bit_shl (byte_before l at j % 2) (8 * k - 1) 0 ∙ bit_zero (byte_before l at j % 2)
      ∙ twice (byte_before l at j) ∙ before_first q (ltb 0 j) refl))
      (up_to (1 + p) (8 * k) (omega arith))
    where
      one : (j k p : ℕ) → 1 + p < 8 * k → 8 * (j + k) - 1 - (1 + p) ≡ 8 * (j + k) - 1 - p - 1
      one j k p q = omega arith

      top : (k p : ℕ) → 1 + p ≡ 8 * k → p ≡ 8 * k - 1 + 0
      top k p q = omega arith

  -- ---- the column after
  after_last : p ≡ 0 → (t : Bool) → ltb (j + k) n ≡ t
      → bit (cond t (get_or l (at + (j + k)) 0) 0) (7 + p) ≡ right_of f (8 * n) x
  after_last q true e =
      let Some-after = ltb-true (j + k) n e in
      rw (lt-ltb (x + 1) (8 * n) (omega arith))
      (λ i. bit (get_or l (place at j k p q some i) 0) (digit j k p q some i))
    where
      place : (at j k p : ℕ) → p ≡ 0 → 1 ≤ k → at + (j + k) ≡ at + (8 * (j + k) - 1 - p + 1) / 8
      place at j k p q g = omega arith

      digit : (j k p : ℕ) → p ≡ 0 → 1 ≤ k → 7 + p ≡ 7 - (8 * (j + k) - 1 - p + 1) % 8
      digit j k p q g = omega arith
  after_last q false e =
      let none = ltb-false (j + k) n e in
      rw (le-ltb (x + 1) (8 * n) (omega arith)) (bit_past 0 0 (7 + p) (omega arith) (omega arith))

  after_lt : (t : Bool) → cond t (get_or l (at + (j + k)) 0) 0 < 2 ^ 8
  after_lt true = bytes (at + (j + k))
  after_lt false = omega arith

  from_right : max (bit (v * 2 % 2 ^ 64) p) (bit (byte_from l at n (j + k) / 2 ^ 7) p) ≡ right_of f (8 * n) x
  unfolding byte_from
  from_right =
      ⊎_elim
      (λ q. only_first _ _ _
      (bit_mod (v * 2) 64 p (omega arith) ∙ ap (bit (v * 2)) (down p q) ∙ bit_shl v 1 (p - 1)
      ∙ word_bit l bytes at j k (p - 1) (omega arith) ∙ ap f (one j k p q h)
      ∙ sym (ap (λ b. cond b (f (x + 1)) 0) (lt-ltb (x + 1) (8 * n) (omega arith))))
      (bit_up (byte_from l at n (j + k)) 7 p
      ∙ bit_past (byte_from l at n (j + k)) 8 (7 + p) (after_lt (ltb (j + k) n)) (omega arith)))
      (λ q. only_second _ _ _
      (bit_mod (v * 2) 64 p (omega arith) ∙ bit_shl_low v 1 p (omega arith))
      (bit_up (byte_from l at n (j + k)) 7 p ∙ after_last (omega arith) (ltb (j + k) n) refl))
      (below_or_not 0 p)
    where
      down : (p : ℕ) → 0 < p → p ≡ 1 + (p - 1)
      down p q = omega arith

      one : (j k p : ℕ) → 0 < p → p < 8 * k → 8 * (j + k) - 1 - (p - 1) ≡ 8 * (j + k) - 1 - p + 1
      one j k p q h = omega arith

  -- a row spread to both its sides
  pub across_bit : bit (across_of l at n j k) p ≡ max (f x) (max (left_of f x) (right_of f (8 * n) x))
  unfolding across_of sides
  across_bit =
      five (bit v p) (bit v (1 + p)) (bit (v * 2 % 2 ^ 64) p)
      (bit (byte_before l at j % 2 * 2 ^ (8 * k - 1)) p) (bit (byte_from l at n (j + k) / 2 ^ 7) p)
      (f x) (left_of f x) (right_of f (8 * n) x) _ _ _ _
      (bit_or_lem _ (byte_from l at n (j + k) / 2 ^ 7) p)
      (bit_or_lem _ (byte_before l at j % 2 * 2 ^ (8 * k - 1)) p)
      (bit_or_lem (bit_or v (v / 2)) (v * 2 % 2 ^ 64) p)
      (bit_or_lem v (v / 2) p ∙ ap (max (bit v p)) (bit_up v 1 p))
      (word_bit l bytes at j k p h) from_left from_right

-- ---- the columns at most one apart
module _ (f : ℕ → ℕ) (m x : ℕ) (h : x < m) where
  left_least : (b : ℕ) → ((z : ℕ) → z < m → Near z x → f z ≤ b) → left_of f x ≤ b
  left_least b each = by (ltb 0 x) refl
    where
      by : (t : Bool) → ltb 0 x ≡ t → cond t (f (x - 1)) 0 ≤ b
      by true e = let g = ltb-true 0 x e in each (x - 1) (omega arith) (omega arith, omega arith)
      by false e = omega arith

  right_least : (b : ℕ) → ((z : ℕ) → z < m → Near z x → f z ≤ b) → right_of f m x ≤ b
  right_least b each = by (ltb (x + 1) m) refl
    where
      by : (t : Bool) → ltb (x + 1) m ≡ t → cond t (f (x + 1)) 0 ≤ b
      by true e = let g = ltb-true (x + 1) m e in each (x + 1) g (omega arith, omega arith)
      by false e = omega arith

  near_least : (b : ℕ) → ((z : ℕ) → z < m → Near z x → f z ≤ b)
      → max (f x) (max (left_of f x) (right_of f m x)) ≤ b
  near_least b each =
      omega (arith, each x h (omega arith, omega arith), left_least b each, right_least b each)

  near_holds : (z : ℕ) → z < m → Near z x → f z ≤ max (f x) (max (left_of f x) (right_of f m x))
  near_holds z hz near =
      ⊎_elim (λ l. omega (arith, left z l near.1)) (λ l. ⊎_elim (λ g. omega (
        arith,
        right z hz g near.0,
      ))
      (λ g. let e : f z ≡ f x = ap f (omega arith) in omega (arith, e)) (below_or_not x z)) (below_or_not z x)
    where
      left : (z : ℕ) → z < x → x ≤ z + 1 → f z ≤ left_of f x
      left z l n =
          let e : f z ≡ f (x - 1) = ap f (omega arith) in
          let g : left_of f x ≡ f (x - 1) = ap (λ b. cond b (f (x - 1)) 0) (lt-ltb 0 x (omega arith)) in
          omega arith

      right : (z : ℕ) → z < m → x < z → z ≤ x + 1 → f z ≤ right_of f m x
      right z hz l n =
          let e : f z ≡ f (x + 1) = ap f (omega arith) in
          let g : right_of f m x ≡ f (x + 1) = ap (λ b. cond b (f (x + 1)) 0) (lt-ltb (x + 1) m (omega
          arith)) in
          omega arith

-- what a row above, below or the cell's own gives: nothing but what is near, and all that is near
module _ (l : List ℕ) (bytes : Bytes l) (at n j k : ℕ) (some : 1 ≤ k) (few : k ≤ 8) (row : j + k ≤ n)
    (p : ℕ) (h : p < 8 * k) where
  abbrev column : ℕ
  column = 8 * (j + k) - 1 - p

  pub across_least : (b : ℕ) → ((z : ℕ) → z < 8 * n → Near z column → point_in l at z ≤ b)
      → bit (across_of l at n j k) p ≤ b
  across_least b each =
      subst (λ v. v ≤ b) (sym (across_bit l bytes at n j k some few row p h))
      (near_least (point_in l at) (8 * n) column (omega arith) b each)

  pub across_holds : (z : ℕ) → z < 8 * n → Near z column → point_in l at z ≤ bit (across_of l at n j k) p
  across_holds z hz near =
      subst (λ v. point_in l at z ≤ v) (sym (across_bit l bytes at n j k some few row p h))
      (near_holds (point_in l at) (8 * n) column (omega arith) z hz near)

  pub spread_least : (square : Bool) (b : ℕ)
      → ((z : ℕ) → z < 8 * n → NearBy square z column → point_in l at z ≤ b)
      → bit (spread_of square l at n j k) p ≤ b
  unfolding spread_of
  spread_least true b each = across_least b each
  spread_least false b each =
      subst (λ v. v ≤ b) (sym (word_bit l bytes at j k p h)) (each column (omega arith) refl)

  pub spread_holds : (square : Bool) (z : ℕ) → z < 8 * n → NearBy square z column
      → point_in l at z ≤ bit (spread_of square l at n j k) p
  unfolding spread_of
  spread_holds true z hz near = across_holds z hz near
  spread_holds false z hz near =
      subst (λ v. point_in l at z ≤ v) (ap (point_in l at) near ∙ sym (word_bit l bytes at j k p h))
      (le_refl _)
