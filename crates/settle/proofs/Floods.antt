-- A word flooded inside a mask: what it keeps, what it takes, and what it never leaves.
use Prim.Native.Nat.{ℕ, zero, suc, ◌+◌, ◌-◌, ◌*◌, ◌/◌, ◌%◌, ◌^◌, ◌≤◌, ◌<◌, min, max}
use mathlib.Core.Path.{◌≡◌, sym, ap, ◌∙◌, subst}
use mathlib.Core.Logic.{⊎_elim}
use native.Mathlib.Nat.{le_refl, le_antisymm}
use native.Mathlib.Omega.{arith}
use lib.Bits.{bit_or, or_lt, and_le_l}
use lib.Dec.{ltb, ltb→lt, lt→ltb}
use Rattle.basics.specs.Bits.{bit}
use Rattle.basics.specs.Tests.{any}
use Rattle.basics.proofs.Any.{any_intro, any_elim}
use Rattle.basics.proofs.Truth.{decided}
use Rattle.basics.proofs.Bits.{bit_up, bit_mod, bit_or_lem, bit_and_lem, bit_shl_low, bit_shl, bits_same}
use Rattle.basics.proofs.SliceParts.{below_or_not}
use Rattle.settle.specs.Steps.Words.{once_in, flooded}
use Rattle.settle.proofs.Words.{bit_past}

module _ (m o v p : ℕ) where
  once_bit : bit (once_in m o v) p
      ≡ max (bit v p) (min (bit m p) (max (max (bit o p) (bit v (1 + p))) (bit (v * 2 % 2 ^ 64) p)))
  unfolding once_in
  once_bit =
      bit_or_lem v _ p ∙ ap (max (bit v p)) (bit_and_lem m _ p ∙ ap (min (bit m p))
      (bit_or_lem _ (v * 2 % 2 ^ 64) p ∙ ap (λ n. max n (bit (v * 2 % 2 ^ 64) p))
      (bit_or_lem o (v / 2) p ∙ ap (max (bit o p)) (bit_up v 1 p))))

  once_more : bit v p ≤ bit (once_in m o v) p
  once_more = omega (arith, once_bit)

  once_took : min (bit m p) (bit o p) ≤ bit (once_in m o v) p
  once_took = subst (λ n. min (bit m p) (bit o p) ≤ n) (sym once_bit) (took _ _ _ _ _)
    where
      took : (v m o s t : ℕ) → min m o ≤ max v (min m (max (max o s) t))
      took v m o s t =
          let inner : o ≤ max (max o s) t = omega arith in
          omega (arith, mono m o (max (max o s) t) inner)
        where
          mono : (m a b : ℕ) → a ≤ b → min m a ≤ min m b
          mono m a b l = omega arith

-- inside g, when what is around it inside the mask is, and no step inside the mask leads out of g
module _ (m o n : ℕ) (few : n ≤ 64) (g : ℕ → ℕ) (beyond : (p : ℕ) → p < n → min (bit m p) (bit o p) ≤ g p)
    (up : (p : ℕ) → 1 + p < n → min (bit m p) (g (1 + p)) ≤ g p)
    (down : (p : ℕ) → 1 + p < n → min (bit m (1 + p)) (g p) ≤ g (1 + p)) where
  once_under : (v : ℕ) → v < 2 ^ n → ((p : ℕ) → p < n → bit v p ≤ g p)
      → (p : ℕ) → p < n → bit (once_in m o v) p ≤ g p
  once_under v hv so p h =
      subst (λ x. x ≤ g p) (sym (once_bit m o v p))
      (whole _ _ _ (so p h) (parts _ _ _ _ (parts _ _ _ _ (beyond p h) above) below))
    where
      whole : (v x b : ℕ) → v ≤ b → x ≤ b → max v x ≤ b
      whole v x b k l = omega arith

      parts : (m a b g : ℕ) → min m a ≤ g → min m b ≤ g → min m (max a b) ≤ g
      parts m a b g k l = omega arith

      less : (m a b g : ℕ) → a ≤ b → min m b ≤ g → min m a ≤ g
      less m a b g k l = omega arith

      nothing : (m a g : ℕ) → a ≡ 0 → min m a ≤ g
      nothing m a g e = omega arith

      back : (p : ℕ) → 0 < p → 1 + (p - 1) ≡ p
      back p l = omega arith

      above : min (bit m p) (bit v (1 + p)) ≤ g p
      above =
          ⊎_elim (λ q. less _ _ _ _ (so (1 + p) q) (up p q))
          (λ q. nothing _ _ _ (bit_past v n (1 + p) hv q)) (below_or_not (1 + p) n)

      below : min (bit m p) (bit (v * 2 % 2 ^ 64) p) ≤ g p
      below =
          ⊎_elim
          (λ q. less _ _ _ _
          (subst (λ x. x ≤ g (p - 1)) (sym (bit_mod (v * 2) 64 p (omega arith)
          ∙ ap (bit (v * 2)) (sym (back p q)) ∙ bit_shl v 1 (p - 1))) (so (p - 1) (omega arith)))
          (subst (λ z. min (bit m z) (g (p - 1)) ≤ g z) (back p q) (down (p - 1) (omega arith))))
          (λ q. nothing _ _ _ (bit_mod (v * 2) 64 p (omega arith) ∙ bit_shl_low v 1 p (omega arith)))
          (below_or_not 0 p)

module _ (m o c : ℕ) where
  pub flooded_more : (i p : ℕ) → bit c p ≤ bit (flooded m o c i) p
  unfolding flooded
  flooded_more zero p = le_refl (bit c p)
  flooded_more (suc i) p = omega (arith, flooded_more i p, once_more m o (flooded m o c i) p)

  pub flooded_took : (i p : ℕ) → min (bit m p) (bit o p) ≤ bit (flooded m o c (suc i)) p
  unfolding flooded
  flooded_took i p = once_took m o (flooded m o c i) p

  module _ (n : ℕ) (hm : m < 2 ^ n) (hc : c < 2 ^ n) where
    pub flooded_lt : (i : ℕ) → flooded m o c i < 2 ^ n
    unfolding flooded once_in
    flooded_lt zero = hc
    flooded_lt (suc i) =
        or_lt n (flooded m o c i) _ (flooded_lt i)
        (omega (arith, and_le_l m (bit_or (bit_or o (flooded m o c i / 2)) (flooded m o c i * 2 % 2 ^ 64))))

    pub flooded_under : n ≤ 64 → (g : ℕ → ℕ) → ((p : ℕ) → p < n → bit c p ≤ g p)
        → ((p : ℕ) → p < n → min (bit m p) (bit o p) ≤ g p)
        → ((p : ℕ) → 1 + p < n → min (bit m p) (g (1 + p)) ≤ g p)
        → ((p : ℕ) → 1 + p < n → min (bit m (1 + p)) (g p) ≤ g (1 + p))
        → (i p : ℕ) → p < n → bit (flooded m o c i) p ≤ g p
    unfolding flooded
    flooded_under few g begun beyond up down zero p h = begun p h
    flooded_under few g begun beyond up down (suc i) p h =
        once_under m o n few g beyond up down (flooded m o c i) (flooded_lt i)
        (flooded_under few g begun beyond up down i) p h

-- of two numbers, one with all digits of the other: the same, or it has one more
pub one_more_digit : (n a b : ℕ) → a < 2 ^ n → b < 2 ^ n → ((p : ℕ) → p < n → bit a p ≤ bit b p)
    → (a ≡ b → ⊥) → (p : ℕ) × (p < n) × (bit a p < bit b p)
one_more_digit n a b ha hb each ne =
    ⊎_elim
    (λ t. let f = any_elim (λ p. ltb (bit a p) (bit b p)) n t in
    (f.0, f.1, ltb→lt (bit a f.0) (bit b f.0) f.2))
    (λ none. absurd (ne (bits_same n a b ha hb
    (λ p h. same _ _ (each p h) (λ l. none (any_intro (λ p. ltb (bit a p) (bit b p)) n p h (lt→ltb _ _
    l)))))))
    (decided (any (λ p. ltb (bit a p) (bit b p)) n))
  where
    same : (x y : ℕ) → x ≤ y → (x < y → ⊥) → x ≡ y
    same x y l never = ⊎_elim (λ g. absurd (never g)) (λ g. le_antisymm l g) (below_or_not x y)

-- a word that has all of the mask stays as it is
pub full_once : (m o c : ℕ) → m < 2 ^ 64 → c < 2 ^ 64 → bit_or m c ≡ c → once_in m o c ≡ c
unfolding once_in flooded
full_once m o c hm hc e =
    bits_same 64 (once_in m o c) c (flooded_lt m o c 64 hm hc 1) hc
    (λ p h. full _ _ _ _ (once_bit m o c p) (sym (bit_or_lem m c p) ∙ ap (λ x. bit x p) e))
  where
    full : (b c m x : ℕ) → b ≡ max c (min m x) → max m c ≡ c → b ≡ c
    full b c m x q f = omega arith
