-- Binary digits as tests: of `|` and `&`, of shifts, of a row of ones.
use Prim.Native.Nat.{ℕ, zero, suc, ◌+◌, ◌-◌, ◌*◌, ◌/◌, ◌%◌, ◌^◌, ◌≤◌, ◌<◌, min, max}
use mathlib.Core.Path.{◌≡◌, refl, sym, ap, ◌∙◌}
use mathlib.Core.Bool.{true, false, ◌&&◌, ◌||◌}
use native.Mathlib.Omega.{arith}
use native.Mathlib.Nat.{lt_of_lt_of_le, div-eq_of_lt, sub-zero}
use native.Mathlib.Decide.{dec_le, dec_lt}
use borrow.Author.Tests.{lt-ltb, le-ltb, le-leb, lt-leb}
use lib.Dec.{leb, ltb, eqb}
use lib.Pow.{pow_mono, pow_pos, ones_lt}
use lib.Bits.{bit_or, bit_and, and_mask}
use Rattle.basics.specs.Bits.{bit, on}
use Rattle.basics.proofs.Bits.{bit_or_lem, bit_and_lem, bit_up, bit_shl, bit_shl_low, bit_mod, bit_not}

-- `n & 1 == 1`
pub low_on : (n : ℕ) → eqb (bit_and n 1) 1 ≡ eqb (n % 2) 1
low_on n = ap (λ m. eqb m 1) (and_mask n 1)

one_or : (x y : ℕ) → x < 2 → y < 2 → eqb (max x y) 1 ≡ (eqb x 1 || eqb y 1)
one_or zero zero h h' = refl
one_or zero (suc zero) h h' = refl
one_or (suc zero) zero h h' = refl
one_or (suc zero) (suc zero) h h' = refl
one_or zero (suc (suc y)) h h' = absurd (omega arith)
one_or (suc zero) (suc (suc y)) h h' = absurd (omega arith)
one_or (suc (suc x)) y h h' = absurd (omega arith)

one_and : (x y : ℕ) → x < 2 → y < 2 → eqb (min x y) 1 ≡ (eqb x 1 && eqb y 1)
one_and zero zero h h' = refl
one_and zero (suc zero) h h' = refl
one_and (suc zero) zero h h' = refl
one_and (suc zero) (suc zero) h h' = refl
one_and zero (suc (suc y)) h h' = absurd (omega arith)
one_and (suc zero) (suc (suc y)) h h' = absurd (omega arith)
one_and (suc (suc x)) y h h' = absurd (omega arith)

pub on_or : (a b k : ℕ) → on (bit_or a b) k ≡ (on a k || on b k)
on_or a b k = ap (λ x. eqb x 1) (bit_or_lem a b k) ∙ one_or (bit a k) (bit b k) (omega arith) (omega arith)

pub on_and : (a b k : ℕ) → on (bit_and a b) k ≡ (on a k && on b k)
on_and a b k = ap (λ x. eqb x 1) (bit_and_lem a b k) ∙ one_and (bit a k) (bit b k) (omega arith) (omega arith)

pub on_none : (k : ℕ) → on 0 k ≡ false
on_none k = ap (λ x. eqb (x % 2) 1) (div-eq_of_lt (pow_pos k))

pub on_shr : (a c k : ℕ) → on (a / 2 ^ c) k ≡ on a (c + k)
on_shr a c k = ap (λ x. eqb x 1) (bit_up a c k)

pub on_shl : (a c k : ℕ) → on (a * 2 ^ c) k ≡ (leb c k && on a (k - c))
on_shl a c k = by (dec_le c k)
  where
    there : c ≤ k → k ≡ c + (k - c)
    there h = omega arith

    by : Dec (c ≤ k) → on (a * 2 ^ c) k ≡ (leb c k && on a (k - c))
    by (yes h) =
        ap (λ n. on (a * 2 ^ c) n) (there h) ∙ ap (λ x. eqb x 1) (bit_shl a c (k - c))
        ∙ ap (λ t. t && on a (k - c)) (sym (le-leb c k h))
    by (no n) =
        ap (λ x. eqb x 1) (bit_shl_low a c k (omega arith))
        ∙ ap (λ t. t && on a (k - c)) (sym (lt-leb c k (omega arith)))

pub on_mod : (n w k : ℕ) → k < w → on (n % 2 ^ w) k ≡ on n k
on_mod n w k h = ap (λ x. eqb x 1) (bit_mod n w k h)

pub on_ones : (n k : ℕ) → on (2 ^ n - 1) k ≡ ltb k n
on_ones n k = by (dec_lt k n)
  where
    one : (x : ℕ) → eqb x 1 ≡ false → x < 2 → eqb (1 - x) 1 ≡ true
    one zero e h = refl
    one (suc zero) e h = sym e
    one (suc (suc x)) e h = absurd (omega arith)

    by : Dec (k < n) → on (2 ^ n - 1) k ≡ ltb k n
    by (yes h) =
        ap (λ m. on m k) (sym (sub-zero (2 ^ n - 1))) ∙ ap (λ x. eqb x 1) (bit_not n 0 k (pow_pos n) h)
        ∙ one (bit 0 k) (on_none k) (omega arith) ∙ sym (lt-ltb k n h)
    by (no h) =
        ap (λ x. eqb (x % 2) 1)
        (div-eq_of_lt (lt_of_lt_of_le (ones_lt n) (pow_mono {i = n} {j = k} (omega arith))))
        ∙ sym (le-ltb k n (omega arith))
