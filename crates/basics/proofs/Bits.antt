-- Binary digits: of sums and products by powers of two,
-- of `|` and `&`, of a complement, of digits put together.
use Prim.Native.Nat.{ℕ, zero, suc, ◌+◌, ◌-◌, ◌*◌, ◌/◌, ◌%◌, ◌^◌, ◌≤◌, ◌<◌, min, max}
use mathlib.Core.Path.{◌≡◌, refl, sym, ap, ap₂, ◌∙◌, subst}
use mathlib.Core.Logic.{⊎_elim}
use native.Mathlib.Omega.{arith}
use native.Mathlib.Numerals.{add-one}
use mathlib.Core.Bool.{Bool, true, false}
use borrow.Author.Tests.{ltb-true, ltb-false}
use lib.Dec.{ltb, lit<}
use native.Mathlib.Nat.{lt_of_lt_of_le, one-mul, add-zero, not-suc-le-zero}
use native.Mathlib.Nat.{le_of_suc-le-suc, eq-or-lt_of_le, div-one, pow-suc, mod-lt}
use lib.Arith.{digits_lt, digits_mod}
use lib.Pow.{pow_pos, pow_mono, pow-add, shl_exact, shl-shr}
use lib.Pow.{shr-shr, shr_le, shr_lt, high, low, field, mod-mod-pow}
use lib.Bits.{bit_or, bit_and, or_step, and_step, or_shr, and_shr, or_shifted}
use Rattle.basics.specs.Bits.{bit, digits}

pub bit_lt : (a k : ℕ) → bit a k < 2
bit_lt a k = omega arith

-- the first digit, and the others
pub bit_zero : (a : ℕ) → bit a 0 ≡ a % 2
bit_zero a = ap (λ n. n % 2) (div-one a)

pub bit_up : (a j k : ℕ) → bit (a / 2 ^ j) k ≡ bit a (j + k)
bit_up a j k = ap (λ n. n % 2) (shr-shr a j k)

-- digits below m do not see what lies above
pub bit_mod : (n m j : ℕ) → j < m → bit (n % 2 ^ m) j ≡ bit n j
bit_mod n m j h =
    let e : m ≡ (m - (1 + j)) + (1 + j) = omega arith in
    sym (field (n % 2 ^ m) 1 j)
    ∙ ap (λ k. k / 2 ^ j) (ap (λ k. n % 2 ^ k % 2 ^ (1 + j)) e ∙ mod-mod-pow n (m - (1 + j)) (1 + j))
    ∙ field n 1 j

pub bit_low : (q m r j : ℕ) → r < 2 ^ m → j < m → bit (q * 2 ^ m + r) j ≡ bit r j
bit_low q m r j hr h = sym (bit_mod (q * 2 ^ m + r) m j h) ∙ ap (λ n. bit n j) (low q m hr)

pub bit_high : (q m r k : ℕ) → r < 2 ^ m → bit (q * 2 ^ m + r) (m + k) ≡ bit q k
bit_high q m r k hr = sym (bit_up (q * 2 ^ m + r) m k) ∙ ap (λ n. bit n k) (high q m hr)

-- numbers below 2 ^ n with the same digits are the same
pub bits_same : (n a b : ℕ) → a < 2 ^ n → b < 2 ^ n → ((k : ℕ) → k < n → bit a k ≡ bit b k) → a ≡ b
bits_same zero a b ha hb each = omega arith
bits_same (suc n) a b ha hb each =
    let half = bits_same n (a / 2) (b / 2) (shr_lt n 1 (subst (λ m. a < 2 ^ m) (one_more n) ha))
    (shr_lt n 1 (subst (λ m. b < 2 ^ m) (one_more n) hb))
    (λ k h. bit_up a 1 k ∙ each (1 + k) (omega arith) ∙ sym (bit_up b 1 k)) in
    let last : a % 2 ≡ b % 2 = sym (bit_zero a) ∙ each 0 (omega arith) ∙ bit_zero b in
    omega arith
  where
    one_more : (n : ℕ) → suc n ≡ n + 1
    one_more n = omega arith

-- the lowest u digits of n are 0 exactly where 2 ^ u divides n
zero_bit : (k : ℕ) → bit 0 k ≡ 0
zero_bit k = omega (arith, shr_le 0 k)

pub low_clear : (n u : ℕ) → n % 2 ^ u ≡ 0 → (k : ℕ) → k < u → bit n k ≡ 0
low_clear n u e k h = sym (bit_mod n u k h) ∙ ap (λ m. bit m k) e ∙ zero_bit k

pub clear_low : (n u : ℕ) → ((k : ℕ) → k < u → bit n k ≡ 0) → n % 2 ^ u ≡ 0
clear_low n u each =
    bits_same u (n % 2 ^ u) 0 (mod-lt n {m = 2 ^ u} (pow_pos u))
    (pow_pos u) (λ k h. bit_mod n u k h ∙ each k h ∙ sym (zero_bit k))

-- ---- digit by digit, `|` is the greater and `&` the lesser
low_or : (a b : ℕ) → bit_or a b % 2 ≡ max (a % 2) (b % 2)
low_or a b = ap (λ (x : ℕ). x % 2) (or_step a b) ∙ digits_mod (bit_or (a / 2) (b / 2)) (omega arith)

low_and : (a b : ℕ) → bit_and a b % 2 ≡ min (a % 2) (b % 2)
low_and a b = ap (λ (x : ℕ). x % 2) (and_step a b) ∙ digits_mod (bit_and (a / 2) (b / 2)) (omega arith)

pub bit_or_lem : (a b k : ℕ) → bit (bit_or a b) k ≡ max (bit a k) (bit b k)
bit_or_lem a b k = ap (λ (x : ℕ). x % 2) (or_shr a b k) ∙ low_or (a / 2 ^ k) (b / 2 ^ k)

pub bit_and_lem : (a b k : ℕ) → bit (bit_and a b) k ≡ min (bit a k) (bit b k)
bit_and_lem a b k = ap (λ (x : ℕ). x % 2) (and_shr a b k) ∙ low_and (a / 2 ^ k) (b / 2 ^ k)

-- ---- shifted up by c: 0 below c, and the digits from there on
pub bit_shl_low : (a c k : ℕ) → k < c → bit (a * 2 ^ c) k ≡ 0
bit_shl_low a c k h = ap (λ n. bit n k) (plus_zero (a * 2 ^ c)) ∙ bit_low a c 0 k (pow_pos c) h ∙ zero_bit k
  where
    plus_zero : (n : ℕ) → n ≡ n + 0
    plus_zero n = omega arith

pub bit_shl : (a c k : ℕ) → bit (a * 2 ^ c) (c + k) ≡ bit a k
bit_shl a c k = sym (bit_up (a * 2 ^ c) c k) ∙ ap (λ n. bit n k) (shl-shr a c)

-- ---- what is left of 2 ^ n - 1 has every digit turned over
half_lt : (n a : ℕ) → a < 2 ^ suc n → a / 2 < 2 ^ n
half_lt n a h = omega (arith, pow-suc 2 n)

parted : (n a : ℕ) → a < 2 ^ suc n → 2 ^ suc n - 1 - a ≡ (2 ^ n - 1 - a / 2) * 2 + (1 - a % 2)
parted n a h = omega (arith, pow-suc 2 n)

pub bit_not : (n a k : ℕ) → a < 2 ^ n → k < n → bit (2 ^ n - 1 - a) k ≡ 1 - bit a k
bit_not zero a k ha h = absurd (not-suc-le-zero h)
bit_not (suc n) a zero ha h =
    ap (λ m. bit m 0) (parted n a ha)
    ∙ bit_low (2 ^ n - 1 - a / 2) 1 (1 - a % 2) 0 (omega arith) (omega arith)
    ∙ bit_zero (1 - a % 2) ∙ omega (arith, bit_zero a)
bit_not (suc n) a (suc k) ha h =
    ap (λ m. bit m (suc k)) (parted n a ha) ∙ ap (bit ((2 ^ n - 1 - a / 2) * 2 + (1 - a % 2))) (one_more k)
    ∙ bit_high (2 ^ n - 1 - a / 2) 1 (1 - a % 2) k (omega arith)
    ∙ bit_not n (a / 2) k (half_lt n a ha) (le_of_suc-le-suc h)
    ∙ ap (λ m. 1 - m) (bit_up a 1 k ∙ ap (bit a) (sym (one_more k)))
  where
    one_more : (k : ℕ) → suc k ≡ 1 + k
    one_more k = omega arith

-- ---- n digits of m bits put together: the bits of digit i
pub bit_digits : (m : ℕ) (f : ℕ → ℕ) → ((i : ℕ) → f i < 2 ^ m) → (n i j : ℕ) → i < n → j < m
    → bit (digits m f n) (m * (n - 1 - i) + j) ≡ bit (f i) j
unfolding digits
bit_digits m f small zero i j hi hj = absurd (not-suc-le-zero hi)
bit_digits m f small (suc n) i j hi hj =
    ⊎_elim
    (λ e. ap (λ k. bit (digits m f n * 2 ^ m + f n) (m * k + j)) (last n i e)
    ∙ ap (λ k. bit (digits m f n * 2 ^ m + f n) k) (none m j)
    ∙ bit_low (digits m f n) m (f n) j (small n) hj ∙ ap (λ k. bit (f k) j) (sym e))
    (λ l. ap (λ k. bit (digits m f n * 2 ^ m + f n) (m * k + j)) (before n i l)
    ∙ ap (λ k. bit (digits m f n * 2 ^ m + f n) k) (some m (n - 1 - i) j)
    ∙ bit_high (digits m f n) m (f n) (m * (n - 1 - i) + j) (small n) ∙ bit_digits m f small n i j l hj)
    (eq-or-lt_of_le (le_of_suc-le-suc hi))
  where
    last : (n i : ℕ) → i ≡ n → suc n - 1 - i ≡ 0
    last n i e = omega arith

    none : (m j : ℕ) → m * 0 + j ≡ j
    none m j = omega arith

    before : (n i : ℕ) → i < n → suc n - 1 - i ≡ (n - 1 - i) + 1
    before n i l = omega arith

    some : (m k j : ℕ) → m * (k + 1) + j ≡ m + (m * k + j)
    some m k j = omega arith

-- ---- one more digit shifted in at the low end of a machine word of W bits
module _ (m : ℕ) (f : ℕ → ℕ) (small : (i : ℕ) → f i < 2 ^ m) where
  pub digits_below : (n : ℕ) → digits m f n < 2 ^ (m * n)
  unfolding digits
  digits_below zero = subst (λ k. 0 < k) (ap (λ k. 2 ^ k) (sym (times_zero m))) (omega arith)
    where
      times_zero : (m : ℕ) → m * 0 ≡ 0
      times_zero m = omega arith
  digits_below (suc n) =
      subst (λ k. digits m f n * 2 ^ m + f n < k) (sym (pow-add 2 (m * n) m)
      ∙ ap (λ k. 2 ^ k) (sym (times_more m n))) (digits_lt (digits_below n) (small n))
    where
      times_more : (m n : ℕ) → m * suc n ≡ m * n + m
      times_more m n = omega arith

  pub digits_none : 0 ≡ digits m f 0
  unfolding digits
  digits_none = refl

  pub digits_more : (W n v d : ℕ) → m * n + m ≤ W → v ≡ digits m f n → d ≡ f n
      → bit_or (v * 2 ^ m % 2 ^ W) d ≡ digits m f (n + 1)
  unfolding digits
  digits_more W n v d room e q =
      ap₂ (λ x y. bit_or (x * 2 ^ m % 2 ^ W) y) e q
      ∙ ap (λ x. bit_or x (f n)) (shl_exact {a = digits m f n} (m * n) m W (digits_below n) room)
      ∙ or_shifted (digits m f n) m (f n) (small n)
      ∙ ap (digits m f) (sym (add-one n))

  pub digits_done : (k n v : ℕ) → v ≡ digits m f k → k ≡ n → v ≡ digits m f n
  digits_done k n v e q = e ∙ ap (digits m f) q

pub digits_same : (m : ℕ) (f g : ℕ → ℕ) (n : ℕ) → ((i : ℕ) → i < n → f i ≡ g i) → digits m f n ≡ digits m g n
unfolding digits
digits_same m f g zero each = refl
digits_same m f g (suc n) each =
    ap₂ (λ a b. a * 2 ^ m + b) (digits_same m f g n (λ i h. each i (omega arith))) (each n (omega arith))

-- ---- a mask, one digit alone
one_above : (j : ℕ) → 1 ≤ j → bit 1 j ≡ 0
one_above j h =
    omega (arith, shr_lt {n = 1} 0 j (lt_of_lt_of_le (lit< tt) (pow_mono {i = 1} {j = 0 + j} (omega arith))))

pub mask_same : (j : ℕ) → bit (2 ^ j) j ≡ 1
mask_same j = ap₂ bit (sym (one-mul (2 ^ j))) (sym (add-zero j)) ∙ bit_shl 1 j 0

pub mask_other : (j k : ℕ) → (j ≡ k → ⊥) → bit (2 ^ j) k ≡ 0
mask_other j k n = ap (λ a. bit a k) (sym (one-mul (2 ^ j))) ∙ by (ltb k j) refl
  where
    up : (j k : ℕ) → j ≤ k → k ≡ j + (k - j)
    up j k h = omega arith

    by : (b : Bool) → ltb k j ≡ b → bit (1 * 2 ^ j) k ≡ 0
    by true e = bit_shl_low 1 j k (ltb-true k j e)
    by false e =
        let h = ltb-false k j e in
        let q : (j < k) = apart j k h n in
        ap (bit (1 * 2 ^ j)) (up j k h) ∙ bit_shl 1 j (k - j) ∙ one_above (k - j) (omega arith)
      where
        apart : (j k : ℕ) → j ≤ k → (j ≡ k → ⊥) → j < k
        apart j k h n = omega arith
