-- Row words: the highest digit, runs of digits.
use Prim.Native.Nat.{ℕ, suc, ◌+◌, ◌-◌, ◌*◌, ◌/◌, ◌^◌, ◌≤◌, ◌<◌}
use mathlib.Core.Path.{◌≡◌, sym, ap, ap₂, ◌∙◌, subst}
use native.Mathlib.Omega.{arith}
use native.Mathlib.Nat.{lt_of_lt_of_le, add-zero}
use lib.Pow.{pow_mono, pow-add, shl-shr, shr_lt}
use lib.Count.{count_leading_zeros, leading_top}
use Rattle.basics.specs.Bits.{bit}
use Rattle.basics.proofs.Bits.{bit_low, bit_high}
use Rattle.blocks.proofs.Points.{bit_above}
use Rattle.packedline.specs.Steps.Cells.{run_word}

pub one_cell : (c : ℕ) → c < 64 → 9223372036854775808 / 2 ^ c ≡ 2 ^ (63 - c)
one_cell c h =
    ap (λ n. n / 2 ^ c) (ap (λ n. 2 ^ n) (whole c h) ∙ pow-add 2 (63 - c) c) ∙ shl-shr (2 ^ (63 - c)) c
  where
    whole : (c : ℕ) → c < 64 → 63 ≡ (63 - c) + c
    whole c h = omega arith

pub first_is : (a : ℕ) → 0 < a → a < 2 ^ 64 → (count_leading_zeros 64 a < 64)
    × ((2 ^ (63 - count_leading_zeros 64 a) ≤ a) × (a < 2 ^ (64 - count_leading_zeros 64 a)))
first_is a p h =
    let t = leading_top 64 a p h in (
      less (count_leading_zeros 64 a) t.0 t.1,
      (
        subst (λ n. 2 ^ n ≤ a) (low (count_leading_zeros 64 a) t.0 t.1) t.2,
        subst (λ n. a < 2 ^ n) (high (count_leading_zeros 64 a) t.0 t.1) t.3,
      ),
    )
  where
    less : (z j : ℕ) → z + suc j ≡ 64 → z < 64
    less z j e = omega arith

    low : (z j : ℕ) → z + suc j ≡ 64 → j ≡ 63 - z
    low z j e = omega arith

    high : (z j : ℕ) → z + suc j ≡ 64 → suc j ≡ 64 - z
    high z j e = omega arith

-- the word is its highest digit and a rest below it
module _ (m k : ℕ) (lo : 2 ^ k ≤ m) (hi : m < 2 ^ (k + 1)) where
  twice : 2 ^ (k + 1) ≡ 2 ^ k + 2 ^ k
  twice = pow-add 2 k 1 ∙ two (2 ^ k)
    where
      two : (n : ℕ) → n * 2 ≡ n + n
      two n = omega arith

  pub rest_lt : m - 2 ^ k < 2 ^ k
  rest_lt = omega (arith, twice)

  parts : m ≡ 1 * 2 ^ k + (m - 2 ^ k)
  parts = omega arith

  pub rest_below : (i : ℕ) → i < k → bit (m - 2 ^ k) i ≡ bit m i
  rest_below i h = sym (ap (λ n. bit n i) parts ∙ bit_low 1 k (m - 2 ^ k) i rest_lt h)

  pub top_on : bit m k ≡ 1
  top_on = ap₂ bit parts (sym (add-zero k)) ∙ bit_high 1 k (m - 2 ^ k) 0 rest_lt

  pub rest_top : bit (m - 2 ^ k) k ≡ 0
  rest_top = bit_above (m - 2 ^ k) k rest_lt

  pub rest_above : (i : ℕ) → k < i → bit (m - 2 ^ k) i ≡ bit m i
  rest_above i h =
      bit_above (m - 2 ^ k) i (lt_of_lt_of_le rest_lt (pow_mono {i = k} {j = i} (omega arith)))
      ∙ sym (bit_above m i (lt_of_lt_of_le hi (pow_mono {i = k + 1} {j = i} (omega arith))))

pub run_whole : (wide : ℕ) → 64 ≤ wide → 18446744073709551615 ≡ run_word wide
run_whole wide h =
    none ((2 ^ 64 - 1) / 2 ^ wide) (shr_lt {n = 2 ^ 64 - 1} 0 wide
    (lt_of_lt_of_le all (pow_mono {i = 64} {j = 0 + wide} (omega arith))))
  where
    all : 2 ^ 64 - 1 < 2 ^ 64
    all = omega arith

    none : (q : ℕ) → q < 1 → 18446744073709551615 ≡ 2 ^ 64 - 1 - q
    none q h = omega arith
