-- Points of packed bytes.
use Prim.Native.Nat.{ℕ, ◌+◌, ◌-◌, ◌*◌, ◌/◌, ◌%◌, ◌^◌, ◌≤◌, ◌<◌, max}
use mathlib.Core.Path.{◌≡◌, sym, ap, ap₂, ◌∙◌, subst}
use mathlib.Core.Bool.{Bool, true, false}
use mathlib.Core.List.{List}
use mathlib.Core.Logic.{⊎_elim}
use native.Mathlib.Omega.{arith}
use native.Mathlib.Nat.{lt_of_lt_of_le}
use lib.Arith.{digits_div, digits_mod}
use lib.Pow.{pow_mono, shr_lt}
use lib.ListN.{get_or}
use Rattle.basics.specs.Bits.{bit}
use Rattle.basics.proofs.Bits.{bit_lt, bit_up, bit_mod, bit_shl, bit_shl_low, bit_or_lem, bit_and_lem}
use Rattle.basics.specs.Bytes.{Bytes}
use Rattle.basics.proofs.SliceParts.{below_or_not}
use Rattle.rows.specs.Steps.Fold.{join_by}
use Rattle.blocks.specs.Steps.Joins.{join_packed}
use Rattle.blocks.specs.Steps.Points.{point_of, shifted_of, eight_from}

-- digit by digit, packed bytes are joined as numbers
pub bit_join : (grows : Bool) (a b k : ℕ) → bit (join_packed grows a b) k ≡ join_by grows (bit a k) (bit b k)
bit_join true a b k = bit_or_lem a b k
bit_join false a b k = bit_and_lem a b k

-- nothing stands above a number's length, nor above the eighth digit of a byte
pub bit_above : (a i : ℕ) → a < 2 ^ i → bit a i ≡ 0
bit_above a i h =
    ap (λ n. n % 2) (tiny (a / 2 ^ i) (shr_lt {n = a} 0 i (subst (λ n. a < 2 ^ n) (zero_plus i) h)))
  where
    zero_plus : (i : ℕ) → i ≡ 0 + i
    zero_plus i = omega arith

    tiny : (n : ℕ) → n < 1 → n ≡ 0
    tiny n h = omega arith

above : (b m : ℕ) → b < 256 → 8 ≤ m → bit b m ≡ 0
above b m h k = bit_above b m (lt_of_lt_of_le h (pow_mono {i = 8} {j = m} k))

-- point k of the shifted byte, counted from the highest digit: of the first byte, or else of the second
pub shifted_first : (a b d k : ℕ) → b < 256 → d + k < 8 → bit (shifted_of a b d) (7 - k) ≡ bit a (7 - (d + k))
unfolding shifted_of
shifted_first a b d k hb h =
    bit_or_lem (a * 2 ^ d % 2 ^ 8) (b / 2 ^ (8 - d)) (7 - k)
    ∙ ap₂ max (bit_mod (a * 2 ^ d) 8 (7 - k) (omega arith) ∙ ap (bit (a * 2 ^ d)) (parts d k h)
    ∙ bit_shl a d (7 - (d + k)))
    (bit_up b (8 - d) (7 - k) ∙ above b (8 - d + (7 - k)) hb (omega arith))
    ∙ omega arith
  where
    parts : (d k : ℕ) → d + k < 8 → 7 - k ≡ d + (7 - (d + k))
    parts d k h = omega arith

pub shifted_second : (a b d k : ℕ) → k < 8 → d < 8 → 8 ≤ d + k → bit (shifted_of a b d) (7 - k)
    ≡ bit b (7 - (d + k - 8))
unfolding shifted_of
shifted_second a b d k hk hd h =
    bit_or_lem (a * 2 ^ d % 2 ^ 8) (b / 2 ^ (8 - d)) (7 - k)
    ∙ ap₂ max (bit_mod (a * 2 ^ d) 8 (7 - k) (omega arith) ∙ bit_shl_low a d (7 - k) (omega arith))
    (bit_up b (8 - d) (7 - k) ∙ ap (bit b) (parts d k hk hd h))
    ∙ omega arith
  where
    parts : (d k : ℕ) → k < 8 → d < 8 → 8 ≤ d + k → 8 - d + (7 - k) ≡ 7 - (d + k - 8)
    parts d k hk hd h = omega arith

-- point k of the eight from d points past byte i is point i * 8 + (d + k)
pub eight_point : (l : List ℕ) → Bytes l → (i d k : ℕ) → d < 8 → k < 8 → bit (eight_from l i d) (7 - k)
    ≡ point_of l (i * 8 + (d + k))
unfolding eight_from point_of
eight_point l bytes i d k hd hk =
    ⊎_elim
    (λ h. shifted_first (get_or l i 0) (get_or l (i + 1) 0) d k (bytes (i + 1)) h
    ∙ ap₂ (λ m n. bit (get_or l m 0) (7 - n)) (sym (digits_div i h)) (sym (digits_mod i h)))
    (λ h. shifted_second (get_or l i 0) (get_or l (i + 1) 0) d k hk hd h
    ∙ ap₂ (λ m n. bit (get_or l m 0) (7 - n))
    (sym (ap (λ n. n / 8) (next i (d + k) h) ∙ digits_div (i + 1) (less d k hd hk h)))
    (sym (ap (λ n. n % 8) (next i (d + k) h) ∙ digits_mod (i + 1) (less d k hd hk h))))
    (below_or_not (d + k) 8)
  where
    next : (i n : ℕ) → 8 ≤ n → i * 8 + n ≡ (i + 1) * 8 + (n - 8)
    next i n h = omega arith

    less : (d k : ℕ) → d < 8 → k < 8 → 8 ≤ d + k → d + k - 8 < 8
    less d k hd hk h = omega arith

-- and shifted by nothing it is the byte itself
pub eight_none : (l : List ℕ) → Bytes l → (i : ℕ) → (k : ℕ) → k < 8 → bit (get_or l i 0) (7 - k)
    ≡ point_of l (i * 8 + k)
unfolding point_of
eight_none l bytes i k h =
    ap₂ (λ m n. bit (get_or l m 0) (7 - n)) (sym (digits_div i h)) (sym (digits_mod i h))

pub point_lt : (l : List ℕ) (x : ℕ) → point_of l x < 2
unfolding point_of
point_lt l x = bit_lt (get_or l (x / 8) 0) (7 - x % 8)
