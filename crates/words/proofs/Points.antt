-- Words of 64 points: 8 bytes put together, a part cut off, what stands some points further on.
use Prim.Native.Nat.{ℕ, ◌+◌, ◌-◌, ◌*◌, ◌/◌, ◌%◌, ◌^◌, ◌≤◌, ◌<◌, min, max}
use mathlib.Core.Path.{◌≡◌, refl, sym, ap, ap₂, ◌∙◌}
use mathlib.Core.Bool.{Bool, true, false, cond}
use mathlib.Core.List.{List}
use mathlib.Core.Logic.{⊎_elim}
use native.Mathlib.Omega.{arith}
use native.Mathlib.Nat.{lt_of_lt_of_le}
use lib.Dec.{ltb}
use lib.Pow.{pow_mono, shl_exact}
use lib.Bits.{bit_or, or_shifted}
use lib.ListN.{length, get_or, set}
use borrow.Author.Tests.{lt-ltb, le-ltb}
use Rattle.basics.specs.Bits.{bit, digits}
use Rattle.basics.specs.Bytes.{Bytes}
use Rattle.basics.proofs.Bits.{
  bit_lt,
  bit_up,
  bit_mod,
  bit_shl,
  bit_shl_low,
  bit_or_lem,
  bit_and_lem,
  bit_not,
  bit_digits,
  digits_none,
  digits_more,
  digits_below,
}
use Rattle.basics.proofs.SliceParts.{below_or_not}
use Rattle.blocks.specs.Steps.Laid.{laid}
use Rattle.blocks.proofs.Laid.{laid_none, laid_more}
use Rattle.blocks.proofs.Points.{bit_above}
use Rattle.packedline.specs.Steps.Line.{faced_point}
use Rattle.packedline.specs.Steps.Cells.{run_word}
use Rattle.packedline.proofs.Covers.{run_on, run_off}
use Rattle.words.specs.Steps.Words.{word_in, half_in, cut_of, byte_of, slid_of, row_point}

-- ---- bytes put together
module _ (s : List ℕ) (bytes : Bytes s) (at : ℕ) where
  abbrev byte : ℕ → ℕ
  byte i = get_or s (at + i) 0

  small : (i : ℕ) → byte i < 2 ^ 8
  small i = bytes (at + i)

  pub half_made : (a b c d : ℕ) → a ≡ bit_or (0 * 2 ^ 8 % 2 ^ 64) (get_or s at 0)
      → b ≡ bit_or (a * 2 ^ 8 % 2 ^ 64) (get_or s (at + 1) 0)
      → c ≡ bit_or (b * 2 ^ 8 % 2 ^ 64) (get_or s (at + 2) 0)
      → d ≡ bit_or (c * 2 ^ 8 % 2 ^ 64) (get_or s (at + 3) 0) → d ≡ half_in s at
  unfolding half_in
  half_made a b c d ea eb ec ed =
      let e1 = ea ∙ digits_more 8 byte small 64 0 0 (get_or s at 0) (omega arith) (digits_none 8 byte small)
      (ap (λ i. get_or s i 0) (none at)) in
      let e2 = eb ∙ digits_more 8 byte small 64 1 a (get_or s (at + 1) 0) (omega arith) e1 refl in
      let e3 = ec ∙ digits_more 8 byte small 64 2 b (get_or s (at + 2) 0) (omega arith) e2 refl in
      ed ∙ digits_more 8 byte small 64 3 c (get_or s (at + 3) 0) (omega arith) e3 refl
    where
      none : (n : ℕ) → n ≡ n + 0
      none n = omega arith

  -- point k
  pub word_point : (k : ℕ) → k < 64 → bit (word_in s at) (63 - k) ≡ bit (get_or s (at + k / 8) 0) (7 - k % 8)
  unfolding word_in
  word_point k h =
      ap (bit (digits 8 byte 8)) (place k h)
      ∙ bit_digits 8 byte small 8 (k / 8) (7 - k % 8) (omega arith) (omega arith)
    where
      place : (k : ℕ) → k < 64 → 63 - k ≡ 8 * (8 - 1 - k / 8) + (7 - k % 8)
      place k h = omega arith

pub halves_made : (s : List ℕ) → Bytes s → (at u v : ℕ) → u ≡ half_in s at → v ≡ half_in s (at + 4)
    → bit_or (u * 2 ^ 32 % 2 ^ 64) v ≡ word_in s at
unfolding half_in word_in digits
halves_made s bytes at u v eu ev =
    ap₂ (λ a b. bit_or (a * 2 ^ 32 % 2 ^ 64) b) eu ev
    ∙ ap (λ n. bit_or n (digits 8 g 4)) (shl_exact {a = digits 8 f 4} 32 32 64
    (digits_below 8 f (λ i. bytes (at + i)) 4) (omega arith))
    ∙ or_shifted (digits 8 f 4) 32 (digits 8 g 4) (digits_below 8 g (λ i. bytes (at + 4 + i)) 4)
    ∙ whole
  where
    f : ℕ → ℕ
    f i = get_or s (at + i) 0

    g : ℕ → ℕ
    g i = get_or s (at + 4 + i) 0

    whole : digits 8 f 4 * 2 ^ 32 + digits 8 g 4 ≡ digits 8 f 8
    whole =
        let e0 : g 0 ≡ f 4 = ap (λ i. get_or s i 0) (back at 0) in
        let e1 : g 1 ≡ f 5 = ap (λ i. get_or s i 0) (back at 1) in
        let e2 : g 2 ≡ f 6 = ap (λ i. get_or s i 0) (back at 2) in
        let e3 : g 3 ≡ f 7 = ap (λ i. get_or s i 0) (back at 3) in
        omega arith
      where
        back : (n k : ℕ) → n + 4 + k ≡ n + (4 + k)
        back n k = omega arith

-- ---- the first w points, turned over or not
pub cut_point : (over : Bool) (v w k : ℕ) → v < 2 ^ 64 → k < 64
    → bit (cut_of over v w) (63 - k) ≡ cond (ltb k w) (faced_point over (bit v (63 - k))) 0
unfolding cut_of
cut_point over v w k hv h =
    bit_and_lem (cond over (2 ^ 64 - 1 - v) v) (run_word w) (63 - k)
    ∙ ap (λ n. min n (bit (run_word w) (63 - k))) (face over)
    ∙ ⊎_elim
    (λ l. ap (min (faced_point over (bit v (63 - k)))) (run_on w (63 - k) (omega arith) (omega arith))
    ∙ least (faced_point over (bit v (63 - k))) (small over)
    ∙ ap (λ b. cond b (faced_point over (bit v (63 - k))) 0) (sym (lt-ltb k w l)))
    (λ l. ap (min (faced_point over (bit v (63 - k)))) (run_off w (63 - k) (omega arith) (omega arith))
    ∙ none (faced_point over (bit v (63 - k)))
    ∙ ap (λ b. cond b (faced_point over (bit v (63 - k))) 0) (sym (le-ltb k w l)))
    (below_or_not k w)
  where
    face : (over : Bool) → bit (cond over (2 ^ 64 - 1 - v) v) (63 - k) ≡ faced_point over (bit v (63 - k))
    face true = bit_not 64 v (63 - k) hv (omega arith)
    face false = refl

    small : (over : Bool) → faced_point over (bit v (63 - k)) < 2
    small true = omega (arith, bit_lt v (63 - k))
    small false = bit_lt v (63 - k)

    least : (n : ℕ) → n < 2 → min n 1 ≡ n
    least n h = omega arith

    none : (n : ℕ) → min n 0 ≡ 0
    none n = omega arith

pub points_are : (over : Bool) (s : List ℕ) → Bytes s → (at v w r : ℕ) → v < 2 ^ 64 → v ≡ word_in s at
    → r ≡ cut_of over v w → (r ≡ cut_of over (word_in s at) w)
    × ((k : ℕ) → k < 64 → bit r (63 - k) ≡ row_point over s at w k)
unfolding row_point
points_are over s bytes at v w r hv ev er = (
  er ∙ ap (λ n. cut_of over n w) ev,
  λ k h. ap (λ n. bit n (63 - k)) er ∙ cut_point over v w k hv h
      ∙ ap (λ b. cond (ltb k w) (faced_point over b) 0)
      (ap (λ n. bit n (63 - k)) ev ∙ word_point s bytes at k h),
)

-- ---- 64 points from d points past the first of u, which v follows
pub slid_point : (u v d k : ℕ) → v < 2 ^ 64 → d < 64 → k < 64
    → bit (slid_of u v d) (63 - k)
    ≡ cond (ltb (k + d) 64) (bit u (63 - (k + d))) (bit v (127 - (k + d)))
unfolding slid_of
slid_point u v d k hv hd hk =
    bit_or_lem (u * 2 ^ d % 2 ^ 64) (v / 2 / 2 ^ (63 - d)) (63 - k)
    ∙ ap₂ max (bit_mod (u * 2 ^ d) 64 (63 - k) (omega arith))
    (bit_up (v / 2) (63 - d) (63 - k) ∙ bit_up v 1 (63 - d + (63 - k)))
    ∙ ⊎_elim
    (λ l. ap₂ max (ap (bit (u * 2 ^ d)) (first k d l) ∙ bit_shl u d (63 - (k + d)))
    (bit_above v (1 + (63 - d + (63 - k)))
    (lt_of_lt_of_le hv (pow_mono {i = 64} {j = 1 + (63 - d + (63 - k))} (omega arith))))
    ∙ most (bit u (63 - (k + d)))
    ∙ ap (λ b. cond b (bit u (63 - (k + d))) (bit v (127 - (k + d)))) (sym (lt-ltb (k + d) 64 l)))
    (λ l. ap₂ max (bit_shl_low u d (63 - k) (omega arith)) (ap (bit v) (second k d hk hd l))
    ∙ other (bit v (127 - (k + d)))
    ∙ ap (λ b. cond b (bit u (63 - (k + d))) (bit v (127 - (k + d)))) (sym (le-ltb (k + d) 64 l)))
    (below_or_not (k + d) 64)
  where
    first : (k d : ℕ) → k + d < 64 → 63 - k ≡ d + (63 - (k + d))
    first k d h = omega arith

    second : (k d : ℕ) → k < 64 → d < 64 → 64 ≤ k + d → 1 + (63 - d + (63 - k)) ≡ 127 - (k + d)
    second k d a b h = omega arith

    most : (n : ℕ) → max n 0 ≡ n
    most n = omega arith

    other : (n : ℕ) → max 0 n ≡ n
    other n = omega arith

-- ---- byte i of a word
pub byte_point : (v i k : ℕ) → i < 8 → k < 8 → bit (byte_of v i) (7 - k) ≡ bit v (63 - (8 * i + k))
unfolding byte_of
byte_point v i k hi hk =
    bit_mod (v / 2 ^ (56 - 8 * i)) 8 (7 - k) (omega arith) ∙ bit_up v (56 - 8 * i) (7 - k)
    ∙ ap (bit v) (place i k hi hk)
  where
    place : (i k : ℕ) → i < 8 → k < 8 → 56 - 8 * i + (7 - k) ≡ 63 - (8 * i + k)
    place i k a b = omega arith

pub byte_lt : (v i : ℕ) → byte_of v i < 2 ^ 8
unfolding byte_of
byte_lt v i = small (v / 2 ^ (56 - 8 * i))
  where
    small : (n : ℕ) → n % 256 < 2 ^ 8
    small n = omega arith

-- all 8 of them, one after another
pub eight_laid : (from v : ℕ) (t : List ℕ) (p0 p1 p2 p3 p4 p5 p6 p7 : ℕ)
    → from + 8 ≤ length t → p0 ≡ byte_of v 0 → p1 ≡ byte_of v 1 → p2 ≡ byte_of v 2 → p3 ≡ byte_of v 3
    → p4 ≡ byte_of v 4 → p5 ≡ byte_of v 5 → p6 ≡ byte_of v 6 → p7 ≡ byte_of v 7
    → set (set (set (set (set (set (set (set t (from + 0) p0) (from + 1) p1) (from + 2) p2) (from + 3) p3)
    (from + 4) p4) (from + 5) p5) (from + 6) p6) (from + 7) p7 ≡ laid from 8 (byte_of v) t
eight_laid from v t p0 p1 p2 p3 p4 p5 p6 p7 room e0 e1 e2 e3 e4 e5 e6 e7 =
    more 7 _ p7 (omega arith) (more 6 _ p6 (omega arith) (more 5 _ p5 (omega arith)
    (more 4 _ p4 (omega arith) (more 3 _ p3 (omega arith) (more 2 _ p2 (omega arith)
    (more 1 _ p1 (omega arith) (more 0 t p0 (omega arith) (laid_none from (byte_of v) t) e0) e1) e2) e3) e4)
    e5) e6)
    e7
  where
    more : (n : ℕ) (u : List ℕ) (p : ℕ) → from + n < length t → u ≡ laid from n (byte_of v) t → p
        ≡ byte_of v n
        → set u (from + n) p ≡ laid from (n + 1) (byte_of v) t
    more n u p l so q = laid_more from n (byte_of v) t u p l so q
