-- The points of a row that is given by its columns: each reads back, and the padding is 0.
use Prim.Native.Nat.{ℕ, ◌+◌, ◌-◌, ◌*◌, ◌/◌, ◌%◌, ◌≤◌, ◌<◌}
use mathlib.Core.Path.{◌≡◌, refl, ap, ◌∙◌}
use mathlib.Core.Bool.{Bool, true, false, cond}
use native.Mathlib.Omega.{arith}
use borrow.Author.Tests.{lt-ltb, le-ltb, ltb-true}
use lib.Dec.{ltb}
use lib.ListN.{length, get_or}
use Rattle.basics.specs.Bits.{bit, digits}
use Rattle.basics.proofs.Bits.{bit_zero, bit_digits, digits_below, digits_same}
use Rattle.basics.proofs.Tests.{cond_same}
use Rattle.basics.proofs.Lists.{length_firsts, get_d_firsts, firsts_same}
use Rattle.picture.specs.declared.Depth.{Depth}
use Rattle.picture.specs.declared.Depth.TheVariants.{OneBit, EightBit}
use Rattle.picture.specs.Frame.{top, row_bytes}
use Rattle.picture.specs.Points.{column_byte, place, value_in}
use Rattle.picture.specs.Bytes.{row_byte, row_of}
use Rattle.picture.proofs.Sizes.{column_in}

pub row_length : (depth : Depth) (f : ℕ → ℕ) (w : ℕ) → length (row_of depth f w) ≡ row_bytes depth w
unfolding row_of
row_length depth f w = length_firsts (row_byte depth f w) (row_bytes depth w)

-- rows of the same columns have the same bytes
pub row_same : (depth : Depth) (f g : ℕ → ℕ) (w : ℕ) → ((x : ℕ) → x < w → f x ≡ g x)
    → row_of depth f w ≡ row_of depth g w
unfolding row_of row_byte
row_same OneBit f g w each =
    firsts_same _ _ (row_bytes OneBit w)
    (λ i l. digits_same 1 _ _ 8 (λ k m. cond_same (ltb (i * 8 + k) w) (f (i * 8 + k))
    (g (i * 8 + k)) 0 0 (λ e. each (i * 8 + k) (ltb-true (i * 8 + k) w e)) (λ e. refl)))
row_same EightBit f g w each = firsts_same f g w each

-- of one bit: a digit of a byte is a column, and 0 past the row's end
module _ (f : ℕ → ℕ) (w : ℕ) (small : (x : ℕ) → x < w → f x ≤ 1) where
  column_small : (x : ℕ) → cond (ltb x w) (f x) 0 < 2
  column_small x = by (ltb x w) refl
    where
      by : (b : Bool) → ltb x w ≡ b → cond b (f x) 0 < 2
      by true e = omega (arith, small x (ltb-true x w e))
      by false e = omega arith

  pub row_byte_lt : (i : ℕ) → row_byte OneBit f w i < 256
  unfolding row_byte
  row_byte_lt i =
      digits_below 1 (λ k. cond (ltb (i * 8 + k) w) (f (i * 8 + k)) 0) (λ k. column_small (i * 8 + k)) 8

  pub row_bit : (i k : ℕ) → k < 8
      → bit (row_byte OneBit f w i) k ≡ cond (ltb (i * 8 + (7 - k)) w) (f (i * 8 + (7 - k))) 0
  unfolding row_byte
  row_bit i k h =
      ap (bit (digits 1 g 8)) (digit k h)
      ∙ bit_digits 1 g (λ j. column_small (i * 8 + j)) 8 (7 - k) 0 (omega arith) (omega arith)
      ∙ bit_zero (g (7 - k)) ∙ last (g (7 - k)) (column_small (i * 8 + (7 - k)))
    where
      g : ℕ → ℕ
      g j = cond (ltb (i * 8 + j) w) (f (i * 8 + j)) 0

      digit : (k : ℕ) → k < 8 → k ≡ 1 * (8 - 1 - (7 - k)) + 0
      digit k h = omega arith

      last : (n : ℕ) → n < 2 → n % 2 ≡ n
      last n h = omega arith

  -- column x of the row's bytes, padding included
  pub row_held : (x : ℕ) → x / 8 < row_bytes OneBit w
      → value_in OneBit (get_or (row_of OneBit f w) (x / 8) 0) x ≡ cond (ltb x w) (f x) 0
  unfolding row_of value_in
  row_held x h =
      ap (λ b. bit b (place x)) (get_d_firsts (row_byte OneBit f w) (row_bytes OneBit w) (x / 8) h)
      ∙ row_bit (x / 8) (place x) (omega arith) ∙ ap (λ n. cond (ltb n w) (f n) 0) (back x)
    where
      back : (x : ℕ) → x / 8 * 8 + (7 - (7 - x % 8)) ≡ x
      back x = omega arith

pub row_value : (depth : Depth) (f : ℕ → ℕ) (w : ℕ) → ((x : ℕ) → x < w → f x ≤ top depth) → (x : ℕ) → x < w
    → value_in depth (get_or (row_of depth f w) (column_byte depth x) 0) x ≡ f x
unfolding row_of value_in row_byte
row_value OneBit f w small x h =
    row_held f w small x (column_in OneBit x w h) ∙ ap (λ b. cond b (f x) 0) (lt-ltb x w h)
row_value EightBit f w small x h = get_d_firsts f w x h

pub row_padding : (f : ℕ → ℕ) (w : ℕ) → ((x : ℕ) → x < w → f x ≤ 1) → (x : ℕ) → w ≤ x
    → x / 8 < row_bytes OneBit w
    → value_in OneBit (get_or (row_of OneBit f w) (x / 8) 0) x ≡ 0
row_padding f w small x h l = row_held f w small x l ∙ ap (λ b. cond b (f x) 0) (le-ltb x w h)
