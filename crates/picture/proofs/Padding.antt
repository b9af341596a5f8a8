-- The test of the padding passes exactly where every bit of padding is 0, and it passes what was written.
use Prim.Native.Nat.{ℕ, ◌+◌, ◌-◌, ◌*◌, ◌/◌, ◌%◌, ◌^◌, ◌≤◌, ◌<◌}
use mathlib.Core.Path.{◌≡◌, ap, ap₂, ◌∙◌}
use mathlib.Core.Bool.{true}
use mathlib.Core.List.{List}
use native.Mathlib.Omega.{arith}
use borrow.Author.Tests.{eq-eqb, eqb-true}
use lib.ListN.{get_or}
use Rattle.basics.specs.Bits.{bit}
use Rattle.basics.proofs.Bits.{low_clear, clear_low}
use Rattle.basics.proofs.Tests.{all_at, all_of}
use Rattle.picture.specs.declared.Depth.TheVariants.{OneBit, EightBit}
use Rattle.picture.specs.Frame.{row_bytes, spare_bits}
use Rattle.picture.specs.Points.{value_at, value_in}
use Rattle.picture.specs.Bytes.{Picture, written, last_clear, lasts_clear, padding_clear}
use Rattle.picture.proofs.Points.{written_padding}

module _ (s : List ℕ) (w h : ℕ) (some : 1 ≤ w) where
  -- each bit of padding of each row
  abbrev pub PaddingZero : Type 0
  PaddingZero = (x y : ℕ) → w ≤ x → x / 8 < row_bytes OneBit w → y < h → value_at OneBit s w x y ≡ 0

  last : ℕ → ℕ
  last y = get_or s (y * row_bytes OneBit w + (row_bytes OneBit w - 1)) 0

  pub clear_zero : padding_clear OneBit s w h ≡ true → PaddingZero
  unfolding padding_clear lasts_clear value_at value_in last
  clear_zero e x y hx hr hy =
      ap (λ i. bit (get_or s (y * row_bytes OneBit w + i) 0) (7 - x % 8)) (last_byte w x hx hr)
      ∙ low_clear (last y) (spare_bits OneBit w)
      (eqb-true _ 0 (all_at (last_clear s (row_bytes OneBit w) (2 ^ spare_bits OneBit w)) h e y hy))
      (7 - x % 8) (spare w x hx hr)
    where
      last_byte : (w x : ℕ) → w ≤ x → x / 8 < (w + 7) / 8 → x / 8 ≡ (w + 7) / 8 - 1
      last_byte w x h r = omega arith

      spare : (w x : ℕ) → w ≤ x → x / 8 < (w + 7) / 8 → 7 - x % 8 < (w + 7) / 8 * 8 - w
      spare w x h r = omega arith

  pub zero_clear : PaddingZero → padding_clear OneBit s w h ≡ true
  unfolding padding_clear lasts_clear value_at value_in last
  zero_clear each =
      all_of (last_clear s (row_bytes OneBit w) (2 ^ spare_bits OneBit w)) h
      (λ y l. eq-eqb _ 0 (clear_low (last y) (spare_bits OneBit w)
      (λ k m. ap₂ (λ i j. bit (get_or s (y * row_bytes OneBit w + i) 0) j) (byte w k some m)
      (place w k some m)
      ∙ each (column w k) y (past w k some m) (row w k some m) l)))
    where
      column : ℕ → ℕ → ℕ
      column w k = (w + 7) / 8 * 8 - 1 - k

      byte : (w k : ℕ) → 1 ≤ w → k < (w + 7) / 8 * 8 - w → (w + 7) / 8 - 1 ≡ ((w + 7) / 8 * 8 - 1 - k) / 8
      byte w k o m = omega arith

      place : (w k : ℕ) → 1 ≤ w → k < (w + 7) / 8 * 8 - w → k ≡ 7 - ((w + 7) / 8 * 8 - 1 - k) % 8
      place w k o m = omega arith

      past : (w k : ℕ) → 1 ≤ w → k < (w + 7) / 8 * 8 - w → w ≤ (w + 7) / 8 * 8 - 1 - k
      past w k o m = omega arith

      row : (w k : ℕ) → 1 ≤ w → k < (w + 7) / 8 * 8 - w → ((w + 7) / 8 * 8 - 1 - k) / 8 < (w + 7) / 8
      row w k o m = omega arith

pub written_clear : (A : Picture) (w h : ℕ) (t : List ℕ) → 1 ≤ w → ((x y : ℕ) → x < w → y < h → A x y ≤ 1)
    → padding_clear OneBit (written OneBit A w h t) w h ≡ true
written_clear A w h t some small =
    zero_clear (written OneBit A w h t) w h some (written_padding A w h t small)

-- of 8 bits there is no padding to be anything
pub eight_clear : (s : List ℕ) (w h : ℕ) → padding_clear EightBit s w h ≡ true
unfolding padding_clear lasts_clear
eight_clear s w h = all_of (last_clear s w (2 ^ 0)) h
    (λ y l. eq-eqb _ 0 (none (get_or s (y * w + (w - 1)) 0)))
  where
    none : (n : ℕ) → n % 2 ^ 0 ≡ 0
    none n = omega arith
