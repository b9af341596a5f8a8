-- The test by bytes passes exactly where no marker point lies outside the mask.
use Prim.Native.Nat.{ℕ, ◌+◌, ◌-◌, ◌*◌, ◌/◌, ◌%◌, ◌^◌, ◌≤◌, ◌<◌, min}
use mathlib.Core.Path.{◌≡◌, refl, sym, ap, ap₂, ◌∙◌, subst₂}
use mathlib.Core.Bool.{Bool, true, false, not, ◌&&◌}
use mathlib.Core.List.{List}
use native.Mathlib.Omega.{arith}
use native.Mathlib.Nat.{lt_of_lt_of_le, lt_of_le_of_lt, div-eq_of_lt, div-le_self}
use native.Mathlib.Decide.{dec_lt}
use borrow.Author.Tests.{eqb-true, eq-eqb}
use lib.Bits.{bit_and, and_le_l}
use lib.Pow.{pow_mono, pow_pos}
use lib.ListN.{get_or}
use Rattle.basics.specs.Bits.{bit}
use Rattle.basics.specs.Bytes.{Bytes}
use Rattle.basics.proofs.Bits.{bit_lt, bit_up, bit_and_lem, bit_not, bits_same}
use Rattle.basics.specs.Tests.{all}
use Rattle.basics.proofs.Tests.{both, all_at, all_of, all_stop, all_done}
use Rattle.picture.specs.declared.Depth.TheVariants.{OneBit}
use Rattle.picture.specs.Frame.{frame, row_bytes, spare_bits}
use Rattle.picture.specs.Points.{value_in, value_at}
use Rattle.morphology.specs.Order.{LiesWithin}
use Rattle.grown.specs.Marker.{outside}
use Rattle.grown.proofs.Marker.{outside_none}
use Rattle.marker.specs.Steps.Bytes.{byte_within, byte_within_at, row_within, rows_within}

-- ---- one byte
past : (n k : ℕ) → n < 256 → 8 ≤ k → bit n k ≡ 0
past n k l h = ap (λ q. q % 2) (div-eq_of_lt (lt_of_lt_of_le l (pow_mono {i = 8} {j = k} h)))

none : (k : ℕ) → bit 0 k ≡ 0
none k = ap (λ q. q % 2) (div-eq_of_lt (pow_pos k))

module _ (a b u : ℕ) (ha : a < 256) (hb : b < 256) where
  -- what a has and b has not
  left : ℕ
  left = bit_and a (255 - b)

  left_bit : (k : ℕ) → k < 8 → bit left k ≡ min (bit a k) (1 - bit b k)
  unfolding left
  left_bit k h = bit_and_lem a (255 - b) k ∙ ap (λ v. min (bit a k) v) (bit_not 8 b k hb h)

  pub byte_each : byte_within a b u ≡ true → (k : ℕ) → u ≤ k → k < 8 → bit a k ≤ bit b k
  unfolding left
  byte_each e k hu hk =
      let z : bit (left / 2 ^ u) (k - u) ≡ 0 = ap (λ n. bit n (k - u)) (eqb-true _ 0 e) ∙ none (k - u) in
      let s : u + (k - u) ≡ k = omega arith in
      let up = bit_up left u (k - u) ∙ ap (bit left) s in
      let here = left_bit k hk in
      let la = bit_lt a k in
      omega arith

  pub each_byte : ((k : ℕ) → u ≤ k → k < 8 → bit a k ≤ bit b k) → byte_within a b u ≡ true
  unfolding left
  each_byte each = eq-eqb _ 0 (bits_same 8 (left / 2 ^ u) 0 small (omega arith) zero)
    where
      left_small : left < 256
      left_small = let l = and_le_l a (255 - b) in omega arith

      small : left / 2 ^ u < 256
      small = lt_of_le_of_lt (div-le_self left (2 ^ u)) left_small

      zero : (k : ℕ) → k < 8 → bit (left / 2 ^ u) k ≡ bit 0 k
      zero k h = bit_up left u k ∙ by (dec_lt (u + k) 8) ∙ sym (none k)
        where
          by : Dec (u + k < 8) → bit left (u + k) ≡ 0
          by (yes l) =
              let here = left_bit (u + k) l in
              let e = each (u + k) (omega arith) l in
              omega arith
          by (no n) = past left (u + k) left_small (omega arith)

-- ---- a row, as the loop finds it
module _ (a b : List ℕ) (at n u : ℕ) where
  pub row_stopped : (i : ℕ) → i < n - 1 → byte_within_at a b 0 (at + i) ≡ false → false
      ≡ row_within a b at n u
  unfolding row_within
  row_stopped i l e =
      sym (ap (λ t. t && byte_within_at a b u (at + (n - 1)))
      (all_stop (λ j. byte_within_at a b 0 (at + j)) i (n - 1) l e))

  pub row_passed : (i : ℕ) → i ≡ n - 1 → all (λ j. byte_within_at a b 0 (at + j)) i ≡ true → (r : Bool)
      → r ≡ byte_within_at a b u (at + (n - 1)) → r ≡ row_within a b at n u
  unfolding row_within
  row_passed i e passed r q =
      q ∙ sym (ap (λ t. t && byte_within_at a b u (at + (n - 1)))
      (all_done (λ j. byte_within_at a b 0 (at + j)) i (n - 1) e passed))

-- ---- the points of a row, and of all rows
module _ (a b : List ℕ) (ba : Bytes a) (bb : Bytes b) (w : ℕ) (some : 1 ≤ w) where
  n : ℕ
  n = row_bytes OneBit w

  u : ℕ
  u = spare_bits OneBit w

  -- the column of a bit of a byte
  column : ℕ → ℕ → ℕ
  column i k = i * 8 + 7 - k

  row_each : (y : ℕ) → row_within a b (y * n) n u ≡ true → (x : ℕ) → x < w
      → value_at OneBit a w x y ≤ value_at OneBit b w x y
  unfolding row_within value_at value_in n u
  row_each y e x l =
      let p = both (all (λ i. byte_within_at a b 0 (y * n + i)) (n - 1)) _ e in
      by p.0 p.1 (dec_lt (x / 8) (n - 1))
    where
      by : all (λ i. byte_within_at a b 0 (y * n + i)) (n - 1) ≡ true
          → byte_within_at a b u (y * n + (n - 1)) ≡ true → Dec (x / 8 < n - 1)
          → bit (get_or a (y * n + x / 8) 0) (7 - x % 8) ≤ bit (get_or b (y * n + x / 8) 0) (7 - x % 8)
      by firsts last (yes h) =
          byte_each (get_or a (y * n + x / 8) 0) (get_or b (y * n + x / 8) 0) 0 (ba _) (bb _)
          (all_at (λ i. byte_within_at a b 0 (y * n + i)) (n - 1) firsts (x / 8) h) (7 - x % 8)
          (omega arith) (omega arith)
      by firsts last (no h) =
          let e = last_byte w x l (λ k. h k) in
          byte_each (get_or a (y * n + x / 8) 0) (get_or b (y * n + x / 8) 0) u (ba _) (bb _)
          (ap (λ i. byte_within_at a b u (y * n + i)) e ∙ last) (7 - x % 8)
          (above w x l (λ k. h k)) (omega arith)
        where
          last_byte : (w x : ℕ) → x < w → (x / 8 < (w + 7) / 8 - 1 → ⊥) → x / 8 ≡ (w + 7) / 8 - 1
          last_byte w x l h = omega arith

          above : (w x : ℕ) → x < w → (x / 8 < (w + 7) / 8 - 1 → ⊥) → (w + 7) / 8 * 8 - w ≤ 7 - x % 8
          above w x l h = omega arith

  each_row : (y : ℕ) → ((x : ℕ) → x < w → value_at OneBit a w x y ≤ value_at OneBit b w x y)
      → row_within a b (y * n) n u ≡ true
  unfolding row_within value_at value_in n u column
  each_row y each =
      ap₂ ◌&&◌
      (all_of (λ i. byte_within_at a b 0 (y * n + i)) (n - 1)
      (λ i l. each_byte (get_or a (y * n + i) 0) (get_or b (y * n + i) 0) 0 (ba _) (bb _)
      (λ k low h. point i k h (before w i k l h))))
      (each_byte (get_or a (y * n + (n - 1)) 0) (get_or b (y * n + (n - 1)) 0) u (ba _) (bb _)
      (λ k low h. point (n - 1) k h (last w k some low h)))
    where
      before : (w i k : ℕ) → i < (w + 7) / 8 - 1 → k < 8 → i * 8 + 7 - k < w
      before w i k l h = omega arith

      last : (w k : ℕ) → 1 ≤ w → (w + 7) / 8 * 8 - w ≤ k → k < 8 → ((w + 7) / 8 - 1) * 8 + 7 - k < w
      last w k s l h = omega arith

      byte : (i k : ℕ) → k < 8 → (i * 8 + 7 - k) / 8 ≡ i
      byte i k h = omega arith

      place : (i k : ℕ) → k < 8 → 7 - (i * 8 + 7 - k) % 8 ≡ k
      place i k h = omega arith

      point : (i k : ℕ) → k < 8 → column i k < w
          → bit (get_or a (y * n + i) 0) k ≤ bit (get_or b (y * n + i) 0) k
      point i k h l =
          subst₂ (λ j m. bit (get_or a (y * n + j) 0) m ≤ bit (get_or b (y * n + j) 0) m)
          (byte i k h) (place i k h) (each (column i k) l)

  -- the test by bytes passes exactly where the marker lies within the mask
  rows_each : (h : ℕ) → rows_within a b n u h ≡ true
      → LiesWithin (frame w h) (value_at OneBit a w) (value_at OneBit b w)
  unfolding rows_within
  rows_each h e p i =
      row_each p.y (all_at (λ y. row_within a b (y * n) n u) h e p.y i.bin) p.x i.ping

  each_rows : (h : ℕ) → LiesWithin (frame w h) (value_at OneBit a w) (value_at OneBit b w)
      → rows_within a b n u h ≡ true
  unfolding rows_within
  each_rows h within =
      all_of (λ y. row_within a b (y * n) n u) h
      (λ y l. each_row y (λ x k. within (record { x = x; y = y }) (record { ping = k; bin = l })))

  -- it is the definition's test turned over
  pub rows_points : (h : ℕ) → rows_within a b (row_bytes OneBit w) (spare_bits OneBit w) h
      ≡ not (outside (frame w h) (value_at OneBit b w) (value_at OneBit a w))
  unfolding n u
  rows_points h =
      by (rows_within a b n u h) refl (outside (frame w h) (value_at OneBit b w) (value_at OneBit a w)) refl
    where
      by : (r : Bool) → rows_within a b n u h ≡ r
          → (o : Bool) → outside (frame w h) (value_at OneBit b w) (value_at OneBit a w) ≡ o
          → rows_within a b n u h ≡ not (outside (frame w h) (value_at OneBit b w) (value_at OneBit a w))
      by true e o q =
          e ∙ sym (ap not ((outside_none (frame w h) (value_at OneBit b w) (value_at OneBit a w)).1
          (rows_each h e)))
      by false e true q = e ∙ sym (ap not q)
      by false e false q =
          each_rows h ((outside_none (frame w h) (value_at OneBit b w) (value_at OneBit a w)).0 q)
          ∙ sym (ap not q)
