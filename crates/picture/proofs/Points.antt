-- What is put at a point is read back, and every other point stays, at both depths;
-- so is what a whole picture writes.
use Prim.Native.Nat.{ℕ, ◌+◌, ◌-◌, ◌*◌, ◌/◌, ◌%◌, ◌^◌, ◌≤◌, ◌<◌}
use mathlib.Core.Path.{◌≡◌, refl, sym, ap, ◌∙◌}
use mathlib.Core.Bool.{Bool, true, false, cond}
use mathlib.Core.List.{List, ◌++◌}
use native.Mathlib.Omega.{arith}
use native.Mathlib.Decide.{ℕ_discrete}
use borrow.Author.Tests.{eqb-true, eqb-false}
use lib.Bits.{bit_or, bit_and}
use lib.Dec.{eqb}
use lib.Pow.{pow-lt}
use lib.ListN.{length, get_or, set, drop}
use lib.Seq.{get_or-set_same, get_or-set_other}
use lib.Arith.{digits_div, digits_mod}
use Rattle.basics.specs.Bits.{bit}
use Rattle.basics.proofs.Bits.{bit_lt, bit_or_lem, bit_and_lem, bit_not, mask_same, mask_other}
use Rattle.basics.proofs.Joined.{get_d_joined, joined_same}
use Rattle.picture.specs.declared.Depth.{Depth}
use Rattle.picture.specs.declared.Depth.TheVariants.{OneBit, EightBit}
use Rattle.picture.specs.Frame.{top, row_bytes, picture_bytes}
use Rattle.picture.specs.Points.{column_byte, place, byte_at, value_in, value_at, put_in, put_at}
use Rattle.picture.specs.Bytes.{Picture, row_of, bytes_of, written}
use Rattle.picture.proofs.Sizes.{column_in}
use Rattle.picture.proofs.Rows.{row_length, row_same, row_value, row_padding}

-- ---- one byte
-- the mask of a place and what is left of 255, digit by digit
spared : (j k : ℕ) → j < 8 → k < 8 → bit (255 - 2 ^ j) k ≡ 1 - bit (2 ^ j) k
spared j k hj hk = bit_not 8 (2 ^ j) k (pow-lt hj) hk

put_back : (depth : Depth) (b x v : ℕ) → v ≤ top depth → value_in depth (put_in depth b x v) x ≡ v
unfolding value_in put_in
put_back OneBit b x v h = by (eqb v 0) refl
  where
    p : ℕ
    p = place x

    by : (t : Bool) → eqb v 0 ≡ t → bit (cond t (bit_and b (255 - 2 ^ p)) (bit_or b (2 ^ p))) p ≡ v
    by true e =
        bit_and_lem b (255 - 2 ^ p) p
        ∙ omega (arith, eqb-true v 0 e, spared p p (omega arith) (omega arith), mask_same p)
    by false e = bit_or_lem b (2 ^ p) p ∙ omega (arith, eqb-false v 0 e, mask_same p, bit_lt b p)
put_back EightBit b x v h = refl

put_apart : (depth : Depth) (b x x' v : ℕ) → column_byte depth x ≡ column_byte depth x' → (x ≡ x' → ⊥)
    → value_in depth (put_in depth b x v) x' ≡ value_in depth b x'
unfolding value_in put_in
put_apart OneBit b x x' v same other = by (eqb v 0)
  where
    p : ℕ
    p = place x

    q : ℕ
    q = place x'

    differ : (x x' : ℕ) → x / 8 ≡ x' / 8 → (x ≡ x' → ⊥) → 7 - x % 8 ≡ 7 - x' % 8 → ⊥
    differ x x' e n h = n (omega arith)

    none : bit (2 ^ p) q ≡ 0
    none = mask_other p q (differ x x' same other)

    by : (t : Bool) → bit (cond t (bit_and b (255 - 2 ^ p)) (bit_or b (2 ^ p))) q ≡ bit b q
    by true =
        bit_and_lem b (255 - 2 ^ p) q
        ∙ omega (arith, spared p q (omega arith) (omega arith), none, bit_lt b q)
    by false = bit_or_lem b (2 ^ p) q ∙ omega (arith, none)
put_apart EightBit b x x' v same other = absurd (other same)

-- ---- the bytes of a picture
same_place : (r y y' q q' : ℕ) → q < r → q' < r → y * r + q ≡ y' * r + q' → (y ≡ y') × (q ≡ q')
same_place r y y' q q' h h' e = (
  sym (digits_div y h) ∙ ap (λ (n : ℕ). n / r) e ∙ digits_div y' h',
  sym (digits_mod y h) ∙ ap (λ (n : ℕ). n % r) e ∙ digits_mod y' h',
)

module _ (depth : Depth) (l : List ℕ) (w x y v : ℕ) (inside : byte_at depth w x y < length l) where
  -- what was put is read back
  pub put_same : v ≤ top depth → value_at depth (put_at depth l w x y v) w x y ≡ v
  unfolding value_at put_at
  put_same h =
      ap (λ b. value_in depth b x) (get_or-set_same l (byte_at depth w x y) _ 0 inside)
      ∙ put_back depth (get_or l (byte_at depth w x y) 0) x v h

  -- every other column of every row stays: each point, and each bit of padding
  pub put_other : (x' y' : ℕ) → column_byte depth x < row_bytes depth w → column_byte depth x'
      < row_bytes depth w
      → ((x ≡ x') × (y ≡ y') → ⊥)
      → value_at depth (put_at depth l w x y v) w x' y' ≡ value_at depth l w x' y'
  unfolding value_at put_at
  put_other x' y' hx hx' other = go (ℕ_discrete (byte_at depth w x' y') (byte_at depth w x y))
    where
      at : ℕ
      at = byte_at depth w x y

      go : Dec (byte_at depth w x' y' ≡ at)
          → value_in depth (get_or (set l at (put_in depth (get_or l at 0) x v)) (byte_at depth w x' y') 0) x'
          ≡ value_in depth (get_or l (byte_at depth w x' y') 0) x'
      go (yes e) =
          let p = same_place (row_bytes depth w) y' y (column_byte depth x') (column_byte depth x) hx' hx e in
          ap (λ n. value_in depth (get_or (set l at (put_in depth (get_or l at 0) x v)) n 0) x') e
          ∙ ap (λ b. value_in depth b x') (get_or-set_same l at _ 0 inside)
          ∙ put_apart depth (get_or l at 0) x x' v (sym p.1) (λ q. other (q, sym p.0))
          ∙ ap (λ n. value_in depth (get_or l n 0) x') (sym e)
      go (no n) = ap (λ b. value_in depth b x') (get_or-set_other l at (byte_at depth w x' y') _ 0 n)

-- ---- a picture written whole
module _ (depth : Depth) (A : Picture) (w h : ℕ) (t : List ℕ)
    (small : (x y : ℕ) → x < w → y < h → A x y ≤ top depth) where
  byte_is : (x y : ℕ) → column_byte depth x < row_bytes depth w → y < h
      → get_or (written depth A w h t) (byte_at depth w x y) 0
      ≡ get_or (row_of depth (λ u. A u y) w) (column_byte depth x) 0
  unfolding written bytes_of
  byte_is x y hx hy =
      get_d_joined (λ y. row_of depth (λ x. A x y) w) (row_bytes depth w)
      (λ y. row_length depth (λ x. A x y) w) h y (column_byte depth x) (drop (picture_bytes depth w h) t) hy
      hx

  -- each point reads back
  pub written_value : (x y : ℕ) → x < w → y < h → value_at depth (written depth A w h t) w x y ≡ A x y
  unfolding value_at
  written_value x y hx hy =
      ap (λ b. value_in depth b x) (byte_is x y (column_in depth x w hx) hy)
      ∙ row_value depth (λ x. A x y) w (λ x l. small x y l hy) x hx

-- and the padding of what is written is 0
pub written_padding : (A : Picture) (w h : ℕ) (t : List ℕ) → ((x y : ℕ) → x < w → y < h → A x y ≤ 1)
    → (x y : ℕ) → w ≤ x → x / 8 < row_bytes OneBit w → y < h
    → value_at OneBit (written OneBit A w h t) w x y ≡ 0
unfolding value_at
written_padding A w h t small x y hx hr hy =
    ap (λ b. value_in OneBit b x) (byte_is OneBit A w h t small x y hr hy)
    ∙ row_padding (λ x. A x y) w (λ x l. small x y l hy) x hx hr

-- pictures that agree in the frame are the same bytes
pub bytes_same : (depth : Depth) (A B : Picture) (w h : ℕ) → ((x y : ℕ) → x < w → y < h → A x y ≡ B x y)
    → bytes_of depth A w h ≡ bytes_of depth B w h
unfolding bytes_of
bytes_same depth A B w h each = joined_same _ _ h (λ y l. row_same depth _ _ w (λ x k. each x y k l))

pub written_same : (depth : Depth) (A B : Picture) (w h : ℕ) (t : List ℕ)
    → ((x y : ℕ) → x < w → y < h → A x y ≡ B x y) → written depth A w h t ≡ written depth B w h t
unfolding written
written_same depth A B w h t each =
    ap (λ l. l ++ drop (picture_bytes depth w h) t) (bytes_same depth A B w h each)
