-- The bytes of a copy are those of the picture that it is of.
use Prim.Native.Nat.{ℕ, ◌+◌, ◌-◌, ◌*◌, ◌/◌, ◌%◌, ◌^◌, ◌≤◌, ◌<◌}
use mathlib.Core.Path.{◌≡◌, refl, sym, ap, ap₂, ◌∙◌, subst}
use mathlib.Core.Bool.{Bool, true, false, cond}
use mathlib.Core.List.{List, ◌++◌}
use native.Mathlib.Omega.{arith}
use borrow.Author.Tests.{ltb-true, ltb-false, eqb-true, eqb-false, lt-ltb, le-ltb}
use lib.Pow.{shl_exact, shr_lt, split}
use lib.Dec.{eqb, ltb}
use lib.ListN.{length, get_or, drop}
use Rattle.basics.specs.Bits.{bit}
use Rattle.basics.proofs.Bits.{bit_lt, bit_up, bit_shl_low, bit_shl, bit_not, bits_same}
use Rattle.basics.proofs.Lists.{length_firsts, firsts_same}
use Rattle.basics.proofs.Joined.{joined_same}
use Rattle.picture.specs.declared.Depth.{Depth}
use Rattle.picture.specs.declared.Depth.TheVariants.{OneBit, EightBit}
use Rattle.picture.specs.declared.Face.{Face}
use Rattle.picture.specs.declared.Face.TheVariants.{AsIs, TurnedOver}
use Rattle.picture.specs.Frame.{row_bytes, spare_bits}
use Rattle.picture.specs.Points.{byte_at, place, value_in, value_at}
use Rattle.picture.specs.Bytes.{row_byte, row_of, bytes_of, written, turned, faced}
use Rattle.copies.specs.Steps.Copy.{over_of, cleared_byte, spare_at, cleared_at, cleared_row, cleared_rows}
use Rattle.picture.proofs.Bytes.{face_small}
use Rattle.picture.proofs.Rows.{row_bit, row_byte_lt}

-- what the machine computes, (b >> u) << u
pub cleared_machine : (b u : ℕ) → b < 256 → u < 8 → b / 2 ^ u * 2 ^ u % 256 ≡ b / 2 ^ u * 2 ^ u
cleared_machine b u hb hu =
    shl_exact {a = b / 2 ^ u} (8 - u) u 8
    (shr_lt (8 - u) u (subst (λ n. b < 2 ^ n) (eight u hu) hb)) (omega arith)
  where
    eight : (u : ℕ) → u < 8 → 8 ≡ (8 - u) + u
    eight u h = omega arith

pub spare_small : (i n u : ℕ) → u < 8 → spare_at i n u < 8
spare_small i n u h = by (eqb (i + 1) n)
  where
    by : (b : Bool) → cond b u 0 < 8
    by true = h
    by false = omega arith

pub cleared_length : (over : Bool) (s : List ℕ) (n u y : ℕ) → length (cleared_row over s n u y) ≡ n
unfolding cleared_row
cleared_length over s n u y = length_firsts _ n

-- a digit of a kept byte
pub cleared_bit : (v u k : ℕ) → bit (v / 2 ^ u * 2 ^ u) k ≡ cond (ltb k u) 0 (bit v k)
cleared_bit v u k = by (ltb k u) refl
  where
    up : (u k : ℕ) → u ≤ k → k ≡ u + (k - u)
    up u k h = omega arith

    by : (b : Bool) → ltb k u ≡ b → bit (v / 2 ^ u * 2 ^ u) k ≡ cond b 0 (bit v k)
    by true e = bit_shl_low (v / 2 ^ u) u k (ltb-true k u e)
    by false e =
        let q = up u k (ltb-false k u e) in
        ap (bit (v / 2 ^ u * 2 ^ u)) q ∙ bit_shl (v / 2 ^ u) u (k - u)
        ∙ bit_up v u (k - u) ∙ ap (bit v) (sym q)

-- a digit of a byte turned over, or not
face_bit : (face : Face) (b k : ℕ) → b < 256 → k < 8
    → bit (cond (over_of face) (255 - b) b) k ≡ turned face 1 (bit b k)
face_bit AsIs b k hb h = refl
face_bit TurnedOver b k hb h = bit_not 8 b k hb h

face_lt : (face : Face) (b : ℕ) → b < 256 → cond (over_of face) (255 - b) b < 256
face_lt AsIs b h = h
face_lt TurnedOver b h = omega arith

cleared_lt : (v u : ℕ) → v < 256 → v / 2 ^ u * 2 ^ u < 256
cleared_lt v u h = omega (arith, split v u)

-- digit k of byte i is padding exactly where its column is past the row
module _ (w i k : ℕ) (hi : i < row_bytes OneBit w) (hk : k < 8) where
  past : (b : Bool) → eqb (i + 1) (row_bytes OneBit w) ≡ b → k < cond b (spare_bits OneBit w) 0
      → w ≤ i * 8 + (7 - k)
  past true e h = let q = eqb-true (i + 1) (row_bytes OneBit w) e in omega arith
  past false e h = omega arith

  inside : (b : Bool) → eqb (i + 1) (row_bytes OneBit w) ≡ b → cond b (spare_bits OneBit w) 0 ≤ k
      → i * 8 + (7 - k) < w
  inside true e h = let q = eqb-true (i + 1) (row_bytes OneBit w) e in omega arith
  inside false e h = let q = eqb-false (i + 1) (row_bytes OneBit w) e in omega arith

  padding_digit : (a c : ℕ) → a ≡ c
      → cond (ltb k (spare_at i (row_bytes OneBit w) (spare_bits OneBit w))) 0 a
      ≡ cond (ltb (i * 8 + (7 - k)) w) c 0
  padding_digit a c e = by (ltb k (spare_at i (row_bytes OneBit w) (spare_bits OneBit w))) refl
    where
      by : (b : Bool) → ltb k (spare_at i (row_bytes OneBit w) (spare_bits OneBit w)) ≡ b
          → cond b 0 a ≡ cond (ltb (i * 8 + (7 - k)) w) c 0
      by true q =
          rw (le-ltb (i * 8 + (7 - k)) w (past (eqb (i + 1) (row_bytes OneBit w)) refl (ltb-true k _ q)))
      by false q =
          rw (lt-ltb (i * 8 + (7 - k)) w (inside (eqb (i + 1) (row_bytes OneBit w)) refl (ltb-false k _ q))) e

-- byte i of row y of a copy is that of the picture copied
module _ (face : Face) (s : List ℕ) (bytes : (i : ℕ) → get_or s i 0 < 256) (w : ℕ) where
  column_few : (y x : ℕ) → faced OneBit face s w x y ≤ 1
  unfolding faced value_at value_in
  column_few y x =
      face_small face 1 (bit (get_or s (byte_at OneBit w x y) 0) (place x))
      (omega (arith, bit_lt (get_or s (byte_at OneBit w x y) 0) (place x)))

  cleared_one : (y i : ℕ) → i < row_bytes OneBit w
      → cleared_at (over_of face) s (y * row_bytes OneBit w) (row_bytes OneBit w) (spare_bits OneBit w) i
      ≡ row_byte OneBit (λ x. faced OneBit face s w x y) w i
  unfolding cleared_at cleared_byte faced value_at value_in
  cleared_one y i h =
      bits_same 8 (v / 2 ^ u * 2 ^ u) (row_byte OneBit f w i)
      (cleared_lt v u (face_lt face b (bytes _))) (row_byte_lt f w (λ x l. column_few y x) i)
      (λ k l. cleared_bit v u k ∙ padding_digit w i k h l (bit v k) (f (i * 8 + (7 - k))) (digit k l)
      ∙ sym (row_bit f w (λ x l. column_few y x) i k l))
    where
      b : ℕ
      b = get_or s (y * row_bytes OneBit w + i) 0

      v : ℕ
      v = cond (over_of face) (255 - b) b

      u : ℕ
      u = spare_at i (row_bytes OneBit w) (spare_bits OneBit w)

      f : ℕ → ℕ
      f x = faced OneBit face s w x y

      byte_back : (i k : ℕ) → k < 8 → i ≡ (i * 8 + (7 - k)) / 8
      byte_back i k l = omega arith

      place_back : (i k : ℕ) → k < 8 → k ≡ 7 - (i * 8 + (7 - k)) % 8
      place_back i k l = omega arith

      digit : (k : ℕ) → k < 8 → bit v k ≡ f (i * 8 + (7 - k))
      digit k l =
          face_bit face b k (bytes _) l
          ∙ ap₂ (λ j m. turned face 1 (bit (get_or s (y * row_bytes OneBit w + j) 0) m))
          (byte_back i k l) (place_back i k l)

  cleared_eight : (y i : ℕ) → cleared_at (over_of face) s (y * w) w 0 i ≡ faced EightBit face s w i y
  unfolding cleared_at cleared_byte faced value_at value_in
  cleared_eight y i =
      ap (λ u. cond (over_of face) (255 - b) b / 2 ^ u * 2 ^ u) (none (eqb (i + 1) w))
      ∙ whole (cond (over_of face) (255 - b) b) ∙ same face
    where
      b : ℕ
      b = get_or s (y * w + i) 0

      none : (t : Bool) → ◌≡◌ {A = ℕ} (cond t 0 0) 0
      none true = refl
      none false = refl

      whole : (v : ℕ) → v / 2 ^ 0 * 2 ^ 0 ≡ v
      whole v = omega arith

      same : (face : Face) → cond (over_of face) (255 - b) b ≡ turned face 255 b
      same AsIs = refl
      same TurnedOver = refl

  pub cleared_is : (depth : Depth) (y i : ℕ) → i < row_bytes depth w
      → cleared_at (over_of face) s (y * row_bytes depth w) (row_bytes depth w) (spare_bits depth w) i
      ≡ row_byte depth (λ x. faced depth face s w x y) w i
  unfolding row_byte
  cleared_is OneBit y i h = cleared_one y i h
  cleared_is EightBit y i h = cleared_eight y i

  -- what the loops leave is the picture written
  pub copied : (depth : Depth) (over : Bool) (n u h : ℕ) (t : List ℕ)
      → over ≡ over_of face → n ≡ row_bytes depth w → u ≡ spare_bits depth w
      → cleared_rows over s n u h t ≡ written depth (faced depth face s w) w h t
  unfolding cleared_rows cleared_row written bytes_of row_of
  copied depth over n u h t eo en eu =
      ap (λ o. cleared_rows o s n u h t) eo ∙ ap₂ (λ a b. cleared_rows (over_of face) s a b h t) en eu
      ∙ ap (λ l. l ++ drop (h * row_bytes depth w) t)
      (joined_same _ _ h (λ y l. firsts_same _ _ (row_bytes depth w) (λ i k. cleared_is depth y i k)))
