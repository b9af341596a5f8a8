-- A row of the result: the bits that two packed rows both have.
use Prim.Native.Nat.{ℕ, ◌+◌, ◌-◌, ◌*◌, ◌/◌, ◌≤◌, ◌<◌, min}
use mathlib.Core.Path.{◌≡◌, refl, sym, ap, ap₂, ◌∙◌, subst}
use mathlib.Core.Bool.{Bool, true, false, cond}
use mathlib.Core.List.{List, ◌++◌}
use native.Mathlib.Omega.{arith}
use lib.Bits.{bit_and, and_le_l}
use lib.Dec.{ltb}
use lib.ListN.{length, take, drop, replicate, length-append}
use lib.Seq.{take_at, length-take-le}
use Rattle.basics.specs.Lists.{firsts}
use Rattle.basics.specs.Zip.{zip_in}
use Rattle.basics.proofs.Bits.{bit_and_lem, bits_same}
use Rattle.basics.proofs.Lists.{length_firsts, get_d_firsts, list_is}
use Rattle.basics.proofs.Zip.{zip_get, length_zip}
use Rattle.picture.specs.declared.Depth.TheVariants.{OneBit}
use Rattle.picture.specs.Frame.{most_pings, row_bytes, frame}
use Rattle.picture.specs.Points.{value_at}
use Rattle.picture.specs.Bytes.{row_byte, row_of, faced}
use Rattle.picture.proofs.Rows.{row_bit, row_byte_lt}
use Rattle.element.specs.declared.Outline.{Outline}
use Rattle.element.specs.Record.{shape_by}
use Rattle.morphology.specs.Operations.{erode, complement, hit_miss}
use Rattle.morphology.proofs.Reach.{erode_top}
use Rattle.bitrow.specs.declared.Task.{Task}
use Rattle.bitrow.specs.Steps.Row.{swept_bits, bit_row}
use Rattle.hit.specs.Steps.Rows.{hit_at, hit_row}

-- ---- the bits that two packed rows both have
module _ (f g : ℕ → ℕ) (w : ℕ) (smallF : (x : ℕ) → x < w → f x ≤ 1) (smallG : (x : ℕ) → x < w → g x ≤ 1) where
  abbrev both : ℕ → ℕ
  both x = min (f x) (g x)

  small : (x : ℕ) → x < w → both x ≤ 1
  small x l = let a = smallF x l in omega arith

  byte_both : (i : ℕ) → bit_and (row_byte OneBit f w i) (row_byte OneBit g w i) ≡ row_byte OneBit both w i
  byte_both i =
      bits_same 8 _ _ (and_small (row_byte OneBit f w i) (row_byte OneBit g w i) (row_byte_lt f w smallF i))
      (row_byte_lt both w small i)
      (λ k l. bit_and_lem (row_byte OneBit f w i) (row_byte OneBit g w i) k
      ∙ ap₂ min (row_bit f w smallF i k l) (row_bit g w smallG i k l)
      ∙ cut (ltb (i * 8 + (7 - k)) w) (f (i * 8 + (7 - k))) (g (i * 8 + (7 - k)))
      ∙ sym (row_bit both w small i k l))
    where
      and_small : (a b : ℕ) → a < 256 → bit_and a b < 256
      and_small a b h = omega (arith, and_le_l a b)

      cut : (t : Bool) (a b : ℕ) → min (cond t a 0) (cond t b 0) ≡ cond t (min a b) 0
      cut true a b = refl
      cut false a b = refl

  pub rows_both : (t u v : List ℕ) → t ≡ row_of OneBit f w → u ≡ row_of OneBit g w → v ≡ zip_in bit_and t u
      → v ≡ row_of OneBit both w
  unfolding row_of
  rows_both t u v et eu ev =
      ev ∙ ap₂ (zip_in bit_and) et eu
      ∙ list_is (row_byte OneBit both w) n _
      (length_zip bit_and (firsts (row_byte OneBit f w) n) _ ∙ length_firsts (row_byte OneBit f w) n)
      (λ i l. zip_get bit_and (firsts (row_byte OneBit f w) n)
      (firsts (row_byte OneBit g w) n) i (subst (λ k. i < k) (sym (length_firsts (row_byte OneBit f w) n)) l)
      (subst (λ k. i < k) (sym (length_firsts (row_byte OneBit g w) n)) l)
      ∙ ap₂ bit_and (get_d_firsts (row_byte OneBit f w) n i l) (get_d_firsts (row_byte OneBit g w) n i l)
      ∙ byte_both i)
    where
      n : ℕ
      n = row_bytes OneBit w

-- ---- a row of the result
module _ (s : List ℕ) (w h : ℕ) (hit : Outline) (hits : List ℕ)
    (miss : Outline) (misses : List ℕ) (y : ℕ) where
  abbrev as_is : Task
  as_is = record { over = false; grows = false }

  abbrev over : Task
  over = record { over = true; grows = false }

  pub hit_row_lem : (t u v : List ℕ) → t ≡ bit_row as_is s w h hit hits y
      → u ≡ bit_row over s w h miss misses y
      → v ≡ zip_in bit_and t u
      → v ≡ hit_row s w h hit hits miss misses y
  unfolding hit_row hit_at hit_miss bit_row swept_bits faced
  hit_row_lem t u v et eu ev =
      rows_both (λ x. erode 1 (frame w h) (shape_by hit hits) (value_at OneBit s w) x y)
      (λ x. erode 1 (frame w h) (shape_by miss misses) (complement 1 (value_at OneBit s w)) x y) w
      (λ x l. erode_top _ 1 (frame w h) (shape_by hit hits) (value_at OneBit s w) (record { x = x; y = y }))
      (λ x l. erode_top _ 1 (frame w h) (shape_by miss misses)
      (complement 1 (value_at OneBit s w)) (record { x = x; y = y }))
      t u v et eu ev

-- ---- the miss row in a local array for the longest packed row
abbrev no_bits : List ℕ
no_bits = replicate (most_pings / 8) 0

module _ (n w : ℕ) (few : w ≤ most_pings) (en : n ≡ row_bytes OneBit w) where
  pub front_length : length (take n no_bits) ≡ n
  front_length = length-take-le n no_bits (fits w n few en)
    where
      fits : (w n : ℕ) → w ≤ most_pings → n ≡ (w + 7) / 8 → n ≤ most_pings / 8
      fits w n h e = omega arith

  module _ (ys : List ℕ) (same : length ys ≡ length (take n no_bits)) where
    pub front_back : take n (ys ++ drop n no_bits) ≡ ys
    front_back = take_at ys (drop n no_bits) n (same ∙ front_length)

    pub front_back_length : length (take n (ys ++ drop n no_bits)) ≡ n
    front_back_length = ap length front_back ∙ same ∙ front_length

    pub front_in : n ≤ length (ys ++ drop n no_bits)
    front_in =
        subst (λ k. n ≤ k) (sym (length-append ys (drop n no_bits)))
        (more n (length ys) (length (drop n no_bits)) (same ∙ front_length))
      where
        more : (n a b : ℕ) → a ≡ n → n ≤ a + b
        more n a b e = omega arith
