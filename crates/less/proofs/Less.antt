-- The bytes that the loop makes are, at each point, one picture less the other.
use Prim.Native.Nat.{ℕ, zero, suc, ◌-◌, ◌^◌, ◌≤◌, ◌<◌, min}
use mathlib.Core.Path.{◌≡◌, refl, sym, ap, ◌∙◌, subst}
use mathlib.Core.List.{List, [], ◌∷◌, ◌++◌}
use native.Mathlib.Omega.{arith}
use native.Mathlib.Nat.{not-suc-le-zero, le_of_suc-le-suc, le_of_eq}
use lib.Bits.{bit_and}
use lib.ListN.{length, get_or, take, drop}
use lib.Seq.{length-take-le, get_or-take}
use Rattle.basics.specs.Bits.{bit}
use Rattle.basics.specs.Bytes.{Bytes}
use Rattle.basics.specs.Zip.{zip_in}
use Rattle.basics.proofs.Bits.{bit_lt, bit_and_lem, bit_not}
use Rattle.basics.proofs.Zip.{zip_get}
use Rattle.picture.specs.declared.Depth.{Depth}
use Rattle.picture.specs.declared.Depth.TheVariants.{OneBit, EightBit}
use Rattle.picture.specs.Frame.{row_bytes, picture_bytes}
use Rattle.picture.specs.Points.{place, byte_at, value_in, value_at}
use Rattle.picture.specs.Bytes.{bytes_of, written}
use Rattle.picture.proofs.Points.{written_same}
use Rattle.picture.proofs.Sizes.{row_room, column_in}
use Rattle.less.specs.declared.From.{From}
use Rattle.less.specs.declared.From.TheVariants.{Target, Other}
use Rattle.less.specs.Steps.Sides.{less_byte, less_by, less_from}

-- ---- what stands past the bytes beside is as it was
pub zip_past : (f : ℕ → ℕ → ℕ) (l bs : List ℕ) (m : ℕ) → length bs ≤ m → drop m (zip_in f l bs) ≡ drop m l
unfolding zip_in
zip_past f [] bs m h = refl
zip_past f (x ∷ l) [] m h = refl
zip_past f (x ∷ l) (b ∷ bs) zero h = absurd (not-suc-le-zero h)
zip_past f (x ∷ l) (b ∷ bs) (suc m) h = zip_past f l bs m (le_of_suc-le-suc h)

-- ---- a point of a byte less another
bit_less : (a b k : ℕ) → b < 2 ^ 8 → k < 8 → bit (bit_and a (2 ^ 8 - 1 - b)) k ≡ bit a k - bit b k
bit_less a b k hb hk =
    bit_and_lem a (2 ^ 8 - 1 - b) k ∙ ap (min (bit a k)) (bit_not 8 b k hb hk)
    ∙ one_less (bit a k) (bit b k) (bit_lt a k) (bit_lt b k)
  where
    one_less : (m n : ℕ) → m < 2 → n < 2 → min m (1 - n) ≡ m - n
    one_less m n hm hn = omega arith

value_less : (depth : Depth) (a b x : ℕ) → b < 2 ^ 8
    → value_in depth (less_byte depth a b) x ≡ value_in depth a x - value_in depth b x
unfolding value_in
value_less OneBit a b x hb = bit_less a b (place x) hb (omega arith)
value_less EightBit a b x hb = refl

-- ---- the bytes that the loop makes, and a point of them
module _ (depth : Depth) (from : From) (w h : ℕ) (s t : List ℕ) (bs : Bytes s) (bt : Bytes t)
    (ls : picture_bytes depth w h ≤ length s) (lt : picture_bytes depth w h ≤ length t) where
  beside : List ℕ
  beside = take (picture_bytes depth w h) s

  looped : List ℕ
  looped = zip_in (less_by depth from) t beside

  in_picture : (x y : ℕ) → x < w → y < h → byte_at depth w x y < picture_bytes depth w h
  in_picture x y hx hy = omega (arith, column_in depth x w hx, row_room (row_bytes depth w) hy)

  in_order : (x y : ℕ) (f : From)
      → value_in depth
      (less_by depth f (get_or t (byte_at depth w x y) 0) (get_or s (byte_at depth w x y) 0)) x
      ≡ less_from f (value_at depth t w) (value_at depth s w) x y
  unfolding value_at
  in_order x y Target = value_less depth _ _ x (bs _)
  in_order x y Other = value_less depth _ _ x (bt _)

  point_less : (x y : ℕ) → x < w → y < h
      → value_at depth looped w x y ≡ less_from from (value_at depth t w) (value_at depth s w) x y
  unfolding value_at looped beside
  point_less x y hx hy =
      let l = in_picture x y hx hy in
      ap (λ n. value_in depth n x)
      (zip_get _ t beside (byte_at depth w x y) (omega arith)
      (subst (λ n. byte_at depth w x y < n) (sym (length-take-le (picture_bytes depth w h) s ls)) l))
      ∙ ap (λ n. value_in depth (less_by depth from (get_or t (byte_at depth w x y) 0) n) x)
      (get_or-take (picture_bytes depth w h) s (byte_at depth w x y) 0 l)
      ∙ in_order x y from

  -- the whole: the loop's bytes, with the padding cleared
  pub subtracted : (m : ℕ) (made after : List ℕ)
      → m ≡ picture_bytes depth w h
      → made ≡ zip_in (less_by depth from) t (take m s)
      → after ≡ written depth (value_at depth made w) w h made
      → after ≡ written depth (less_from from (value_at depth t w) (value_at depth s w)) w h t
  unfolding written looped beside
  subtracted m made after em eu ea =
      let R = less_from from (value_at depth t w) (value_at depth s w) in
      let e : made ≡ looped = eu ∙ ap (λ n. zip_in (less_by depth from) t (take n s)) em in
      ea
      ∙ written_same depth _ R w h made
      (λ x y hx hy. ap (λ l. value_at depth l w x y) e ∙ point_less x y hx hy)
      ∙ ap (λ l. written depth R w h l) e
      ∙ ap (λ l. bytes_of depth R w h ++ l)
      (zip_past _ t beside (picture_bytes depth w h)
      (le_of_eq (length-take-le (picture_bytes depth w h) s ls)))
