-- The bytes of a picture that is given by its points:
-- how many, what is read from them, their padding; and the values of a picture turned over or not.
use Prim.Native.Nat.{ℕ, zero, suc, ◌+◌, ◌*◌, ◌/◌, ◌%◌, ◌≤◌, ◌<◌}
use mathlib.Core.Path.{◌≡◌, sym, ap, ◌∙◌, subst}
use mathlib.Core.Bool.{true}
use mathlib.Core.List.{List, [], ◌++◌, append-nil}
use native.Mathlib.Omega.{arith}
use native.Mathlib.Decide.{dec_lt}
use native.Mathlib.Nat.{mod-lt, div-lt_iff_lt-mul, div-add-mod'}
use lib.ListN.{length, get_or, get_or-eq_default}
use lib.Seq.{drop-nil}
use Rattle.basics.proofs.Lists.{get_d_firsts}
use Rattle.basics.proofs.Joined.{length_joined, get_d_joined}
use Rattle.picture.specs.declared.Depth.{Depth}
use Rattle.picture.specs.declared.Depth.TheVariants.{OneBit, EightBit}
use Rattle.picture.specs.declared.Face.{Face}
use Rattle.picture.specs.declared.Face.TheVariants.{AsIs, TurnedOver}
use Rattle.picture.specs.Frame.{top, row_bytes, picture_bytes}
use Rattle.picture.specs.Points.{place, byte_at, value_in, value_at}
use Rattle.picture.specs.Bytes.{Picture, row_byte, row_of, bytes_of, written, turned, faced, padding_clear}
use Rattle.picture.proofs.Rows.{row_length, row_byte_lt}
use Rattle.picture.proofs.Points.{written_value}
use Rattle.picture.proofs.Padding.{written_clear, eight_clear}
use Rattle.basics.proofs.Bits.{bit_lt}

-- ---- a picture's own bytes
pub bytes_long : (depth : Depth) (A : Picture) (w h : ℕ)
    → length (bytes_of depth A w h) ≡ picture_bytes depth w h
unfolding bytes_of
bytes_long depth A w h =
    length_joined (λ y. row_of depth (λ x. A x y) w)
    (row_bytes depth w) (λ y. row_length depth (λ x. A x y) w) h

pub alone : (depth : Depth) (A : Picture) (w h : ℕ) → written depth A w h [] ≡ bytes_of depth A w h
unfolding written
alone depth A w h =
    ap (λ l. bytes_of depth A w h ++ l) (drop-nil (picture_bytes depth w h))
    ∙ append-nil (bytes_of depth A w h)

pub bytes_value : (depth : Depth) (A : Picture) (w h : ℕ)
    → ((x y : ℕ) → x < w → y < h → A x y ≤ top depth) → (x y : ℕ) → x < w → y < h
    → value_at depth (bytes_of depth A w h) w x y ≡ A x y
bytes_value depth A w h small x y hx hy =
    ap (λ l. value_at depth l w x y) (sym (alone depth A w h)) ∙ written_value depth A w h [] small x y hx hy

pub bytes_clear : (depth : Depth) (A : Picture) (w h : ℕ) → 1 ≤ w
    → ((x y : ℕ) → x < w → y < h → A x y ≤ top depth) → padding_clear depth (bytes_of depth A w h) w h ≡ true
bytes_clear OneBit A w h some small =
    ap (λ l. padding_clear OneBit l w h) (sym (alone OneBit A w h)) ∙ written_clear A w h [] some small
bytes_clear EightBit A w h some small = eight_clear (bytes_of EightBit A w h) w h

row_lt : (depth : Depth) (f : ℕ → ℕ) (w i : ℕ) → ((x : ℕ) → x < w → f x ≤ top depth) → i < row_bytes depth w
    → row_byte depth f w i < 256
unfolding row_byte
row_lt OneBit f w i small h = row_byte_lt f w small i
row_lt EightBit f w i small h = omega (arith, small i h)

-- each of them is a byte
pub bytes_lt : (depth : Depth) (A : Picture) (w h : ℕ)
    → ((x y : ℕ) → x < w → y < h → A x y ≤ top depth) → (j : ℕ) → get_or (bytes_of depth A w h) j 0 < 256
unfolding bytes_of row_of
bytes_lt depth A w h small j = by (dec_lt j (h * row_bytes depth w))
  where
    n : ℕ
    n = row_bytes depth w

    long : length (bytes_of depth A w h) ≡ h * n
    long = bytes_long depth A w h

    there : (y i : ℕ) → y < h → i < n → get_or (bytes_of depth A w h) (y * n + i) 0 < 256
    there y i hy hi =
        subst (λ k. k < 256)
        (sym (ap (λ q. get_or q (y * n + i) 0) (sym (append-nil (bytes_of depth A w h)))
        ∙ get_d_joined (λ y. row_of depth (λ x. A x y) w) n
        (λ y. row_length depth (λ x. A x y) w) h y i [] hy hi
        ∙ get_d_firsts (row_byte depth (λ x. A x y) w) n i hi))
        (row_lt depth (λ x. A x y) w i (λ x l. small x y l hy) hi)

    some : (h n j : ℕ) → j < h * n → 1 ≤ n
    some h zero j l = omega arith
    some h (suc n) j l = omega arith

    by : Dec (j < h * n) → get_or (bytes_of depth A w h) j 0 < 256
    by (yes l) =
        let p = some h n j l in
        subst (λ k. get_or (bytes_of depth A w h) k 0 < 256) (div-add-mod' j n)
        (there (j / n) (j % n) ((div-lt_iff_lt-mul p).1 l) (mod-lt j {m = n} p))
    by (no m) =
        subst (λ k. k < 256) (sym (get_or-eq_default (bytes_of depth A w h) 0
        (subst (λ k. k ≤ j) (sym long) (not_below j (h * n) m)))) (omega arith)
      where
        not_below : (j k : ℕ) → (j < k → ⊥) → k ≤ j
        not_below j k m = omega arith

-- ---- turned over, or not
pub face_small : (face : Face) (n v : ℕ) → v ≤ n → turned face n v ≤ n
face_small AsIs n v h = h
face_small TurnedOver n v h = omega arith

pub value_small : (depth : Depth) (s : List ℕ) → ((i : ℕ) → get_or s i 0 < 256) → (w x y : ℕ)
    → value_at depth s w x y ≤ top depth
unfolding value_at value_in
value_small OneBit s bytes w x y = omega (arith, bit_lt (get_or s (byte_at OneBit w x y) 0) (place x))
value_small EightBit s bytes w x y = omega (arith, bytes (byte_at EightBit w x y))

pub faced_small : (depth : Depth) (face : Face) (s : List ℕ) → ((i : ℕ) → get_or s i 0 < 256) → (w x y : ℕ)
    → faced depth face s w x y ≤ top depth
unfolding faced
faced_small depth face s bytes w x y =
    face_small face (top depth) (value_at depth s w x y) (value_small depth s bytes w x y)
