-- The points of the padded row. Inside the row they are the source's, as it is or turned over;
-- before it and from w on they count as beyond the frame.
use Prim.Native.Nat.{ℕ, ◌+◌, ◌-◌, ◌*◌, ◌/◌, ◌%◌, ◌≤◌, ◌<◌, min, max}
use mathlib.Core.Path.{◌≡◌, refl, sym, ap, ap₂, ◌∙◌}
use mathlib.Core.Bool.{Bool, true, false, cond}
use mathlib.Core.List.{List}
use mathlib.Core.Logic.{⊎_elim}
use native.Mathlib.Omega.{arith}
use lib.Dec.{eqb, ltb, lit<}
use lib.Pow.{pow_pos}
use lib.ListN.{length, get_or, set, replicate, length-set, length-replicate, get_or-replicate}
use lib.Seq.{get_or-set_same, get_or-set_other}
use borrow.Author.Tests.{eqb-true, eq-eqb, ne_eqb, lt-ltb, le-ltb}
use Rattle.basics.specs.Bits.{bit}
use Rattle.basics.specs.Tests.{all}
use Rattle.basics.proofs.Bits.{bit_lt, bit_not, bit_or_lem, bit_and_lem}
use Rattle.basics.proofs.SliceParts.{below_or_not}
use Rattle.basics.proofs.Tests.{all_at}
use Rattle.rows.specs.Steps.Fold.{start_by}
use Rattle.blocks.specs.Steps.Laid.{laid}
use Rattle.blocks.specs.Steps.Points.{point_of}
use Rattle.blocks.proofs.Laid.{length_laid, get_in, get_before, get_after}
use Rattle.basics.specs.Bytes.{Bytes}
use Rattle.packedline.specs.Steps.Padded.{faced_byte, spare_of, blotted_by, copied_of, padded_of}
use Rattle.packedline.specs.Steps.Line.{faced_point}
use Rattle.blocks.proofs.Points.{bit_above}
use Rattle.packedline.proofs.Bytes.{spare_lt}

-- ---- digits of the bytes
pub faced_bit : (over : Bool) (v k : ℕ) → v < 256 → k < 8 → bit (faced_byte over v) k
    ≡ faced_point over (bit v k)
faced_bit true v k h hk = bit_not 8 v k h hk
faced_bit false v k h hk = refl

pub neutral_bit : (grows : Bool) (k : ℕ) → k < 8 → bit (start_by grows 255) k ≡ start_by grows 1
neutral_bit true k h = bit_above 0 k (pow_pos k)
neutral_bit false k h = bit_not 8 0 k (lit< tt) h ∙ ap (λ n. 1 - n) (bit_above 0 k (pow_pos k))

-- the digits that are no points: a computed test
spare_test : all (λ d. all (λ k. eqb (bit (spare_of d) (7 - k)) (cond (eqb d 0) 0 (cond (ltb k d) 0 1))) 8) 8
    ≡ true
unfolding all spare_of
spare_test = refl

pub spare_bit : (d k : ℕ) → d < 8 → k < 8 → bit (spare_of d) (7 - k) ≡ cond (eqb d 0) 0 (cond (ltb k d) 0 1)
spare_bit d k hd hk =
    eqb-true (bit (spare_of d) (7 - k)) (cond (eqb d 0) 0 (cond (ltb k d) 0 1))
    (all_at (λ k. eqb (bit (spare_of d) (7 - k)) (cond (eqb d 0) 0 (cond (ltb k d) 0 1))) 8
    (all_at (λ d. all (λ k. eqb (bit (spare_of d) (7 - k)) (cond (eqb d 0) 0 (cond (ltb k d) 0 1))) 8) 8
    spare_test d hd) k hk)

-- in a row of w points, the last byte's digits before w are points, and those from w on are not
pub spare_clear : (w x : ℕ) → x < w → w ≤ x / 8 * 8 + 8 → bit (spare_of (w % 8)) (7 - x % 8) ≡ 0
spare_clear w x h l =
    spare_bit (w % 8) (x % 8) (omega arith) (omega arith)
    ∙ ⊎_elim
    (λ z. ap (λ t. cond t 0 (cond (ltb (x % 8) (w % 8)) 0 1)) (eq-eqb (w % 8) 0 (tiny (w % 8) z)))
    (λ z. ap₂ (λ t u. cond t 0 (cond u 0 1)) (ne_eqb (w % 8) 0 (λ e. absurd (omega arith)))
    (lt-ltb (x % 8) (w % 8) (omega arith)))
    (below_or_not (w % 8) 1)
  where
    tiny : (n : ℕ) → n < 1 → n ≡ 0
    tiny n h = omega arith

pub spare_set : (w x : ℕ) → w ≤ x → x / 8 * 8 < w → bit (spare_of (w % 8)) (7 - x % 8) ≡ 1
spare_set w x h l =
    spare_bit (w % 8) (x % 8) (omega arith) (omega arith)
    ∙ ap₂ (λ t u. cond t 0 (cond u 0 1)) (ne_eqb (w % 8) 0 (λ e. absurd (omega arith)))
    (le-ltb (x % 8) (w % 8) (omega arith))

pub blotted_clear : (grows : Bool) (v m k : ℕ) → m < 256 → k < 8 → bit m k ≡ 0 → bit (blotted_by grows v m) k
    ≡ bit v k
blotted_clear true v m k h hk e =
    bit_and_lem v (255 - m) k ∙ ap (min (bit v k)) (bit_not 8 m k h hk ∙ ap (λ n. 1 - n) e)
    ∙ least (bit v k) (bit_lt v k)
  where
    least : (n : ℕ) → n < 2 → min n 1 ≡ n
    least n h = omega arith
blotted_clear false v m k h hk e = bit_or_lem v m k ∙ ap (max (bit v k)) e ∙ most (bit v k)
  where
    most : (n : ℕ) → max n 0 ≡ n
    most n = omega arith

pub blotted_set : (grows : Bool) (v m k : ℕ) → m < 256 → k < 8 → bit m k ≡ 1 → bit (blotted_by grows v m) k
    ≡ start_by grows 1
blotted_set true v m k h hk e =
    bit_and_lem v (255 - m) k ∙ ap (min (bit v k)) (bit_not 8 m k h hk ∙ ap (λ n. 1 - n) e) ∙ least (bit v k)
  where
    least : (n : ℕ) → min n 0 ≡ 0
    least n = omega arith
blotted_set false v m k h hk e = bit_or_lem v m k ∙ ap (max (bit v k)) e ∙ most (bit v k) (bit_lt v k)
  where
    most : (n : ℕ) → n < 2 → max n 1 ≡ 1
    most n h = omega arith

module _ (over grows : Bool) (s : List ℕ) (w : ℕ) (bytes : Bytes s) (some : 1 ≤ w) (few : w ≤ 1024)
    (len : length s ≡ (w + 7) / 8) where
  long : length (replicate 194 (start_by grows 255)) ≡ 194
  long = length-replicate 194 (start_by grows 255)

  copied_long : length (copied_of over grows s) ≡ 194
  unfolding copied_of
  copied_long = length_laid 8 (length s) _ (replicate 194 (start_by grows 255)) ∙ long

  fits : 8 + length s ≤ length (replicate 194 (start_by grows 255))
  fits = omega (arith, long, len)

  copied_in_lem : (i : ℕ) → i < length s → get_or (copied_of over grows s) (8 + i) 0
      ≡ faced_byte over (get_or s i 0)
  unfolding copied_of
  copied_in_lem i h = get_in 8 (length s) _ (replicate 194 (start_by grows 255)) i fits h

  copied_front : (i : ℕ) → i < 8 → get_or (copied_of over grows s) i 0 ≡ start_by grows 255
  unfolding copied_of
  copied_front i h =
      get_before 8 (length s) _ (replicate 194 (start_by grows 255)) i (omega (arith, long)) h
      ∙ get_or-replicate 194 i (start_by grows 255) 0 (omega arith)

  copied_past : (i : ℕ) → i < 194 → 8 + length s ≤ i → get_or (copied_of over grows s) i 0
      ≡ start_by grows 255
  unfolding copied_of
  copied_past i h k =
      get_after 8 (length s) _ (replicate 194 (start_by grows 255)) i (omega (arith, long)) k
      ∙ get_or-replicate 194 i (start_by grows 255) 0 h

  -- every byte but the last of the row is as it was copied
  padded_other : (i : ℕ) → (i ≡ 8 + length s - 1 → ⊥) → get_or (padded_of over grows s w) i 0
      ≡ get_or (copied_of over grows s) i 0
  unfolding padded_of
  padded_other i ne = get_or-set_other (copied_of over grows s) (8 + length s - 1) i _ 0 ne

  padded_last : get_or (padded_of over grows s w) (8 + length s - 1) 0
      ≡ blotted_by grows (get_or (copied_of over grows s) (8 + length s - 1) 0) (spare_of (w % 8))
  unfolding padded_of
  padded_last = get_or-set_same (copied_of over grows s) (8 + length s - 1) _ 0
      (omega (arith, copied_long, len))

  pub padded_long : length (padded_of over grows s w) ≡ 194
  unfolding padded_of
  padded_long = length-set (copied_of over grows s) _ _ ∙ copied_long

  -- a point by its byte
  split : (y : ℕ) → point_of (padded_of over grows s w) (64 + y)
      ≡ bit (get_or (padded_of over grows s w) (8 + y / 8) 0) (7 - y % 8)
  unfolding point_of
  split y = ap₂ (λ i k. bit (get_or (padded_of over grows s w) i 0) (7 - k)) (eighth y) (rest y)
    where
      eighth : (y : ℕ) → (64 + y) / 8 ≡ 8 + y / 8
      eighth y = omega arith

      rest : (y : ℕ) → (64 + y) % 8 ≡ y % 8
      rest y = omega arith

  pub point_front : (x : ℕ) → x < 64 → point_of (padded_of over grows s w) x ≡ start_by grows 1
  unfolding point_of
  point_front x h =
      ap (λ b. bit b (7 - x % 8)) (padded_other (x / 8) (λ e. absurd (omega (arith, len)))
      ∙ copied_front (x / 8) (omega arith))
      ∙ neutral_bit grows (7 - x % 8) (omega arith)

  at_last : (y : ℕ) → 8 + y / 8 ≡ 8 + length s - 1
      → bit (get_or (padded_of over grows s w) (8 + y / 8) 0) (7 - y % 8)
      ≡ bit (blotted_by grows (faced_byte over (get_or s (y / 8) 0)) (spare_of (w % 8))) (7 - y % 8)
  at_last y e =
      ap (λ b. bit b (7 - y % 8))
      (ap (λ i. get_or (padded_of over grows s w) i 0) e ∙ padded_last
      ∙ ap (λ v. blotted_by grows v (spare_of (w % 8)))
      (ap (λ i. get_or (copied_of over grows s) i 0) (sym e) ∙ copied_in_lem (y / 8) (omega (arith, len))))

  pub point_in : (y : ℕ) → y < w → point_of (padded_of over grows s w) (64 + y)
      ≡ faced_point over (point_of s y)
  unfolding point_of
  point_in y h =
      split y
      ∙ ⊎_elim
      (λ l. ap (λ b. bit b (7 - y % 8)) (padded_other (8 + y / 8) (λ e. absurd (omega arith))
      ∙ copied_in_lem (y / 8) (omega arith)))
      (λ l. at_last y (omega (arith, len))
      ∙ blotted_clear grows (faced_byte over (get_or s (y / 8) 0)) (spare_of (w % 8)) (7 - y % 8)
      (spare_lt (w % 8)) (omega arith) (spare_clear w y h (omega (arith, len))))
      (below_or_not (8 + y / 8) (8 + length s - 1))
      ∙ faced_bit over (get_or s (y / 8) 0) (7 - y % 8) (bytes (y / 8)) (omega arith)

  pub point_past : (y : ℕ) → w ≤ y → y < 1488 → point_of (padded_of over grows s w) (64 + y)
      ≡ start_by grows 1
  point_past y h room =
      split y
      ∙ ⊎_elim
      (λ l. at_last y (omega (arith, len))
      ∙ blotted_set grows (faced_byte over (get_or s (y / 8) 0)) (spare_of (w % 8)) (7 - y % 8)
      (spare_lt (w % 8)) (omega arith) (spare_set w y h (omega (arith, len))))
      (λ l. ap (λ b. bit b (7 - y % 8)) (padded_other (8 + y / 8) (λ e. absurd (omega (arith, len)))
      ∙ copied_past (8 + y / 8) (omega arith) (omega arith)) ∙ neutral_bit grows (7 - y % 8) (omega arith))
      (below_or_not (y / 8) (length s))

-- the padded row as it is made
pub padded_made : (over grows : Bool) (s : List ℕ) (w : ℕ) (b0 b1 b2 : List ℕ) → b0
    ≡ replicate 194 (start_by grows 255) → b1 ≡ laid 8 (length s) (λ i. faced_byte over (get_or s i 0)) b0
    → b2 ≡ set b1 (8 + length s - 1) (blotted_by grows (get_or b1 (8 + length s - 1) 0) (spare_of (w % 8)))
    → b2
    ≡ padded_of over grows s w
unfolding padded_of copied_of
padded_made over grows s w b0 b1 b2 e e1 e2 =
    e2 ∙ ap (λ b. set b (8 + length s - 1)
    (blotted_by grows (get_or b (8 + length s - 1) 0) (spare_of (w % 8))))
    (e1 ∙ ap (laid 8 (length s) (λ i. faced_byte over (get_or s i 0))) e)
