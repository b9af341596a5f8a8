-- The padded row at either depth, and its points.
use Prim.Native.Nat.{ℕ, ◌+◌, ◌-◌, ◌*◌, ◌/◌, ◌%◌, ◌≤◌, ◌<◌}
use mathlib.Core.Path.{◌≡◌, refl, sym, ap, ap₂, ◌∙◌, subst}
use mathlib.Core.Bool.{Bool, true, false, cond}
use mathlib.Core.List.{List}
use mathlib.Core.Logic.{⊎_elim}
use native.Mathlib.Omega.{arith}
use borrow.Rule.Slice.PartMut.{put_mid}
use lib.ListN.{length, get_or, set, replicate, get_or-replicate}
use lib.Seq.{get_or-set_same, get_or-set_other}
use Rattle.basics.specs.Bits.{bit}
use Rattle.basics.proofs.SliceParts.{below_or_not, put_before, put_within, put_after}
use Rattle.picture.specs.Frame.{top, row_bytes}
use Rattle.picture.specs.Points.{column_byte, value_in}
use Rattle.rows.specs.Steps.Fold.{start_by}
use Rattle.blocks.specs.Steps.Laid.{laid}
use Rattle.blocks.specs.Steps.Points.{point_of}
use Rattle.blocks.proofs.Laid.{length_laid, laid_same, get_first, get_in, get_before}
use Rattle.packedline.specs.Steps.Padded.{spare_of, blotted_by}
use Rattle.packedline.proofs.Bytes.{spare_lt}
use Rattle.packedline.proofs.Margins.{neutral_bit, spare_clear, spare_set, blotted_clear, blotted_set}
use Rattle.joins.specs.Steps.Joins.{depth_if}
use Rattle.boxrow.specs.Steps.Along.{room_of, blotted_row}
use Rattle.boxlaw.specs.Steps.Padded.{side_of, margins_of}

-- the row ys of n bytes between bytes beyond the frame
pub record Padded (packed grows : Bool) (n : ℕ) (b ys : List ℕ) : Type 0 where
  pub front : (i : ℕ) → i < side_of packed → get_or b i 0 ≡ start_by grows 255
  pub inside : (i : ℕ) → i < n → get_or b (side_of packed + i) 0 ≡ get_or ys i 0
  pub past : (i : ℕ) → i < 64 → get_or b (side_of packed + n + i) 0 ≡ start_by grows 255

pub room_for : (packed : Bool) (w : ℕ) → w ≤ 1024 → side_of packed + row_bytes (depth_if packed) w + 64 ≤
    room_of packed
room_for true w h = omega arith
room_for false w h = omega arith

pub row_long : (packed : Bool) (w : ℕ) → w ≤ 1024 → row_bytes (depth_if packed) w ≤ 1024
row_long true w h = omega arith
row_long false w h = omega arith

pub side_few : (packed : Bool) → side_of packed ≤ 64
side_few true = omega arith
side_few false = omega arith

pub margins_long : (packed grows : Bool) (n : ℕ) (b : List ℕ) → length (margins_of packed grows n b)
    ≡ length b
unfolding margins_of
margins_long packed grows n b = length_laid (side_of packed + n) 64 _ _ ∙ length_laid 0 64 _ b

-- as it is made: both margins, and then the row
pub padded_made : (packed grows : Bool) (n m : ℕ) (b ys : List ℕ) → side_of packed + n + 64 ≤ length b →
    length ys ≡ n
    → m ≡ n → Padded packed grows n (put_mid (side_of packed) m (margins_of packed grows n b) ys) ys
unfolding margins_of
padded_made packed grows n m b ys room same em =
    record {
      front = λ i h. at_front i h;
      inside = λ i h. put_within side m c ys fits (same ∙ sym em) i (omega arith);
      past = λ i h.
          put_after side m c ys fits (same ∙ sym em) (side + n + i) (omega arith)
          ∙ get_in (side + n) 64 (λ i. start_by grows 255) (laid 0 64 (λ i. start_by grows 255) b) i
          (subst (λ k. side + n + 64 ≤ k) (sym (length_laid 0 64 (λ i. start_by grows 255) b)) room) h;
    }
  where
    side : ℕ
    side = side_of packed

    c : List ℕ
    c = laid (side_of packed + n) 64 (λ i. start_by grows 255) (laid 0 64 (λ i. start_by grows 255) b)

    fits : side_of packed + m
        ≤ length (laid (side_of packed + n) 64 (λ i. start_by grows 255)
        (laid 0 64 (λ i. start_by grows 255) b))
    fits = omega (
      arith,
      length_laid (side_of packed + n) 64 (λ i. start_by grows 255)
          (laid 0 64 (λ i. start_by grows 255) b),
      length_laid 0 64 (λ i. start_by grows 255) b,
    )

    at_front : (i : ℕ) → i < side_of packed
        → get_or (put_mid (side_of packed) m
        (laid (side_of packed + n) 64 (λ i. start_by grows 255) (laid 0 64 (λ i. start_by grows 255) b)) ys)
        i 0
        ≡ start_by grows 255
    at_front i h =
        put_before (side_of packed) m _ ys fits (same ∙ sym em) i h
        ∙ get_before (side_of packed + n) 64 (λ i. start_by grows 255)
        (laid 0 64 (λ i. start_by grows 255) b) i
        (omega (arith, length_laid 0 64 (λ i. start_by grows 255) b)) (omega arith)
        ∙ get_first 64 (λ i. start_by grows 255) b i (omega arith) (omega (arith, side_few packed))

-- ---- both margins
pub margins_made : (packed grows : Bool) (n v side : ℕ) (c b₀ b₁ b₂ : List ℕ) → c ≡ replicate 64 v
    → v ≡ start_by grows 255 → side ≡ side_of packed → side_of packed + n + 64 ≤ length b₀
    → b₁ ≡ laid 0 64 (λ i. get_or c i 0) b₀ → b₂ ≡ laid (side + n) 64 (λ i. get_or c i 0) b₁
    → b₂ ≡ margins_of packed grows n b₀
unfolding margins_of
margins_made packed grows n v side c b₀ b₁ b₂ ec ev es room e₁ e₂ =
    e₂ ∙ ap₂ (λ a b. laid (a + n) 64 (λ i. get_or c i 0) b) es e₁
    ∙ ap (laid (side_of packed + n) 64 (λ i. get_or c i 0)) (laid_same 0 64 _ _ b₀ (omega arith) all)
    ∙ laid_same (side_of packed + n) 64 _ _ _ (omega (arith, length_laid 0 64 (λ i. start_by grows 255) b₀))
    all
  where
    all : (i : ℕ) → i < 64 → get_or c i 0 ≡ start_by grows 255
    all i h = ap (λ l. get_or l i 0) ec ∙ get_or-replicate 64 i v 0 h ∙ ev

-- ---- its points, as the windows see them: 64 beyond the frame, those of the row, 64 beyond the frame
pub record Points (grows : Bool) (most w : ℕ) (P f : ℕ → ℕ) : Type 0 where
  pub front : (x : ℕ) → x < 64 → P x ≡ start_by grows most
  pub inside : (x : ℕ) → x < w → P (64 + x) ≡ f x
  pub past : (x : ℕ) → x < 64 → P (64 + w + x) ≡ start_by grows most

-- of bytes
pub byte_points : (grows : Bool) (w : ℕ) (b ys : List ℕ) → Padded false grows w b ys
    → Points grows 255 w (λ x. get_or b x 0) (λ x. get_or ys x 0)
byte_points grows w b ys p = record { front = p.front; inside = p.inside; past = p.past }

-- of packed bytes, the padding of the last one put beyond the frame
module _ (grows : Bool) (w : ℕ) (b ys : List ℕ) (some : 1 ≤ w) (few : w ≤ 1024) (len : length b ≡ 200)
    (p : Padded true grows ((w + 7) / 8) b ys) where
  abbrev n : ℕ
  n = (w + 7) / 8

  abbrev B : List ℕ
  B = blotted_row grows w b

  other : (i : ℕ) → (i ≡ 8 + n - 1 → ⊥) → get_or B i 0 ≡ get_or b i 0
  unfolding blotted_row
  other i ne = get_or-set_other b (8 + n - 1) i _ 0 ne

  last : get_or B (8 + n - 1) 0 ≡ blotted_by grows (get_or b (8 + n - 1) 0) (spare_of (w % 8))
  unfolding blotted_row
  last = get_or-set_same b (8 + n - 1) _ 0 (omega (arith, len))

  split : (x : ℕ) → point_of B (64 + x) ≡ bit (get_or B (8 + x / 8) 0) (7 - x % 8)
  unfolding point_of
  split x = ap₂ (λ i k. bit (get_or B i 0) (7 - k)) (eighth x) (rest x)
    where
      eighth : (y : ℕ) → (64 + y) / 8 ≡ 8 + y / 8
      eighth y = omega arith

      rest : (y : ℕ) → (64 + y) % 8 ≡ y % 8
      rest y = omega arith

  at_last : (x : ℕ) → 8 + x / 8 ≡ 8 + n - 1
      → bit (get_or B (8 + x / 8) 0) (7 - x % 8) ≡ bit (blotted_by grows (get_or ys (x / 8) 0) (spare_of (w %
      8))) (7 - x % 8)
  at_last x e =
      ap (λ v. bit v (7 - x % 8))
      (ap (λ i. get_or B i 0) e ∙ last ∙ ap (λ v. blotted_by grows v (spare_of (w % 8)))
      (ap (λ i. get_or b i 0) (sym e) ∙ p.inside (x / 8) (omega arith)))

  pub bit_points : Points grows 1 w (point_of (blotted_row grows w b)) (point_of ys)
  unfolding point_of
  bit_points =
      record {
        front = λ x h. ap (λ v. bit v (7 - x % 8))
            (other (x / 8) (λ e. absurd (omega arith)) ∙ p.front (x / 8) (omega arith))
            ∙ neutral_bit grows (7 - x % 8) (omega arith);
        inside = λ x h. split x
            ∙ ⊎_elim
            (λ l. ap (λ v. bit v (7 - x % 8)) (other (8 + x / 8) (λ e. absurd (omega arith))
            ∙ p.inside (x / 8) (omega arith)))
            (λ l. at_last x (omega arith)
            ∙ blotted_clear grows (get_or ys (x / 8) 0) (spare_of (w % 8)) (7 - x % 8) (spare_lt (w % 8))
            (omega arith)
            (spare_clear w x h (omega arith)))
            (below_or_not (8 + x / 8) (8 + n - 1));
        past = λ x h. ap (point_of B) (group w x) ∙ beyond (w + x) (omega arith) (omega arith);
      }
    where
      group : (w x : ℕ) → 64 + w + x ≡ 64 + (w + x)
      group w x = omega arith

      on : (i : ℕ) → n ≤ i → 8 + i ≡ 8 + n + (i - n)
      on i h = omega arith

      beyond : (x : ℕ) → w ≤ x → x < w + 64 → point_of B (64 + x) ≡ start_by grows 1
      beyond x h l =
          split x
          ∙ ⊎_elim
          (λ k. at_last x (omega arith)
          ∙ blotted_set grows (get_or ys (x / 8) 0) (spare_of (w % 8)) (7 - x % 8) (spare_lt (w % 8)) (omega
          arith)
          (spare_set w x h (omega arith)))
          (λ k. ap (λ v. bit v (7 - x % 8)) (other (8 + x / 8) (λ e. absurd (omega arith))
          ∙ ap (λ i. get_or b i 0) (on (x / 8) k) ∙ p.past (x / 8 - n) (omega arith))
          ∙ neutral_bit grows (7 - x % 8) (omega arith))
          (below_or_not (x / 8) n)
