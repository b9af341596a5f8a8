-- Windows of packed points, made in another room, point by point.
use Prim.Native.Nat.{ℕ, ◌+◌, ◌-◌, ◌*◌, ◌/◌, ◌%◌, ◌≤◌, ◌<◌}
use mathlib.Core.Path.{◌≡◌, sym, ap, ap₂, ◌∙◌}
use mathlib.Core.Bool.{Bool}
use mathlib.Core.List.{List}
use mathlib.Core.Logic.{◌⊎◌, ⊎_elim}
use native.Mathlib.Omega.{arith}
use lib.ListN.{length, get_or}
use Rattle.basics.specs.Bits.{bit}
use Rattle.basics.specs.Bytes.{Bytes}
use Rattle.rows.specs.Steps.Fold.{join_by}
use Rattle.blocks.specs.Steps.Points.{point_of}
use Rattle.blocks.proofs.Laid.{get_in, get_before, get_after}
use Rattle.blocks.proofs.Points.{bit_join, eight_none}
use Rattle.windows.specs.Steps.Places.{eight_at}
use Rattle.windows.proofs.Row.{at_point}
use Rattle.rooms.specs.Steps.Lanes.{four_at, widened_to}
use Rattle.bitrooms.specs.Steps.Points.{bits_way}

-- ---- the points

-- point x past byte a
pub split : (l : List ℕ) (a x : ℕ) → point_of l (8 * a + x) ≡ bit (get_or l (a + x / 8) 0) (7 - x % 8)
unfolding point_of
split l a x = ap₂ (λ i k. bit (get_or l i 0) (7 - k)) (eighth a x) (rest a x)
  where
    eighth : (a x : ℕ) → (8 * a + x) / 8 ≡ a + x / 8
    eighth a x = omega arith

    rest : (a x : ℕ) → (8 * a + x) % 8 ≡ x % 8
    rest a x = omega arith

module _ (grows : Bool) (b : List ℕ) (bytes : Bytes b) (d e f : ℕ) where
  four_bit : (i k : ℕ) → k < 8 → bit (four_at bits_way grows b d e f i) (7 - k)
      ≡ join_by grows (join_by grows (join_by grows (point_of b (i * 8 + k)) (point_of b (i * 8 + k + d)))
      (point_of b (i * 8 + k + e))) (point_of b (i * 8 + k + f))
  unfolding four_at
  four_bit i k h =
      bit_join grows _ (eight_at b i f) (7 - k)
      ∙ ap₂ (join_by grows)
      (bit_join grows _ (eight_at b i e) (7 - k)
      ∙ ap₂ (join_by grows)
      (bit_join grows (get_or b i 0) (eight_at b i d) (7 - k)
      ∙ ap₂ (join_by grows) (eight_none b bytes i k h) (at_point b bytes i d k h))
      (at_point b bytes i e k h))
      (at_point b bytes i f k h)

  module _ (from to n : ℕ) (fits : to + n ≤ length b) where
    -- point x of the windows is made of points of the other room
    pub widened_point : (x : ℕ) → x < 8 * n
        → point_of (widened_to bits_way grows from to n d e f b) (8 * to + x)
        ≡ join_by grows (join_by grows
        (join_by grows (point_of b (8 * from + x)) (point_of b (8 * from + x + d)))
        (point_of b (8 * from + x + e))) (point_of b (8 * from + x + f))
    unfolding widened_to
    widened_point x h =
        split (widened_to bits_way grows from to n d e f b) to x
        ∙ ap (λ v. bit v (7 - x % 8))
        (get_in to (n) (λ i. four_at bits_way grows b d e f (from + i)) b (x / 8) fits (omega arith))
        ∙ four_bit (from + x / 8) (x % 8) (omega arith)
        ∙ ap (λ p. join_by grows (join_by grows (join_by grows (point_of b p) (point_of b (p + d)))
        (point_of b (p + e))) (point_of b (p + f))) (whole from x)
      where
        whole : (a x : ℕ) → (a + x / 8) * 8 + x % 8 ≡ 8 * a + x
        whole a x = omega arith

    -- and what is not among them stays
    pub kept_point : (a x : ℕ) → a + x / 8 < length b → (a + x / 8 < to) ⊎ (to + n ≤ a + x / 8)
        → point_of (widened_to bits_way grows from to n d e f b) (8 * a + x) ≡ point_of b (8 * a + x)
    unfolding widened_to
    kept_point a x h side =
        split (widened_to bits_way grows from to n d e f b) a x
        ∙ ap (λ v. bit v (7 - x % 8))
        (⊎_elim
        (λ l. get_before to (n) (λ i. four_at bits_way grows b d e f (from + i)) b (a + x / 8) h l)
        (λ l. get_after to (n) (λ i. four_at bits_way grows b d e f (from + i)) b (a + x / 8) h l) side)
        ∙ sym (split b a x)
