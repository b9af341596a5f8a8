-- Windows of 4 from single points, and of 16 from windows of 4, in the points of a packed row:
-- shifted bytes are points further on.
use Prim.Native.Nat.{ℕ, ◌+◌, ◌-◌, ◌*◌, ◌/◌, ◌%◌, ◌≤◌, ◌<◌}
use mathlib.Core.Path.{◌≡◌, sym, ap, ap₂, ◌∙◌, subst}
use mathlib.Core.Bool.{Bool}
use mathlib.Core.List.{List}
use mathlib.Core.Logic.{⊎_elim}
use native.Mathlib.Omega.{arith}
use lib.ListN.{length, get_or}
use Rattle.basics.proofs.SliceParts.{below_or_not}
use Rattle.basics.specs.Bits.{bit}
use Rattle.rows.specs.Steps.Fold.{join_by}
use Rattle.blocks.specs.Steps.Points.{point_of, eight_from}
use Rattle.blocks.proofs.Laid.{get_first}
use Rattle.basics.specs.Bytes.{Bytes}
use Rattle.blocks.proofs.Points.{bit_join, eight_point, eight_none}
use Rattle.windows.specs.Steps.Bounds.{Bound}
use Rattle.windows.specs.Steps.Widened.{widen1_at, widen4_at, widened_by}
use Rattle.windows.proofs.Bounds.{join_to, join_from}

-- a point by its byte and its place there
by_byte : (x : ℕ) → x ≡ x / 8 * 8 + x % 8
by_byte x = omega arith

plus_mod : (i d k : ℕ) → i * 8 + (d + k) ≡ i * 8 + k + d
plus_mod i d k = omega arith

-- ---- four points joined, at a distance
unfoldable pub four_of : Bool → (ℕ → ℕ) → ℕ → ℕ → ℕ
four_of grows P n x =
    join_by grows (join_by grows (join_by grows (P x) (P (x + n))) (P (x + (n + n)))) (P (x + (n + n + n)))

module _ (grows : Bool) (l : List ℕ) (bytes : Bytes l) where
  pub widen1_bit : (i k : ℕ) → k < 8 → bit (widen1_at grows l i) (7 - k)
      ≡ four_of grows (point_of l) 1 (i * 8 + k)
  unfolding widen1_at four_of
  widen1_bit i k h =
      bit_join grows _ (eight_from l i 3) (7 - k)
      ∙ ap₂ (join_by grows)
      (bit_join grows _ (eight_from l i 2) (7 - k)
      ∙ ap₂ (join_by grows)
      (bit_join grows (get_or l i 0) (eight_from l i 1) (7 - k)
      ∙ ap₂ (join_by grows) (eight_none l bytes i k h)
      (eight_point l bytes i 1 k (omega arith) h ∙ ap (point_of l) (plus_mod i 1 k)))
      (eight_point l bytes i 2 k (omega arith) h ∙ ap (point_of l) (plus_mod i 2 k)))
      (eight_point l bytes i 3 k (omega arith) h ∙ ap (point_of l) (plus_mod i 3 k))

  pub widen4_bit : (i k : ℕ) → k < 8 → bit (widen4_at grows l i) (7 - k)
      ≡ four_of grows (point_of l) 4 (i * 8 + k)
  unfolding widen4_at four_of
  widen4_bit i k h =
      bit_join grows _ (eight_from l (i + 1) 4) (7 - k)
      ∙ ap₂ (join_by grows)
      (bit_join grows _ (get_or l (i + 1) 0) (7 - k)
      ∙ ap₂ (join_by grows)
      (bit_join grows (get_or l i 0) (eight_from l i 4) (7 - k)
      ∙ ap₂ (join_by grows) (eight_none l bytes i k h)
      (eight_point l bytes i 4 k (omega arith) h ∙ ap (point_of l) (plus_mod i 4 k)))
      (eight_none l bytes (i + 1) k h ∙ ap (point_of l) (next i k)))
      (eight_point l bytes (i + 1) 4 k (omega arith) h ∙ ap (point_of l) (further i k))
    where
      next : (i k : ℕ) → (i + 1) * 8 + k ≡ i * 8 + k + 8
      next i k = omega arith

      further : (i k : ℕ) → (i + 1) * 8 + (4 + k) ≡ i * 8 + k + 12
      further i k = omega arith

-- the points of what a byte function makes of the first n blocks
pub widened_point : (W : List ℕ → ℕ → ℕ) (n : ℕ) (l : List ℕ) (x : ℕ) → 64 * n ≤ length l → x / 8 < 64 * n
    → point_of (widened_by W n l) x ≡ bit (W l (x / 8)) (7 - x % 8)
unfolding widened_by point_of
widened_point W n l x fits h =
    ap (λ b. bit b (7 - x % 8)) (get_first (64 * n) (W l) l (x / 8) fits h)

module _ (grows : Bool) (n : ℕ) (l : List ℕ) (bytes : Bytes l) (fits : 64 * n ≤ length l) (x : ℕ)
    (h : x / 8 < 64 * n) where
  pub window4 : point_of (widened_by (widen1_at grows) n l) x ≡ four_of grows (point_of l) 1 x
  window4 =
      widened_point (widen1_at grows) n l x fits h ∙ widen1_bit grows l bytes (x / 8) (x % 8) (omega arith)
      ∙ ap (four_of grows (point_of l) 1) (sym (by_byte x))

  pub window16 : point_of (widened_by (widen4_at grows) n l) x ≡ four_of grows (point_of l) 4 x
  window16 =
      widened_point (widen4_at grows) n l x fits h ∙ widen4_bit grows l bytes (x / 8) (x % 8) (omega arith)
      ∙ ap (four_of grows (point_of l) 4) (sym (by_byte x))

-- ---- bounds: W is the window of n points of P, seen from x
abbrev pub Window : Bool → ℕ → ℕ → (ℕ → ℕ) → ℕ → Type 0
Window grows n value P x =
    (v : ℕ) → ((Bound grows value v → (k : ℕ) → k < n → Bound grows (P (x + k)) v)
    × (((k : ℕ) → k < n → Bound grows (P (x + k)) v) → Bound grows value v))

pub window_one : (grows : Bool) (P : ℕ → ℕ) (x : ℕ) → Window grows 1 (P x) P x
window_one grows P x v = (
  λ h k l. subst (λ n. Bound grows (P n) v) (first x k l) h,
  λ each. subst (λ n. Bound grows (P n) v) (sym (first x 0 (omega arith))) (each 0 (omega arith)),
)
  where
    first : (x k : ℕ) → k < 1 → x ≡ x + k
    first x k l = omega arith

-- four windows of n side by side are one of 4 n
pub window_four : (grows : Bool) (n : ℕ) (P Q : ℕ → ℕ) (x : ℕ)
    → Window grows n (Q x) P x → Window grows n (Q (x + n)) P (x + n)
    → Window grows n (Q (x + (n + n))) P (x + (n + n))
    → Window grows n (Q (x + (n + n + n))) P (x + (n + n + n))
    → Window grows (4 * n) (four_of grows Q n x) P x
unfolding four_of
window_four grows n P Q x w0 w1 w2 w3 v = (to, from)
  where
    place : (x m k : ℕ) → m ≤ k → x + m + (k - m) ≡ x + k
    place x m k h = omega arith

    moved : (m k : ℕ) → m ≤ k → Bound grows (P (x + m + (k - m))) v → Bound grows (P (x + k)) v
    moved m k h b = subst (λ j. Bound grows (P j) v) (place x m k h) b

    to : Bound grows (join_by grows (join_by grows (join_by grows (Q x) (Q (x + n))) (Q (x + (n + n))))
        (Q (x + (n + n + n)))) v → (k : ℕ) → k < 4 * n → Bound grows (P (x + k)) v
    to h k l =
        let a = join_to grows (join_by grows (join_by grows (Q x) (Q (x + n))) (Q (x + (n + n))))
        (Q (x + (n + n + n))) v h in
        let b = join_to grows (join_by grows (Q x) (Q (x + n))) (Q (x + (n + n))) v a.0 in
        let c = join_to grows (Q x) (Q (x + n)) v b.0 in
        ⊎_elim
        (λ q. (w0 v).0 c.0 k q)
        (λ q. ⊎_elim
        (λ r. moved n k q ((w1 v).0 c.1 (k - n) (omega arith)))
        (λ r. ⊎_elim
        (λ s. moved (n + n) k r ((w2 v).0 b.1 (k - (n + n)) (omega arith)))
        (λ s. moved (n + n + n) k s ((w3 v).0 a.1 (k - (n + n + n)) (omega arith)))
        (below_or_not k (n + n + n)))
        (below_or_not k (n + n)))
        (below_or_not k n)

    back : (m k : ℕ) → Bound grows (P (x + (m + k))) v → Bound grows (P (x + m + k)) v
    back m k b = subst (λ j. Bound grows (P j) v) (group x m k) b
      where
        group : (x m k : ℕ) → x + (m + k) ≡ x + m + k
        group x m k = omega arith

    from : ((k : ℕ) → k < 4 * n → Bound grows (P (x + k)) v)
        → Bound grows (join_by grows (join_by grows (join_by grows (Q x) (Q (x + n))) (Q (x + (n + n))))
        (Q (x + (n + n + n)))) v
    from each =
        join_from grows (join_by grows (join_by grows (Q x) (Q (x + n))) (Q (x + (n + n))))
        (Q (x + (n + n + n))) v
        (join_from grows (join_by grows (Q x) (Q (x + n))) (Q (x + (n + n))) v
        (join_from grows (Q x) (Q (x + n)) v ((w0 v).1 (λ k l. each k (omega arith)))
        ((w1 v).1 (λ k l. back n k (each (n + k) (omega arith)))))
        ((w2 v).1 (λ k l. back (n + n) k (each (n + n + k) (omega arith)))))
        ((w3 v).1 (λ k l. back (n + n + n) k (each (n + n + n + k) (omega arith))))
