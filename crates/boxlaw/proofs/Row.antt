-- A padded row of joined rows, by the windows of a run of cells, is a row of the result.
use Prim.Native.Nat.{ℕ, ◌+◌, ◌-◌, ◌*◌, ◌/◌, ◌%◌, ◌≤◌, ◌<◌, min}
use mathlib.Core.Path.{◌≡◌, refl, sym, ap, ap₂, ◌∙◌, subst}
use mathlib.Core.Bool.{Bool, true, false, cond}
use mathlib.Core.List.{List}
use mathlib.Core.Logic.{◌⊎◌, inl, inr, ⊎_elim}
use native.Mathlib.Omega.{arith}
use lib.Dec.{leb}
use lib.ListN.{length, get_or, length-set}
use borrow.Author.Tests.{leb-true, leb-false}
use Rattle.basics.specs.Bits.{bit}
use Rattle.basics.specs.Bytes.{Bytes}
use Rattle.basics.specs.Lists.{firsts}
use Rattle.basics.proofs.Lists.{get_d_firsts}
use Rattle.picture.specs.Frame.{row_bytes}
use Rattle.picture.specs.Points.{column_byte, value_in}
use Rattle.picture.specs.Bytes.{row_of}
use Rattle.picture.proofs.Rows.{row_same}
use Rattle.element.specs.declared.Outline.{Outline}
use Rattle.rows.specs.Steps.Fold.{join_by, start_by}
use Rattle.blocks.specs.Steps.Points.{point_of}
use Rattle.windows.specs.Steps.Widened.{windows_of}
use Rattle.windows.proofs.Seen.{Window}
use Rattle.packedline.specs.Steps.Cells.{window_of}
use Rattle.packedline.proofs.Folded.{sees}
use Rattle.columns.specs.Steps.Down.{also_at}
use Rattle.joins.specs.Steps.Joins.{depth_if}
use Rattle.bytewindows.specs.Steps.Four.{byte_windows}
use Rattle.bytewindows.proofs.Seen.{byte_of, sees_to, run_of, window_run}
use Rattle.boxrow.specs.Steps.Along.{before_of, room_of, four_at, blotted_row, bits_along, bytes_along}
use Rattle.boxrow.specs.Steps.Along.{along_at}
use Rattle.boxrow.proofs.Widths.{before_lt, Which, size_facts}
use Rattle.boxrow.proofs.Runs.{blotted_bytes}
use Rattle.boxseen.proofs.Seen.{Sees}
use Rattle.boxlaw.specs.Steps.Box.{boxed, box_row}
use Rattle.boxlaw.proofs.Padded.{Padded, Points, byte_points, bit_points}
use Rattle.boxlaw.proofs.Point.{point_is}

blotted_long : (grows : Bool) (w : ℕ) (b : List ℕ) → length (blotted_row grows w b) ≡ length b
unfolding blotted_row
blotted_long grows w b = length-set b _ _

-- four places from p on are a run from p + x on
four_run : (grows : Bool) (Q : ℕ → ℕ) (p m far x : ℕ)
    → four_at grows Q p (p + min m far) (p + min (m + m) far) (p + far) x ≡ run_of grows Q m far (p + x)
unfolding four_at run_of
four_run grows Q p m far x =
    ap₂ (join_by grows)
    (ap₂ (λ a b. join_by grows (join_by grows (Q (p + x)) (Q a)) (Q b)) (turn p (min m far) x) (turn p (min
    (m + m) far) x))
    (ap Q (turn p far x))
  where
    turn : (p d x : ℕ) → p + d + x ≡ p + x + d
    turn p d x = omega arith

-- ---- one point, at each depth
module _ (grows : Bool) (s : List ℕ) (w h : ℕ) (o : Outline) (x y lo count row : ℕ) (b ys : List ℕ)
    (some : 1 ≤ w) (wide : w ≤ 1024)
    (column : o.origin.ping.0 < o.w) (bin : o.origin.bin.0 < o.h) (few : o.w ≤ 64) (hx : x < w)
    (seen : Sees h y (before_of grows o.origin.bin.0 o.h) o.h lo count row) where
  abbrev m : ℕ
  m = window_of o.w

  abbrev from : ℕ
  from = 64 - before_of grows o.origin.ping.0 o.w

  facts : Which (window_of o.w) × ((window_of o.w ≤ o.w) × (o.w ≤ 4 * window_of o.w))
  facts = size_facts o.w (omega arith) few

  ends : from + o.w ≤ 128
  ends = omega arith

  byte_point : length b ≡ 1224 → Padded false grows w b ys
      → ys ≡ firsts (also_at false grows s w lo count row) w
      → along_at false grows w o.origin.ping.0 o.w b x ≡ boxed false grows s w h o x y
  unfolding along_at bytes_along value_in
  byte_point long pad ey =
      four_run grows (λ y. get_or (byte_windows grows ((w + 187) / 64) m b) y 0) from m (o.w - m) x
      ∙ point_is false grows s w h o x y lo count row column bin few hx seen (byte_of b) _
      (record {
        front = p.front;
        inside = λ a ha. p.inside a ha ∙ ap (λ l. get_or l a 0) ey ∙ get_d_firsts _ w a ha;
        past = p.past;
      })
      (window_run grows m o.w (byte_of b) (byte_of (byte_windows grows ((w + 187) / 64) m b)) (from + x)
      facts.1.0 facts.1.1
      (λ d hd. sees_to grows ((w + 187) / 64) b (omega (arith, long)) m (from + x + d) facts.0
      (omega (arith, facts.1.0, ends))))
    where
      p : Points grows 255 w (byte_of b) (λ a. get_or ys a 0)
      p = byte_points grows w b ys pad

  bit_point : length b ≡ 200 → Bytes b → Padded true grows ((w + 7) / 8) b ys
      → ys ≡ firsts (also_at true grows s ((w + 7) / 8) lo count row) ((w + 7) / 8)
      → along_at true grows w o.origin.ping.0 o.w b x ≡ boxed true grows s w h o x y
  unfolding along_at bits_along value_in point_of
  bit_point long bytes pad ey =
      four_run grows (point_of (windows_of grows (((w + 7) / 8 + 81) / 64) m (blotted_row grows w b))) from m
      (o.w - m) x
      ∙ point_is true grows s w h o x y lo count row column bin few hx seen
      (point_of (blotted_row grows w b)) _
      (record {
        front = p.front;
        inside = λ a ha. p.inside a ha ∙ ap (λ v. bit v (7 - a % 8))
            (ap (λ l. get_or l (a / 8) 0) ey ∙ get_d_firsts _ ((w + 7) / 8) (a / 8) (omega arith));
        past = p.past;
      })
      (window_run grows m o.w (point_of (blotted_row grows w b))
      (point_of (windows_of grows (((w + 7) / 8 + 81) / 64) m (blotted_row grows w b))) (from + x)
      facts.1.0 facts.1.1
      (λ d hd. sees grows (((w + 7) / 8 + 81) / 64) (blotted_row grows w b) (blotted_bytes grows w b bytes)
      (omega (arith, long, blotted_long grows w b)) m (from + x + d) facts.0
      (omega (arith, facts.1.0, ends))))
    where
      p : Points grows 1 w (point_of (blotted_row grows w b)) (point_of ys)
      p = bit_points grows w b ys some wide long pad

-- ---- the row
pub row_is : (packed grows : Bool) (s : List ℕ) (w h : ℕ) (o : Outline) (y lo count row : ℕ) (b ys : List ℕ)
    → 1 ≤ w → w ≤ 1024 → o.origin.ping.0 < o.w → o.origin.bin.0 < o.h → o.w ≤ 64
    → Sees h y (before_of grows o.origin.bin.0 o.h) o.h lo count row
    → length b ≡ room_of packed → Bytes b → Padded packed grows (row_bytes (depth_if packed) w) b ys
    → ys ≡ firsts (also_at packed grows s (row_bytes (depth_if packed) w) lo count row) (row_bytes (depth_if
    packed) w)
    → row_of (depth_if packed) (along_at packed grows w o.origin.ping.0 o.w b) w
    ≡ box_row packed grows s w h o y
unfolding box_row
row_is true grows s w h o y lo count row b ys some wide column bin few seen long bytes pad ey =
    row_same (depth_if true) _ _ w (λ x hx.
    bit_point grows s w h o x y lo count row b ys some wide column bin few hx seen long bytes pad ey)
row_is false grows s w h o y lo count row b ys some wide column bin few seen long bytes pad ey =
    row_same (depth_if false) _ _ w (λ x hx.
    byte_point grows s w h o x y lo count row b ys some wide column bin few hx seen long pad ey)
