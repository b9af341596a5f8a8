-- A row of bytes, row after row of an element, is the definition's.
use Prim.Native.Nat.{ℕ, ◌+◌, ◌-◌, ◌*◌, ◌≤◌, ◌<◌}
use mathlib.Core.Path.{◌≡◌, refl, ap, ◌∙◌}
use mathlib.Core.Bool.{Bool, true, false}
use mathlib.Core.List.{List, []}
use native.Mathlib.Omega.{arith}
use native.Mathlib.Nat.{add-sub_cancel_left}
use borrow.Rule.Slice.PartMut.{mid_of}
use lib.ListN.{get_or}
use Rattle.basics.specs.Bytes.{Bytes}
use Rattle.basics.specs.Lists.{firsts}
use Rattle.basics.proofs.SliceParts.{get_mid}
use Rattle.picture.specs.declared.Depth.TheVariants.{EightBit}
use Rattle.picture.specs.Frame.{Frame, frame}
use Rattle.picture.specs.Points.{value_at, value_in}
use Rattle.picture.specs.Bytes.{row_byte, row_of}
use Rattle.element.specs.declared.Outline.{Outline}
use Rattle.element.specs.Record.{cell_on, shape_by, shape_of}
use Rattle.morphology.specs.Operations.{flat, gather, erode_by, dilate_by}
use Rattle.morphology.specs.Order.{Bounded}
use Rattle.rows.specs.Steps.Ways.{weigh_by, swept_by}
use Rattle.rows.specs.Steps.Fold.{start_by}
use Rattle.rows.specs.Steps.Row.{columns_of, folded_row, source_row, added_row}
use Rattle.cellrow.proofs.Columns.{columns_after, columns_none, columns_more, columns_all}
use Rattle.cellrow.proofs.Columns.{added_none, added_some}
use Rattle.weighing.proofs.Weights.{unweighed}
use Rattle.byterow.specs.Steps.Row.{heightened_by, swept_bytes, byte_row}

-- ---- one row of the element, from the source row v
module _ (grows : Bool) (s : List ℕ) (w h : ℕ) (o : Outline)
    (words hs : List ℕ) (y : ℕ) (t : List ℕ) (r v : ℕ)
    (ev : v ≡ source_row grows h y o.origin.bin.0 r) where
  abbrev added : List ℕ
  added = added_row grows (weigh_by grows) w h (heightened_by o words hs) (value_at EightBit s w) y t r

  pub row_none : h ≤ v → t ≡ added
  unfolding heightened_by
  row_none l =
      added_none grows (weigh_by grows) w h (heightened_by o words hs) (value_at EightBit s w) y t [] r v ev l

  pub row_some : (u : List ℕ) → v < h
      → u ≡ folded_row grows (weigh_by grows)
      (λ c. columns_of hs (r * o.w + c)) t (columns_of (mid_of (v * w) (v * w + w - v * w) s)) w
      (cell_on (get_or words r 0)) o.w o.origin.ping.0 → u ≡ added
  unfolding heightened_by value_at value_in
  row_some u l e =
      added_some grows (weigh_by grows) w h (heightened_by o words hs) (value_at EightBit s w) y t u r v ev
      (λ c. columns_of hs (r * o.w + c)) (columns_of (mid_of (v * w) (v * w + w - v * w) s)) l (λ c lc. refl)
      (λ x lx. ap (λ n. get_or (mid_of (v * w) n s) x 0) (add-sub_cancel_left (v * w) w)
      ∙ get_mid (v * w) w s x lx) e

-- ---- row after row
module _ (grows : Bool) (s : List ℕ) (w h : ℕ) (o : Outline) (words hs : List ℕ) (y : ℕ) where
  -- the row after the first n rows of the element
  unfoldable pub bytes_after : ℕ → List ℕ
  bytes_after n =
      columns_after grows (weigh_by grows) w h (heightened_by o words hs) (value_at EightBit s w) y 255 n

  pub bytes_none : (t : List ℕ) (n : ℕ) → n ≡ w → t ≡ firsts (λ x. start_by grows 255) n → t ≡ bytes_after 0
  unfolding bytes_after
  bytes_none = columns_none grows (weigh_by grows) w h (heightened_by o words hs) (value_at EightBit s w) y
      255

  pub bytes_more : (n : ℕ) (t u : List ℕ) → t ≡ bytes_after n
      → u ≡ added_row grows (weigh_by grows) w h (heightened_by o words hs) (value_at EightBit s w) y t n
      → u ≡ bytes_after (n + 1)
  unfolding bytes_after
  bytes_more = columns_more grows (weigh_by grows) w h (heightened_by o words hs) (value_at EightBit s w) y
      255

  pub bytes_all : (n : ℕ) (t : List ℕ) → t ≡ bytes_after n → n ≡ o.h → t ≡ byte_row grows s w h o words hs y
  unfolding bytes_after byte_row swept_bytes heightened_by row_of row_byte
  bytes_all = columns_all grows (weigh_by grows) w h (heightened_by o words hs) (value_at EightBit s w) y 255

-- ---- where there are no bytes of heights, what the definitions say of a flat element
pub bytes_bounded : (s : List ℕ) (w : ℕ) (F : Frame) → Bytes s → Bounded 255 F (value_at EightBit s w)
unfolding value_at value_in
bytes_bounded s w F b p i = let l = b (p.y * w + p.x) in omega arith

module _ (grows : Bool) (s : List ℕ) (w h : ℕ) (o : Outline) (words : List ℕ) where
  pub bytes_flat : Bytes s → (x y : ℕ)
      → swept_bytes grows s w h o words [] x y
      ≡ swept_by grows flat 255 (frame w h) (shape_by o words) (value_at EightBit s w) x y
  unfolding swept_bytes heightened_by shape_of erode_by dilate_by gather value_at value_in
  bytes_flat b x y =
      unweighed grows 255 (frame w h) (heightened_by o words [])
      (value_at EightBit s w) (bytes_bounded s w (frame w h) b) (λ c r. refl)
      (record { x = x; y = y })
      ∙ same grows
    where
      same : (grows : Bool)
          → swept_by grows flat 255 (frame w h) (heightened_by o words []) (value_at EightBit s w) x y
          ≡ swept_by grows flat 255 (frame w h) (shape_by o words) (value_at EightBit s w) x y
      same true = refl
      same false = refl
