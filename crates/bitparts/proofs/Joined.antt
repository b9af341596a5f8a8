-- Packed rows: a row of the element joined into one of them, and all of them.
use Prim.Native.Nat.{ℕ, ◌+◌, ◌-◌, ◌*◌, ◌≤◌, ◌<◌}
use mathlib.Core.Path.{◌≡◌}
use mathlib.Core.Bool.{Bool, not}
use mathlib.Core.List.{List}
use lib.ListN.{length, get_or, take}
use borrow.Rule.Slice.PartMut.{mid_of, put_mid}
use Rattle.basics.specs.Bytes.{Bytes}
use Rattle.picture.specs.declared.Depth.TheVariants.{OneBit}
use Rattle.picture.specs.Frame.{frame, row_bytes}
use Rattle.picture.specs.Points.{value_at}
use Rattle.picture.specs.Bytes.{bytes_of, written}
use Rattle.element.specs.declared.Outline.{Outline}
use Rattle.element.specs.Descriptor.{most_cells}
use Rattle.element.specs.Record.{shape_by}
use Rattle.morphology.specs.Operations.{flat}
use Rattle.rows.specs.Steps.Row.{source_row}
use Rattle.rows.specs.Steps.Ways.{swept_by}
use Rattle.bitrow.specs.Steps.Added.{masked_of, row_in}
use Rattle.rooms.specs.Steps.Lanes.{row_joined}
use Rattle.strokes.specs.Steps.Strokes.{kind_at, Strokes}
use Rattle.sourceparts.specs.Steps.Part.{PartOf}
use Rattle.bitrooms.specs.Steps.Points.{bits_way, made_of}
use Rattle.bysource.specs.Steps.Filled.{RoomsOf}
use Rattle.bysource.proofs.Joined.{rows_join, rows_all}
use Rattle.bitparts.specs.Steps.Points.{bits_value}

module _ (grows : Bool) (s : List ℕ) (w h : ℕ) (o : Outline) (words : List ℕ) where
  abbrev m : ℕ
  m = row_bytes OneBit w

  -- a row of the element joined into row y of the result
  pub bits_join : (k v n y : ℕ) (t : List ℕ) → v < h → y < h → n < o.h
      → o.w ≤ most_cells → o.origin.ping.0 < o.w → length t ≡ h * m → h * m ≤ length s
      → y ≡ source_row (not grows) h v o.origin.bin.0 n → kind_at o words n ≡ k
      → (blocks count word : ℕ) (b at u : List ℕ) → w + 139 ≤ 8 * made_of blocks → Bytes b
      → RoomsOf OneBit grows k (row_in m s v) w (8 * made_of blocks) b
      → word ≡ masked_of (get_or words n 0) o.w → Strokes grows word o.origin.ping.0 k count at
      → u ≡ row_joined bits_way grows b (take count at) (mid_of (y * m) (y * m + m - y * m) t)
      → PartOf OneBit grows s w h o words k v n t
      → PartOf OneBit grows s w h o words k v (n + 1) (put_mid (y * m) (y * m + m - y * m) t u)
  bits_join k v n y t hv hy hn wide column len source ey kind blocks count word b at u long bytes rooms
      is_IsWord strokes made part =
      rows_join OneBit grows s w h o words bits_way (8 * made_of blocks) long k v n y t hv hy hn wide column
      len source ey kind count word b at u rooms is_IsWord strokes made
      (bits_value grows b (take count at) _ bytes) part

  -- all rows of both kinds are done, and the padding is cleared
  pub bits_all : (t u : List ℕ) → Bytes s → Bytes t → PartOf OneBit grows s w h o words 2 0 0 t
      → length t ≡ h * m → u ≡ written OneBit (value_at OneBit t w) w h t
      → u ≡ bytes_of OneBit
      (swept_by grows flat 1 (frame w h) (shape_by o words) (value_at OneBit s w)) w h
  bits_all = rows_all OneBit grows s w h o words
