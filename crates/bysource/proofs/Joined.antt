-- Rows of values of either depth: how they start, a row of the element joined into one of them, and all.
use Prim.Native.Nat.{ℕ, ◌+◌, ◌-◌, ◌*◌, ◌/◌, ◌%◌, ◌≤◌, ◌<◌}
use mathlib.Core.Path.{◌≡◌, refl, sym, ap, ap₂, ◌∙◌, subst}
use mathlib.Core.Bool.{Bool, not}
use mathlib.Core.List.{List, ◌++◌, append-nil}
use mathlib.Core.Logic.{◌⊎◌, ⊎_elim}
use native.Mathlib.Omega.{arith}
use native.Mathlib.Nat.{add-sub_cancel_left, mod-lt, div-lt_iff_lt-mul, div-add-mod'}
use lib.ListN.{length, get_or, take, drop, drop_of_length-le}
use lib.Seq.{get_or-take, length-take-le}
use borrow.Rule.Slice.PartMut.{mid_of, put_mid}
use Rattle.basics.specs.Bytes.{Bytes}
use Rattle.basics.specs.Lists.{firsts}
use Rattle.basics.proofs.Lists.{get_d_firsts, list_is}
use Rattle.basics.proofs.SliceParts.{put_before, put_within, put_after, get_mid, length_mid}
use Rattle.picture.specs.declared.Depth.{Depth}
use Rattle.picture.specs.declared.Depth.TheVariants.{OneBit, EightBit}
use Rattle.picture.specs.Frame.{frame, row_bytes, top, most_pings}
use Rattle.picture.specs.Points.{value_at, value_in, column_byte, place}
use Rattle.picture.specs.Bytes.{Picture, bytes_of, written}
use Rattle.picture.proofs.Bytes.{bytes_long, value_small}
use Rattle.picture.proofs.Bytes as pictures
use Rattle.picture.proofs.Points.{bytes_same}
use Rattle.picture.proofs.Sizes.{row_room}
use Rattle.element.specs.declared.Outline.{Outline}
use Rattle.element.specs.Descriptor.{most_cells}
use Rattle.element.specs.Record.{shape_by}
use Rattle.morphology.specs.Operations.{fold, flat}
use Rattle.morphology.proofs.Cells.{fold_same}
use Rattle.rows.specs.Steps.Fold.{join_by, start_by}
use Rattle.rows.specs.Steps.Row.{source_row}
use Rattle.rows.specs.Steps.Ways.{swept_by}
use Rattle.blocks.proofs.Laid.{length_laid}
use Rattle.packedline.proofs.Margins.{neutral_bit}
use Rattle.bitrow.specs.Steps.Added.{masked_of, row_in}
use Rattle.rooms.specs.Steps.Lanes.{Way, bytes_way, row_joined}
use Rattle.strokes.specs.Steps.Strokes.{kind_at, Strokes}
use Rattle.sourceparts.specs.Steps.Part.{PartOf}
use Rattle.sourceparts.proofs.Shown.{pad_same, rooms_same}
use Rattle.sourceparts.proofs.Part.{part_start, part_join}
use Rattle.sourceparts.proofs.Whole.{part_all, swept_small}
use Rattle.bysource.specs.Steps.Filled.{value_of, RoomsOf, Scans}
use Rattle.bysource.specs.Steps.Bytes.{bytes_value}

-- the byte of a column lies in its row
column_in : (depth : Depth) (w x : ℕ) → x < w → column_byte depth x < row_bytes depth w
column_in OneBit w x h = omega (arith, h)
column_in EightBit w x h = h

-- what counts as beyond the frame, as a value
start_value : (depth : Depth) (grows : Bool) (x : ℕ) → value_in depth (start_by grows 255) x
    ≡ start_by grows (top depth)
unfolding value_in
start_value OneBit grows x = neutral_bit grows (place x) (omega arith)
start_value EightBit grows x = refl

module _ (depth : Depth) (grows : Bool) (s : List ℕ) (w h : ℕ) (o : Outline) (words : List ℕ) where
  abbrev m : ℕ
  m = row_bytes depth w

  pub rows_start : (t : List ℕ) (n : ℕ) → n ≡ h * m → t ≡ firsts (λ x. start_by grows 255) n
      → PartOf depth grows s w h o words 0 0 0 t
  unfolding value_at
  rows_start t n e q =
      part_start grows (top depth) (value_at depth s w) w h o words (value_at depth t w)
      (λ x y hx hy. ap (λ v. value_in depth v x) (ap (λ l. get_or l (y * m + column_byte depth x) 0) q
      ∙ get_d_firsts (λ x. start_by grows 255) n (y * m + column_byte depth x)
      (omega (arith, row_room m hy, column_in depth w x hx)))
      ∙ start_value depth grows x)

  -- ---- a row of the element joined into row y of the result
  module _ (way : Way) (far : ℕ) (long : w + 139 ≤ far)
      (k v n y : ℕ) (t : List ℕ) (hv : v < h) (hy : y < h) (hn : n < o.h)
      (wide : o.w ≤ most_cells) (column : o.origin.ping.0 < o.w) (len : length t ≡ h * m)
      (source : h * m ≤ length s)
      (ey : y ≡ source_row (not grows) h v o.origin.bin.0 n) (kind : kind_at o words n ≡ k)
      (count word : ℕ) (b at u : List ℕ)
      (rooms : RoomsOf depth grows k (row_in m s v) w far b)
      (is_IsWord : word ≡ masked_of (get_or words n 0) o.w)
      (strokes : Strokes grows word o.origin.ping.0 k count at)
      (made : u ≡ row_joined way grows b (take count at) (mid_of (y * m) (y * m + m - y * m) t))
      (joins : (x : ℕ) → column_byte depth x < length (mid_of (y * m) (y * m + m - y * m) t)
      → value_of depth (row_joined way grows b (take count at) (mid_of (y * m) (y * m + m - y * m) t)) x
      ≡ fold (join_by grows) (value_of depth (mid_of (y * m) (y * m + m - y * m) t) x)
      (λ j. value_of depth b (x + get_or (take count at) j 0)) (length (take count at))) where
    abbrev old : List ℕ
    old = mid_of (y * m) (y * m + m - y * m) t

    abbrev new : List ℕ
    new = put_mid (y * m) (y * m + m - y * m) t u

    size : y * m + m - y * m ≡ m
    size = add-sub_cancel_left (y * m) m

    fits : y * m + (y * m + m - y * m) ≤ length t
    fits = omega (arith, row_room m hy, len, size)

    old_len : length old ≡ m
    old_len = length_mid (y * m) (y * m + m - y * m) t fits ∙ size

    u_len : length u ≡ y * m + m - y * m
    unfolding row_joined
    u_len = ap length made ∙ length_laid 0 (length old) _ old ∙ old_len ∙ sym size

    old_at : (x : ℕ) → x < w → value_of depth old x ≡ value_at depth t w x y
    unfolding value_at
    old_at x l =
        ap (λ v. value_in depth v x)
        (get_mid (y * m) (y * m + m - y * m) t (column_byte depth x)
        (omega (arith, size, column_in depth w x l)))

    row_of : (x : ℕ) → x < w → value_at depth new w x y ≡ value_of depth u x
    unfolding value_at
    row_of x l =
        ap (λ v. value_in depth v x)
        (put_within (y * m) (y * m + m - y * m) t u fits u_len (column_byte depth x)
        (omega (arith, size, column_in depth w x l)))

    new_here : (x : ℕ) → x < w → value_at depth new w x y
        ≡ fold (join_by grows) (value_at depth t w x y) (λ j. value_of depth b (x + get_or at j 0)) count
    new_here x l =
        row_of x l ∙ ap (λ r. value_of depth r x) made
        ∙ joins x (omega (arith, old_len, column_in depth w x l))
        ∙ ap₂ (λ a n. fold (join_by grows) a (λ j. value_of depth b (x + get_or (take count at) j 0)) n)
        (old_at x l)
        (length-take-le count at (omega (arith, strokes.few, strokes.long)))
        ∙ fold_same (join_by grows) (value_at depth t w x y) _ _ count
        (λ j hj. ap (λ p. value_of depth b (x + p)) (get_or-take count at j 0 hj))

    new_else : (x z : ℕ) → x < w → z < h → (z < y) ⊎ (y < z)
        → value_at depth new w x z ≡ value_at depth t w x z
    unfolding value_at
    new_else x z l hz side =
        ap (λ v. value_in depth v x)
        (⊎_elim
        (λ q. put_before (y * m) (y * m + m - y * m) t u fits u_len (z * m + column_byte depth x)
        (omega (arith, row_room m q, column_in depth w x l)))
        (λ q. put_after (y * m) (y * m + m - y * m) t u fits u_len (z * m + column_byte depth x)
        (omega (arith, row_room m q, size, column_in depth w x l))) side)

    row_value : (x : ℕ) → x < w → value_of depth (row_in m s v) x ≡ value_at depth s w x v
    unfolding value_at
    row_value x l = ap (λ b. value_in depth b x)
        (get_mid (v * m) m s (column_byte depth x) (column_in depth w x l))

    pub rows_join : PartOf depth grows s w h o words k v n t
        → PartOf depth grows s w h o words k v (n + 1) new
    rows_join p =
        part_join grows (top depth) (value_at depth s w) w h o words k v n y (value_at depth t w)
        (value_at depth new w) hv hy hn wide column ey kind far count word (value_of depth b) at long
        (rooms_same grows k far _ _ (value_of depth b)
        (pad_same grows (top depth) w w (value_of depth (row_in m s v)) (λ x. value_at depth s w x v) refl
        row_value) rooms)
        is_IsWord strokes new_here new_else p

  -- the same where the bytes of a row are found
  pub rows_join_at : (way : Way) (room : ℕ) (far : ℕ → ℕ) → Scans depth way room far
      → (i k v n y : ℕ) (t : List ℕ) → i ≡ m → w ≤ most_pings → v < h → y < h → n < o.h
      → o.w ≤ most_cells → o.origin.ping.0 < o.w → length t ≡ h * m → h * m ≤ length s
      → y ≡ source_row (not grows) h v o.origin.bin.0 n → kind_at o words n ≡ k
      → (count word : ℕ) (b at u : List ℕ) → Bytes b → RoomsOf depth grows k (row_in m s v) w (far w) b
      → word ≡ masked_of (get_or words n 0) o.w → Strokes grows word o.origin.ping.0 k count at
      → u ≡ row_joined way grows b (take count at) (mid_of (y * i) (y * i + i - y * i) t)
      → PartOf depth grows s w h o words k v n t
      → PartOf depth grows s w h o words k v (n + 1) (put_mid (y * i) (y * i + i - y * i) t u)
  rows_join_at way room far laws i k v n y t ei few hv hy hn wide column len source ey kind count word b at u
      bytes rooms is_IsWord strokes made part =
      subst (λ i. u ≡ row_joined way grows b (take count at) (mid_of (y * i) (y * i + i - y * i) t)
      → PartOf depth grows s w h o words k v (n + 1) (put_mid (y * i) (y * i + i - y * i) t u)) (sym ei)
      (λ made. rows_join way (far w) (laws.long w few) k v n y t hv hy hn wide column len source ey kind count
      word b at u rooms is_IsWord strokes made
      (laws.joins grows b (take count at) (mid_of (y * m) (y * m + m - y * m) t) bytes) part) made

  -- ---- all rows of both kinds are done, and the padding is cleared
  abbrev A : Picture
  A = swept_by grows flat (top depth) (frame w h) (shape_by o words) (value_at depth s w)

  pub rows_all : (t u : List ℕ) → Bytes s → Bytes t → PartOf depth grows s w h o words 2 0 0 t
      → length t ≡ h * m → u ≡ written depth (value_at depth t w) w h t → u ≡ bytes_of depth A w h
  unfolding written
  rows_all t u source target done len e =
      e ∙ ap₂ (λ l r. l ++ r)
      (bytes_same depth (value_at depth t w) A w h
      (part_all grows (top depth) (value_at depth s w) w h o words (value_at depth t w)
      (λ p i. value_small depth s source w p.x p.y)
      (λ x y hx hy. value_small depth t target w x y) done))
      (drop_of_length-le t {i = h * m} (omega (arith, len)))
      ∙ append-nil (bytes_of depth A w h)

-- ---- rows of bytes: of these each is its own value, and all of them are the target
module _ (grows : Bool) (s : List ℕ) (w h : ℕ) (o : Outline) (words : List ℕ) where
  -- a row of the element joined into row y of the result
  pub bytes_join : (k v n y : ℕ) (t : List ℕ) → v < h → y < h → n < o.h
      → o.w ≤ most_cells → o.origin.ping.0 < o.w → length t ≡ h * w → h * w ≤ length s
      → y ≡ source_row (not grows) h v o.origin.bin.0 n → kind_at o words n ≡ k
      → (blocks count word : ℕ) (b at u : List ℕ) → w + 139 ≤ 64 * blocks
      → RoomsOf EightBit grows k (row_in w s v) (length (row_in w s v)) (64 * blocks) b
      → word ≡ masked_of (get_or words n 0) o.w → Strokes grows word o.origin.ping.0 k count at
      → u ≡ row_joined bytes_way grows b (take count at) (mid_of (y * w) (y * w + w - y * w) t)
      → PartOf EightBit grows s w h o words k v n t
      → PartOf EightBit grows s w h o words k v (n + 1) (put_mid (y * w) (y * w + w - y * w) t u)
  bytes_join k v n y t hv hy hn wide column len source ey kind blocks count word b at u long rooms is_IsWord
      strokes made part =
      rows_join EightBit grows s w h o words bytes_way (64 * blocks) long k v n y t hv hy hn wide column len
      source ey kind count word b at u
      (subst (λ l. RoomsOf EightBit grows k (row_in w s v) l (64 * blocks) b)
      (length_mid (v * w) w s (omega (arith, row_room w hv))) rooms)
      is_IsWord strokes made (bytes_value grows b (take count at) _) part

  -- all rows of both kinds are done
  pub bytes_all : (t : List ℕ) → Bytes s → Bytes t → PartOf EightBit grows s w h o words 2 0 0 t → 1 ≤ w
      → length t ≡ h * w
      → t ≡ bytes_of EightBit
      (swept_by grows flat 255 (frame w h) (shape_by o words) (value_at EightBit s w)) w h
  unfolding value_at value_in
  bytes_all t source target done some len =
      lists_same (h * w) t (bytes_of EightBit A w h) len (bytes_long EightBit A w h)
      (λ i l.
      let x : i % w < w = mod-lt i {m = w} some in
      let y : i / w < h = (div-lt_iff_lt-mul {k = w} {x = i} {y = h} some).1 l in
      ap (λ n. get_or t n 0) (sym (div-add-mod' i w)) ∙ point (i % w) (i / w) x y
      ∙ sym (pictures.bytes_value EightBit A w h small (i % w) (i / w) x y)
      ∙ ap (λ n. get_or (bytes_of EightBit A w h) n 0) (div-add-mod' i w))
    where
      A : Picture
      A = swept_by grows flat 255 (frame w h) (shape_by o words) (value_at EightBit s w)

      small : (x y : ℕ) → x < w → y < h → A x y ≤ 255
      small = swept_small grows 255 (value_at EightBit s w) w h o words
          (λ p i. value_small EightBit s source w p.x p.y)

      point : (x y : ℕ) → x < w → y < h → value_at EightBit t w x y ≡ A x y
      point = part_all grows 255 (value_at EightBit s w) w h o words (value_at EightBit t w)
          (λ p i. value_small EightBit s source w p.x p.y)
          (λ x y hx hy. value_small EightBit t target w x y) done

      -- two lists of n elements, each the same
      lists_same : (n : ℕ) (l m : List ℕ) → length l ≡ n → length m ≡ n
          → ((i : ℕ) → i < n → get_or l i 0 ≡ get_or m i 0) → l ≡ m
      lists_same n l m el em each =
          list_is (λ i. get_or m i 0) n l el each ∙ sym (list_is (λ i. get_or m i 0) n m em (λ i h. refl))

-- ---- the picture in the first bytes of a target
pub over_first : (depth : Depth) (A : Picture) (w h : ℕ) (t : List ℕ) (n : ℕ) (u : List ℕ)
    → n ≡ row_bytes depth w → u ≡ bytes_of depth A w h → u ++ drop (h * n) t ≡ written depth A w h t
unfolding written
over_first depth A w h t n u en e = ap₂ (λ l n. l ++ drop (h * n) t) e en
