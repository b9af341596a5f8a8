-- Two rows of the result, one after the other, and the whole picture.
use Prim.Native.Nat.{ℕ, ◌+◌, ◌-◌, ◌*◌, ◌≤◌, ◌<◌}
use mathlib.Core.Path.{◌≡◌, refl, sym, ap, ap₂, ◌∙◌, subst}
use mathlib.Core.Bool.{Bool}
use mathlib.Core.List.{List}
use native.Mathlib.Omega.{arith}
use native.Mathlib.Nat.{add-sub_cancel_left}
use borrow.Rule.Slice.PartMut.{put_mid}
use lib.ListN.{length, get_or}
use Rattle.basics.specs.Bytes.{Bytes}
use Rattle.basics.specs.Lists.{firsts}
use Rattle.basics.proofs.Lists.{length_firsts}
use Rattle.basics.proofs.SliceParts.{put_length}
use Rattle.picture.specs.Frame.{row_bytes, picture_bytes}
use Rattle.picture.specs.Bytes.{row_of, written}
use Rattle.picture.proofs.Rows.{row_length}
use Rattle.picture.proofs.Sizes.{row_room}
use Rattle.element.specs.declared.Outline.{Outline}
use Rattle.rows.proofs.Written.{row_fits, rows_written, written_more, written_all}
use Rattle.joins.specs.Steps.Joins.{depth_if}
use Rattle.columns.specs.Steps.Down.{also_at}
use Rattle.boxrow.specs.Steps.Along.{before_of, room_of, along_at}
use Rattle.boxrow.proofs.Widths.{before_lt}
use Rattle.boxseen.specs.Steps.Seen.{upper_at, lower_at, lower_row, LeadFit}
use Rattle.boxseen.proofs.Seen.{Sees, sees_first, sees_last}
use Rattle.boxlaw.specs.Steps.Box.{boxed, box_row}
use Rattle.boxpair.specs.Steps.Fit.{BoxFit}
use Rattle.boxlaw.specs.Steps.Padded.{side_of, margins_of}
use Rattle.boxpair.specs.Steps.Put.{put_row, padded_by}
use Rattle.boxlaw.proofs.Padded.{room_for, row_long, margins_long, padded_made}
use Rattle.boxlaw.proofs.Row.{row_is}
use Rattle.boxpair.proofs.Put.{put_again, put_next, put_two}

-- two parts that are as long as a row are what `lead` asks for
pub lead_ready : (ns n₁ n₂ n k h o high y z : ℕ) → n₁ ≡ n → n₂ ≡ n → n ≡ k → h * k ≤ ns → h ≤ 256 → high ≤ 64
    → o < high → y ≤ z → z ≤ y + 1 → z < h → LeadFit ns n₁ n₂ h o high y z
lead_ready ns n₁ n₂ n k h o high y z e₁ e₂ ek source bins few l up next row =
    record {
      same = e₂ ∙ sym e₁;
      source = subst (λ m. h * m ≤ ns) (sym (e₁ ∙ ek)) source;
      few_bins = bins;
      few_high = few;
      origin_in = l;
      up = up;
      next = next;
      row = row;
    }

-- once the sizes are known: a row lies in the target, and the padded row in its room
module _ {packed : Bool} {ns nt nb w h : ℕ} {o : Outline} (fit : BoxFit packed ns nt nb w h o) {n : ℕ}
    (en : n ≡ row_bytes (depth_if packed) w) where
  pub row_in : (y : ℕ) → y < h → y * n + n ≤ nt
  row_in y l = row_fits _ _ y h _ en l fit.target

  pub room_in : {side : ℕ} → side ≡ side_of packed → side + n + 64 ≤ nb
  room_in es =
      subst (λ m. m + n + 64 ≤ nb) (sym es) (omega (arith, en, room_for packed w fit.few_pings, fit.room))

  pub few_in : n ≤ 1024
  few_in = omega (arith, en, row_long packed w fit.few_pings)

-- the padded row as the code makes it
pub padded_as : (packed grows : Bool) (n k side : ℕ) (b m row same : List ℕ) → n ≡ k → side ≡ side_of packed
    → m ≡ margins_of packed grows n b → row ≡ same
    → put_mid side (side + n - side) m row ≡ padded_by packed grows k b same
unfolding padded_by
padded_as packed grows n k side b m row same en es em er =
    ap₂ (λ s n. put_mid s (s + n - s) m row) es en
    ∙ ap₂ (λ m r. put_mid (side_of packed) (side_of packed + k - side_of packed) m r)
    (em ∙ ap (λ n. margins_of packed grows n b) en) er

module _ (packed grows : Bool) (s : List ℕ) (ns nt : ℕ) (w h : ℕ) (o : Outline) (b : List ℕ)
    (fit : BoxFit packed ns nt (length b) w h o) where
  abbrev k : ℕ
  k = row_bytes (depth_if packed) w

  abbrev above : ℕ
  above = before_of grows o.origin.bin.0 o.h

  -- a padded row of the rows that row y sees is row y of the result
  padded_row : (y lo count row : ℕ) (ys : List ℕ) → Sees h y above o.h lo count row
      → ys ≡ firsts (also_at packed grows s k lo count row) k → Bytes (padded_by packed grows k b ys)
      → row_of (depth_if packed) (along_at packed grows w o.origin.ping.0 o.w (padded_by packed grows k
      b ys)) w
      ≡ box_row packed grows s w h o y
  unfolding padded_by
  padded_row y lo count row ys sees ey bytes =
      row_is packed grows s w h o y lo count row _ ys fit.some_pings fit.few_pings fit.column fit.row
      fit.few_wide sees
      (put_length (side_of packed) (side_of packed + k - side_of packed) (margins_of packed grows k b) ys
      (omega (arith, room, margins_long packed grows k b, across)) (len ∙ sym across)
      ∙ margins_long packed grows k b ∙ fit.room)
      bytes
      (padded_made packed grows k (side_of packed + k - side_of packed) b ys room len across) ey
    where
      across : side_of packed + k - side_of packed ≡ k
      across = add-sub_cancel_left (side_of packed) k

      room : side_of packed + k + 64 ≤ length b
      room = subst (λ n. side_of packed + k + 64 ≤ n) (sym fit.room) (room_for packed w fit.few_pings)

      len : length ys ≡ k
      len = ap length ey ∙ length_firsts _ k

  module _ (y z : ℕ) (up : y ≤ z) (next : z ≤ y + 1) (hz : z < h) where
    short : above < o.h
    short = before_lt grows o.origin.bin.0 o.h fit.row

    pub upper_row_lem : (ys : List ℕ)
        → ys ≡ firsts (upper_at packed grows s k h o.origin.bin.0 o.h y z) k
        → Bytes (padded_by packed grows k b ys)
        → row_of (depth_if packed) (along_at packed grows w o.origin.ping.0 o.w (padded_by packed grows
        k b ys)) w
        ≡ box_row packed grows s w h o y
    unfolding upper_at
    upper_row_lem ys ey bytes = padded_row y _ _ _ ys (sees_first above o.h h y z short up next hz) ey bytes

    pub lower_row_lem : (ys : List ℕ) → ys ≡ lower_row packed grows s w h o y z
        → Bytes (padded_by packed grows k b ys)
        → row_of (depth_if packed) (along_at packed grows w o.origin.ping.0 o.w (padded_by packed grows
        k b ys)) w
        ≡ box_row packed grows s w h o z
    unfolding lower_row lower_at
    lower_row_lem ys ey bytes = padded_row z _ _ _ ys (sees_last above o.h h y z short up next hz) ey bytes

-- ---- rows put where they belong
across : (y k : ℕ) → y * k + k - y * k ≡ k
across y k = add-sub_cancel_left (y * k) k

after : (y k : ℕ) → (y + 1) * k ≡ y * k + k
after y k = omega arith

put_at_lem : (k y : ℕ) (t row : List ℕ) → put_row k y t row ≡ put_mid (y * k) k t row
put_at_lem k y t row = ap (λ n. put_mid (y * k) n t row) (across y k)

put_after_it : (k y : ℕ) (t row : List ℕ) → put_row k (y + 1) t row ≡ put_mid (y * k + k) k t row
put_after_it k y t row = put_at_lem k (y + 1) t row ∙ ap (λ a. put_mid a k t row) (after y k)

-- as the code puts them
pub put_as : (n k y z : ℕ) (t Z Z' Y Y' : List ℕ) → n ≡ k → Z ≡ Z' → Y ≡ Y'
    → put_mid (y * n) (y * n + n - y * n) (put_mid (z * n) (z * n + n - z * n) t Z) Y ≡ put_row k y (put_row k
    z t Z') Y'
put_as n k y z t Z Z' Y Y' en e_z e_y =
    ap₂ (λ Z Y. put_row n y (put_row n z t Z) Y) e_z e_y ∙ ap (λ n. put_row n y (put_row n z t Z') Y') en

module _ (k y : ℕ) (t Z Y : List ℕ) (fits : (y + 1) * k + k ≤ length t) (e_z : length Z ≡ k) (e_y : length Y
    ≡ k) where
  inside : y * k + k + k ≤ length t
  inside = subst (λ a. a + k ≤ length t) (after y k) fits

  pub next_row : (u : List ℕ) → u ≡ put_row k y (put_row k (y + 1) t Z) Y
      → firsts (λ i. get_or u ((y + 1) * k + i) 0) k ≡ Z
  next_row u eu =
      ap₂ (λ l a. firsts (λ i. get_or l (a + i) 0) k)
      (eu ∙ ap (λ l. put_row k y l Y) (put_after_it k y t Z) ∙ put_at_lem k y _ Y) (after y k)
      ∙ put_next (y * k) k t Z Y inside e_z e_y

  pub two_rows : (u X : List ℕ) → length X ≡ k → u ≡ put_row k y (put_row k (y + 1) t Z) Y
      → put_row k (y + 1) u X ≡ put_row k (y + 1) (put_row k y t Y) X
  two_rows u X eX eu =
      put_after_it k y u X
      ∙ ap (λ l. put_mid (y * k + k) k l X)
      (eu ∙ ap (λ l. put_row k y l Y) (put_after_it k y t Z) ∙ put_at_lem k y _ Y)
      ∙ put_two (y * k) k t Z Y X inside e_z e_y eX
      ∙ ap (λ l. put_mid (y * k + k) k l X) (sym (put_at_lem k y t Y))
      ∙ sym (put_after_it k y (put_row k y t Y) X)

pub one_row : (k y : ℕ) (t Z Y : List ℕ) → y * k + k ≤ length t → length Z ≡ k → length Y ≡ k
    → put_row k y (put_row k y t Z) Y ≡ put_row k y t Y
one_row k y t Z Y fits e_z e_y =
    ap (λ l. put_row k y l Y) (put_at_lem k y t Z) ∙ put_at_lem k y _ Y
    ∙ put_again (y * k) k t Z Y fits e_z e_y ∙ sym (put_at_lem k y t Y)

pub lower_long : (packed grows : Bool) (s : List ℕ) (w h : ℕ) (o : Outline) (y z : ℕ)
    → length (lower_row packed grows s w h o y z) ≡ row_bytes (depth_if packed) w
unfolding lower_row
lower_long packed grows s w h o y z = length_firsts _ _

pub box_long : (packed grows : Bool) (s : List ℕ) (w h : ℕ) (o : Outline) (y : ℕ)
    → length (box_row packed grows s w h o y) ≡ row_bytes (depth_if packed) w
unfolding box_row
box_long packed grows s w h o y = row_length (depth_if packed) _ w

-- ---- the picture, two rows at a time
module _ (packed grows : Bool) (s : List ℕ) (w h : ℕ) (o : Outline) (t₀ : List ℕ) where
  abbrev n : ℕ
  n = row_bytes (depth_if packed) w

  abbrev R : ℕ → List ℕ
  R y = rows_written (depth_if packed) (boxed packed grows s w h o) w t₀ y

  one_more : (y : ℕ) (t : List ℕ) → t ≡ R y → put_row n y t (box_row packed grows s w h o y) ≡ R (y + 1)
  unfolding box_row
  one_more y t e =
      written_more (depth_if packed) (boxed packed grows s w h o) w t₀ n y t _ refl e refl

  pub two_more : (nt y : ℕ) (t u v b X : List ℕ) (fit : BoxFit packed (length s) nt (length b) w h o)
      → length t ≡ nt → y + 1 < h → t ≡ R y
      → u ≡ put_row n y (put_row n (y + 1) t (lower_row packed grows s w h o y (y + 1))) (box_row packed grows
      s w h o y)
      → X ≡ firsts (λ i. get_or u ((y + 1) * n + i) 0) n
      → v ≡ put_row n (y + 1) u (row_of (depth_if packed) (along_at packed grows w o.origin.ping.0 o.w
      (padded_by packed grows n b X)) w)
      → Bytes (padded_by packed grows n b X)
      → v ≡ R (y + 2)
  two_more nt y t u v b X fit len l et eu eX ev bytes =
      ev
      ∙ ap (put_row n (y + 1) u)
      (lower_row_lem packed grows s (length s) nt w h o b fit y (y + 1) (omega arith) (omega arith) l X
      (eX ∙ next_row n y t Z Y fits e_z e_y u eu) bytes)
      ∙ two_rows n y t Z Y fits e_z e_y u (box_row packed grows s w h o (y + 1))
      (box_long packed grows s w h o (y + 1)) eu
      ∙ one_more (y + 1) (put_row n y t Y) (one_more y t et)
      ∙ ap R (two y)
    where
      Z : List ℕ
      Z = lower_row packed grows s w h o y (y + 1)

      Y : List ℕ
      Y = box_row packed grows s w h o y

      e_z : length (lower_row packed grows s w h o y (y + 1)) ≡ row_bytes (depth_if packed) w
      e_z = lower_long packed grows s w h o y (y + 1)

      e_y : length (box_row packed grows s w h o y) ≡ row_bytes (depth_if packed) w
      e_y = box_long packed grows s w h o y

      fits : (y + 1) * row_bytes (depth_if packed) w + row_bytes (depth_if packed) w ≤ length t
      fits = omega (arith, row_room (row_bytes (depth_if packed) w) l, fit.target, len)

      two : (y : ℕ) → y + 1 + 1 ≡ y + 2
      two y = omega arith

  pub last_more : (nt ns nb y : ℕ) (t u : List ℕ) (fit : BoxFit packed ns nt nb w h o)
      → length t ≡ nt → y < h → h ≤ y + 1 → t ≡ R y
      → u ≡ put_row n y (put_row n y t (lower_row packed grows s w h o y y)) (box_row packed grows s w h o y)
      → u ≡ written (depth_if packed) (boxed packed grows s w h o) w h t₀
  last_more nt ns nb y t u fit len l m et eu =
      written_all (depth_if packed) (boxed packed grows s w h o) w t₀ (y + 1) h u
      (eu ∙ one_row n y t (lower_row packed grows s w h o y y) (box_row packed grows s w h o y)
      (omega (arith, row_room n l, fit.target, len)) (lower_long packed grows s w h o y y)
      (box_long packed grows s w h o y) ∙ one_more y t et) (omega arith)

  pub all_done : (y : ℕ) (t : List ℕ) → t ≡ R y → y ≡ h
      → t ≡ written (depth_if packed) (boxed packed grows s w h o) w h t₀
  all_done y t e q = written_all (depth_if packed) (boxed packed grows s w h o) w t₀ y h t e q

pub put_one : (n k z : ℕ) (t Y Y' : List ℕ) → n ≡ k → Y ≡ Y'
    → put_mid (z * n) (z * n + n - z * n) t Y ≡ put_row k z t Y'
put_one n k z t Y Y' en e_y = ap₂ (λ n Y. put_row n z t Y) en e_y

-- the same of buffers that are as long; and of a target that is its own source
pub fit_still : (packed : Bool) (ns nt nb mt mb w h : ℕ) (o : Outline) → BoxFit packed ns nt nb w h o → mt
    ≡ nt
    → mb ≡ nb → BoxFit packed ns mt mb w h o
fit_still packed ns nt nb mt mb w h o f et eb =
    record {
      some_pings = f.some_pings;
      few_pings = f.few_pings;
      few_bins = f.few_bins;
      source = f.source;
      target = subst (λ n. picture_bytes (depth_if packed) w h ≤ n) (sym et) f.target;
      room = eb ∙ f.room;
      few_wide = f.few_wide;
      few_high = f.few_high;
      column = f.column;
      row = f.row;
    }

pub fit_own : (packed : Bool) (ns nt nb w h : ℕ) (o : Outline) → BoxFit packed ns nt nb w h o
    → BoxFit packed nt nt nb w h o
fit_own packed ns nt nb w h o f =
    record {
      some_pings = f.some_pings;
      few_pings = f.few_pings;
      few_bins = f.few_bins;
      source = f.target;
      target = f.target;
      room = f.room;
      few_wide = f.few_wide;
      few_high = f.few_high;
      column = f.column;
      row = f.row;
    }
