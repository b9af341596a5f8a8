-- The result while it is made: the middle, column after column, row after row; and once all of it is.
use Prim.Native.Nat.{ℕ, ◌+◌, ◌-◌, ◌*◌, ◌/◌, ◌%◌, ◌^◌, ◌≤◌, ◌<◌}
use mathlib.Core.Path.{◌≡◌, refl, sym, ap, ap₂, ◌∙◌, subst}
use mathlib.Core.Bool.{Bool}
use mathlib.Core.List.{List, []}
use mathlib.Core.Logic.{◌⊎◌, inl, inr, ⊎_elim}
use native.Mathlib.Omega.{arith}
use native.Mathlib.Nat.{eq-or-lt_of_le, not-suc-le-zero, mod-lt, div-lt_iff_lt-mul, div-add-mod'}
use native.Mathlib.Nat.{add-sub_cancel_left, mul-le-mul, mul-le-mul_right}
use lib.Arith.{digits_mod}
use lib.ListN.{length, get_or, take}
use lib.Seq.{get_or-take, length-take-le}
use borrow.Rule.Slice.PartMut.{put_mid}
use Rattle.basics.specs.Bytes.{Bytes}
use Rattle.basics.proofs.Lists.{get_d_firsts}
use Rattle.basics.proofs.SliceParts.{below_or_not, put_before, put_within, put_after, put_length}
use Rattle.picture.specs.declared.Depth.TheVariants.{EightBit}
use Rattle.picture.specs.Frame.{most_pings}
use Rattle.picture.specs.Points.{value_at, value_in}
use Rattle.picture.specs.Bytes.{row_byte, row_of, bytes_of}
use Rattle.picture.proofs.Sizes.{row_room}
use Rattle.picture.proofs.Rows.{row_length}
use Rattle.picture.proofs.Bytes.{bytes_long, bytes_value}
use Rattle.element.specs.declared.Outline.{Outline}
use Rattle.element.specs.Descriptor.{most_cells}
use Rattle.rows.specs.Steps.Fold.{start_by}
use Rattle.blocks.specs.Steps.Laid.{laid}
use Rattle.blocks.proofs.Laid.{length_laid, get_in}
use Rattle.byterow.specs.Steps.Row.{swept_bytes, byte_row}
use Rattle.byterow.proofs.Row.{bytes_flat}
use Rattle.rooms.specs.Steps.Joined.{at_places}
use Rattle.sourceparts.proofs.Bytes.{lists_same, bytes_small}
use Rattle.gathers.specs.Steps.Gathered.{at_all, stepped}
use Rattle.gathers.proofs.Gathered.{step_length, step_else, step_here}
use Rattle.cellwise.specs.Steps.Spots.{side_of, Picked}
use Rattle.cellwise.proofs.Spots.{base_few}
use Rattle.cellwise.specs.Steps.Made.{swept_flat, back_of, up_of, Places, Middle, Across, Down}
use Rattle.cellwise.proofs.Points.{side_lt, middle_value, near_inside, near_value}

-- ---- sizes
pub size_few : (a w : ℕ) → a ≤ 257 → w ≤ 1024 → a * w ≤ 263168
size_few a w h k = mul-le-mul {n₁ = a} {m₁ = w} {n₂ = 257} {m₂ = 1024} h k

pub one_row : (a w : ℕ) → 1 ≤ a → w ≤ a * w
one_row a w h = omega (arith, mul-le-mul_right w h)

module _ (grows : Bool) (s : List ℕ) (w h : ℕ) (o : Outline) (words : List ℕ) (bytes : Bytes s)
    (fit : Middle w h o) (column : o.origin.ping.0 < o.w) (row : o.origin.bin.0 < o.h)
    (at : List ℕ) (places : Places grows w o words at) where
  up_lt : up_of grows o < o.h
  up_lt = side_lt grows o.h o.origin.bin.0 o.origin.bin.0 row row

  back_lt : back_of grows o < o.w
  back_lt = side_lt grows o.w o.origin.ping.0 o.origin.ping.0 column column

  tall : w ≤ (h + 1 - o.h) * w
  tall = one_row (h + 1 - o.h) w (omega (arith, fit.high))

  lower : (a b c : ℕ) → a + b ≤ c → a * w + b * w ≤ c * w
  lower a b c l = omega (arith, mul-le-mul_right w l)

  pub lay_fits : (up back n : ℕ) → up ≡ up_of grows o → back ≡ back_of grows o
      → n ≡ (h + 1 - o.h) * w + 1 - o.w → up * w + back + n ≤ h * w
  lay_fits up back n eu eb en =
      let l : up + (h + 1 - o.h) ≤ h = omega (arith, eu, fit.high, up_lt) in
      omega (arith, en, eb, back_lt, fit.wide, lower up (h + 1 - o.h) h l, tall)

  -- ---- the middle
  pub middle_made : (t u : List ℕ) (up back n : ℕ) → up ≡ up_of grows o → back ≡ back_of grows o
      → 0 < length at → n ≡ (h + 1 - o.h) * w + 1 - o.w → length t ≡ h * w
      → u ≡ laid (up * w + back) n (at_all grows s at) t → Across grows s w h o words 0 u
  middle_made t u up back n eu eb some en len is =
      record {
        long = ap length is ∙ length_laid (up * w + back) n (at_all grows s at) t ∙ len;
        made = λ x z hx above below side. ⊎_elim (λ l. absurd (not-suc-le-zero l))
            (λ l. ap₂ (λ v i. get_or v i 0) (is ∙ ap₂ (λ a b. laid (a * w + b) n (at_all grows s at) t) eu eb)
            (there (up_of grows o) (back_of grows o) x z above l.0)
            ∙ get_in (up_of grows o * w + back_of grows o) n (at_all grows s at) t
            ((z - up_of grows o) * w + (x - back_of grows o))
            (subst (λ m. up_of grows o * w + back_of grows o + n ≤ m) (sym len)
            (lay_fits (up_of grows o) (back_of grows o) n refl refl en))
            (inside x z hx above below l.0 l.1)
            ∙ middle_value grows s w h o words bytes at places fit column row x z hx above below l.0 l.1
            some) side;
      }
    where
      there : (a b x z : ℕ) → a ≤ z → b ≤ x → z * w + x ≡ a * w + b + ((z - a) * w + (x - b))
      there a b x z h k = row_sum a (z - a) z (b) (x - b) x (omega arith) (omega arith)
        where
          row_sum : (a d z b e x : ℕ) → z ≡ a + d → x ≡ b + e → z * w + x ≡ a * w + b + (d * w + e)
          row_sum a d z b e x ez ex = ap₂ (λ m k. m * w + k) ez ex ∙ split a d b e
            where
              split : (a d b e : ℕ) → (a + d) * w + (b + e) ≡ a * w + b + (d * w + e)
              split a d b e = omega arith

      inside : (x z : ℕ) → x < w → up_of grows o ≤ z → z < up_of grows o + (h + 1 - o.h)
          → back_of grows o ≤ x → x < back_of grows o + (w + 1 - o.w)
          → (z - up_of grows o) * w + (x - back_of grows o) < n
      inside x z hx above below left right =
          let l : z - up_of grows o < h + 1 - o.h = omega arith in
          omega (arith, en, row_room w l, fit.wide)

  -- ---- what is read and written lies in the picture
  pub in_row : (up x : ℕ) → up ≡ up_of grows o → x < w → (i : ℕ) → i < h + 1 - o.h
      → up * w + x + i * w < h * w
  in_row up x eu hx i l =
      let m : up + i < h = omega (arith, eu, up_lt, fit.high) in omega (arith, row_room w m)

  pub place_few : w ≤ most_pings → o.h ≤ most_cells → o.w ≤ most_cells → (j : ℕ) → j < length at
      → get_or at j 0 + w < 2 ^ 32
  place_few hw hh ho j hj =
      let i = places.inside j hj in
      let c = i.1.1.0 in
      omega (
        arith,
        i.1.1.1,
        side_lt grows o.w o.origin.ping.0 i.0 c.column column,
        base_few (side_of grows o.h i.1.0) o.h w
            (side_lt grows o.h o.origin.bin.0 i.1.0 c.row row) hh hw,
      )

  pub lay_reach : (n m : ℕ) → n ≡ (h + 1 - o.h) * w + 1 - o.w → h * w ≤ m → (j : ℕ) → j < length at
      → get_or at j 0 + n ≤ m
  lay_reach n m en hm j hj =
      let i = places.inside j hj in
      let c = i.1.1.0 in
      let q = side_lt grows o.h o.origin.bin.0 i.1.0 c.row row in
      let l : side_of grows o.h i.1.0 + (h + 1 - o.h) ≤ h = omega (arith, q, fit.high) in
      omega (
        arith,
        en,
        i.1.1.1,
        side_lt grows o.w o.origin.ping.0 i.0 c.column column,
        lower (side_of grows o.h i.1.0) (h + 1 - o.h) h l,
        tall,
        fit.wide,
      )

  pub near_reach : (x : ℕ) → x < w → (back k : ℕ) (near : List ℕ) → back ≡ back_of grows o
      → Picked w back x at (length at) k near → (m : ℕ) → h * w ≤ m → (i : ℕ) → i < h + 1 - o.h
      → (j : ℕ) → j < length (take k near) → get_or (take k near) j 0 + (i * w + 1) ≤ m
  near_reach x hx back k near eb picked m hm i hi j hj =
      let e : length (take k near) ≡ k = length-take-le k near (omega
      (arith, picked.long, picked.few, places.few)) in
      let hk = subst (λ n. j < n) e hj in
      let g = near_inside grows s w h o words bytes at places fit column row x (up_of grows o + i) hx
      (omega arith) (omega arith) k near (subst (λ b. Picked w b x at (length at) k near) eb picked) j hk in
      let a : (up_of grows o + i - up_of grows o) * w ≡ i * w = ap (λ n. n * w) (add-sub_cancel_left
      (up_of grows o) i) in
      omega (arith, g, a, get_or-take k near j 0 hk)

  -- ---- one column more
  module _ (x k : ℕ) (near t u : List ℕ) (up back : ℕ) (eu : up ≡ up_of grows o) (eb : back ≡ back_of grows o)
      (hx : x < w) (picked : Picked w back x at (length at) k near)
      (is : u ≡ stepped (up * w + x) w (h + 1 - o.h)
      (λ i. at_places grows (start_by grows 255) s (i * w) (take k near) (length (take k near))) t) where
    abbrev f : ℕ → ℕ
    f i = at_places grows (start_by grows 255) s (i * w) (take k near) (length (take k near))

    pub column_made : Across grows s w h o words x t → Across grows s w h o words (x + 1) u
    column_made so =
        record {
          long = ap length is ∙ step_length (up * w + x) w f t (h + 1 - o.h) ∙ so.long;
          made = λ v z hv above below side. ap (λ l. get_or l (z * w + v) 0) is
              ∙ ⊎_elim (λ l. other v z hv above below side (inl l))
              (λ l. ⊎_elim (λ e. here v z above below (sym e)) (λ l. other v z hv above below side (inr l))
              (eq-or-lt_of_le l)) (below_or_not v x);
        }
      where
        here : (v z : ℕ) → up_of grows o ≤ z → z < up_of grows o + (h + 1 - o.h) → v ≡ x
            → get_or (stepped (up * w + x) w (h + 1 - o.h) f t) (z * w + v) 0
            ≡ swept_flat grows s w h o words v z
        here v z above below e =
            ap (λ i. get_or (stepped (up * w + x) w (h + 1 - o.h) f t) i 0)
            (ap (λ n. z * w + n) e ∙ there up (z - up) z x (omega arith))
            ∙ step_here (up * w + x) w f t (h + 1 - o.h) (z - up) (omega arith)
            (λ i l. subst (λ n. up * w + x + i * w < n) (sym so.long) (in_row up x eu hx i l)) (omega
            arith)
            ∙ ap (λ n. f (z - n)) eu
            ∙ near_value grows s w h o words bytes at places fit column row x z hx above below k near
            (subst (λ b. Picked w b x at (length at) k near) eb picked)
            ∙ ap (λ n. swept_flat grows s w h o words n z) (sym e)
          where
            there : (a d z x : ℕ) → z ≡ a + d → z * w + x ≡ a * w + x + d * w
            there a d z x e = ap (λ m. m * w + x) e ∙ split a d x
              where
                split : (a d x : ℕ) → (a + d) * w + x ≡ a * w + x + d * w
                split a d x = omega arith

        other : (v z : ℕ) → v < w → up_of grows o ≤ z → z < up_of grows o + (h + 1 - o.h)
            → (v < x + 1) ⊎ ((back_of grows o ≤ v) × (v < back_of grows o + (w + 1 - o.w)))
            → (v < x) ⊎ (x < v)
            → get_or (stepped (up * w + x) w (h + 1 - o.h) f t) (z * w + v) 0
            ≡ swept_flat grows s w h o words v z
        other v z hv above below side apart =
            step_else (up * w + x) w f t (h + 1 - o.h) (z * w + v)
            (λ i l e. differ (same i e) apart)
            ∙ so.made v z hv above below
            (⊎_elim (λ l. ⊎_elim (λ m. inl m) (λ m. absurd (omega arith)) apart) (λ l. inr l) side)
          where
            same : (i : ℕ) → z * w + v ≡ up * w + x + i * w → v ≡ x
            same i e =
                sym (digits_mod z hv) ∙ ap (λ (n : ℕ). n % w) (e ∙ group up i x) ∙ digits_mod (up + i) hx
              where
                group : (a i x : ℕ) → a * w + x + i * w ≡ (a + i) * w + x
                group a i x = omega arith

            differ : v ≡ x → (v < x) ⊎ (x < v) → ⊥
            differ e a = ⊎_elim (λ l. omega arith) (λ l. omega arith) a

-- ---- past the middle, and from columns to rows
module _ (grows : Bool) (s : List ℕ) (w h : ℕ) (o : Outline) (words t : List ℕ) where
  pub past_middle : (back : ℕ) → back ≡ back_of grows o → Across grows s w h o words back t
      → Across grows s w h o words (back + (w + 1 - o.w)) t
  past_middle back e so =
      record {
        long = so.long;
        made = λ u z hu above below side. so.made u z hu above below
            (⊎_elim (λ l. ⊎_elim (λ m. inl m) (λ m. inr (omega (arith, e), omega (arith, e)))
            (below_or_not u back)) (λ l. inr l) side);
      }

  pub rows_of : (up : ℕ) → up ≡ up_of grows o → Across grows s w h o words w t
      → Down grows s w h o words up (up + (h + 1 - o.h)) 0 t
  rows_of up e so =
      record {
        long = so.long;
        made = λ u z hu hz side. ⊎_elim (λ l. absurd (not-suc-le-zero l))
            (λ l. so.made u z hu (omega (arith, e, l.0)) (omega (arith, e, l.1)) (inl hu)) side;
      }

  pub past_rows : (first last : ℕ) → Down grows s w h o words first last first t
      → Down grows s w h o words first last last t
  past_rows first last so =
      record {
        long = so.long;
        made = λ u z hu hz side. so.made u z hu hz
            (⊎_elim (λ l. ⊎_elim (λ m. inl m) (λ m. inr (m, l)) (below_or_not z first)) (λ l. inr l) side);
      }

  pub no_rows : length t ≡ h * w → Down grows s w h o words 0 0 0 t
  no_rows len =
      record {
        long = len;
        made = λ u z hu hz side. ⊎_elim (λ l. absurd (not-suc-le-zero l))
            (λ l. absurd (not-suc-le-zero l.1)) side;
      }

  -- ---- one row more
  module _ (bytes : Bytes s) (first last y : ℕ) (hy : y < h) (ys : List ℕ)
      (is : ys ≡ byte_row grows s w h o words [] y) where
    long_row : length ys ≡ w
    unfolding byte_row
    long_row = ap length is ∙ row_length EightBit (λ x. swept_bytes grows s w h o words [] x y) w

    k_is : y * w + w - y * w ≡ w
    k_is = add-sub_cancel_left (y * w) w

    value : (u : ℕ) → u < w → get_or ys u 0 ≡ swept_flat grows s w h o words u y
    unfolding byte_row row_of row_byte
    value u hu =
        ap (λ l. get_or l u 0) is ∙ get_d_firsts (λ x. swept_bytes grows s w h o words [] x y) w u hu
        ∙ bytes_flat grows s w h o words bytes u y

    pub row_made : Down grows s w h o words first last y t
        → Down grows s w h o words first last (y + 1) (put_mid (y * w) (y * w + w - y * w) t ys)
    row_made so =
        record {
          long = put_length (y * w) (y * w + w - y * w) t ys fits same ∙ so.long;
          made = λ u z hu hz side. ⊎_elim
              (λ l. put_before (y * w) (y * w + w - y * w) t ys fits same (z * w + u)
              (omega (arith, row_room w l)) ∙ so.made u z hu hz (older z side (inl l)))
              (λ l. ⊎_elim
              (λ e. ap (λ n. get_or (put_mid (y * w) (y * w + w - y * w) t ys) (n * w + u) 0) (sym e)
              ∙ put_within (y * w) (y * w + w - y * w) t ys fits same u (subst (λ n. u < n) (sym k_is) hu)
              ∙ value u hu ∙ ap (swept_flat grows s w h o words u) e)
              (λ m. put_after (y * w) (y * w + w - y * w) t ys fits same (z * w + u)
              (omega (arith, row_room w m, k_is)) ∙ so.made u z hu hz (older z side (inr m)))
              (eq-or-lt_of_le l)) (below_or_not z y);
        }
      where
        same : length ys ≡ y * w + w - y * w
        same = long_row ∙ sym k_is

        fits : y * w + (y * w + w - y * w) ≤ length t
        fits = omega (arith, row_room w hy, so.long, k_is)

        older : (z : ℕ) → (z < y + 1) ⊎ ((first ≤ z) × (z < last)) → (z < y) ⊎ (y < z)
            → (z < y) ⊎ ((first ≤ z) × (z < last))
        older z side apart =
            ⊎_elim (λ l. ⊎_elim (λ m. inl m) (λ m. absurd (omega arith)) apart) (λ l. inr l) side

  -- ---- all of it
  pub all_made : Bytes s → 1 ≤ w → (first last : ℕ) → Down grows s w h o words first last h t
      → t ≡ bytes_of EightBit (swept_flat grows s w h o words) w h
  unfolding value_at value_in
  all_made bytes some first last so =
      lists_same (h * w) t (bytes_of EightBit (swept_flat grows s w h o words) w h) so.long (bytes_long
      EightBit (swept_flat grows s w h o words) w h)
      (λ i l.
      let x : i % w < w = mod-lt i {m = w} some in
      let y : i / w < h = (div-lt_iff_lt-mul {k = w} {x = i} {y = h} some).1 l in
      ap (λ n. get_or t n 0) (sym (div-add-mod' i w)) ∙ so.made (i % w) (i / w) x y (inl y)
      ∙ sym (bytes_at (i % w) (i / w) x y)
      ∙ ap (λ n. get_or (bytes_of EightBit (swept_flat grows s w h o words) w h) n 0) (div-add-mod' i w))
    where
      bytes_at : (x y : ℕ) → x < w → y < h
          → get_or (bytes_of EightBit (swept_flat grows s w h o words) w h) (y * w + x) 0
          ≡ swept_flat grows s w h o words x y
      bytes_at x y hx hy =
          bytes_value EightBit (swept_flat grows s w h o words)
          w h (bytes_small grows s w h o words bytes) x y hx hy
