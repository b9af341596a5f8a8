-- What the rows of an element find is what the definition says.
use Prim.Native.Nat.{ℕ, ◌+◌, ◌-◌, ◌*◌, ◌/◌, ◌%◌, ◌≤◌, ◌<◌, min, max}
use mathlib.Core.Path.{◌≡◌, refl, sym, ap, ◌∙◌, subst}
use mathlib.Core.Bool.{Bool, true, false, not, cond, ◌&&◌}
use mathlib.Core.List.{List}
use mathlib.Core.Logic.{◌↔◌, ⊎_elim}
use native.Mathlib.Omega.{arith}
use lib.Dec.{T, ltb, leb, lit<, leb→le}
use lib.ListN.{get_or}
use borrow.Author.Tests.{lt-ltb, le-ltb}
use Rattle.basics.specs.Bits.{bit}
use Rattle.basics.proofs.Bits.{bit_lt, digits_same}
use Rattle.basics.proofs.Truth.{and_parts, three_intro, three_parts, cond_holds}
use Rattle.basics.proofs.SliceParts.{below_or_not}
use Rattle.picture.specs.declared.Depth.TheVariants.{OneBit}
use Rattle.picture.specs.Frame.{Frame, frame, row_bytes}
use Rattle.picture.specs.Points.{value_at, value_in}
use Rattle.picture.specs.Bytes.{Picture, turned, faced, row_byte, row_of}
use Rattle.basics.proofs.Lists.{firsts_same}
use Rattle.element.specs.declared.Outline.{Outline}
use Rattle.element.specs.Descriptor.{most_cells}
use Rattle.element.specs.Shape.{Shape}
use Rattle.element.specs.Record.{cell_on, shape_by, shape_of}
use Rattle.morphology.specs.Operations.{flat, moved, within, gather, erode_by, dilate_by}
use Rattle.morphology.proofs.Folds.{gathered, least_shared, most_shared}
use Rattle.rows.specs.Steps.Fold.{plus_by, minus_by}
use Rattle.rows.specs.Steps.Ways.{swept_by}
use Rattle.rows.proofs.Places.{within_yes, within_inside}
use Rattle.windows.proofs.Bounds.{fold_lt}
use Rattle.packedline.specs.Steps.Cells.{cell_on64, place_of}
use Rattle.packedline.specs.Steps.Line.{faced_point, pack_of}
use Rattle.bitrow.specs.declared.Task.{Task}
use Rattle.bitrow.specs.Steps.Row.{face_if, swept_bits, bit_row}
use Rattle.bitrow.specs.Steps.Added.{masked_of}
use Rattle.bitrow.proofs.Cells.{masked_on, masked_off}
use Rattle.narrow.specs.declared.Strip.{Strip}
use Rattle.words.specs.Steps.Words.{row_point}
use Rattle.narrow.specs.Steps.Strip.{place_at, row_place}
use Rattle.narrow.specs.Steps.Row.{turned_by}
use Rattle.narrow.proofs.Strips.{place_lt}
use Rattle.narrow.proofs.Rows.{Found}

holds : (b : Bool) → T b → b ≡ true
holds true t = refl
holds false t = absurd t

told : (b : Bool) → b ≡ true → T b
told b e = subst T (sym e) tt

-- ---- the definition, turned over where it erodes, has 0 exactly where each cell that leads inside finds 0
module _ (F : Frame) (B : Shape) (A : Picture) (x y : ℕ) where
  abbrev taken : Bool → ℕ → ℕ → Bool
  taken g c r =
      B.has c r && (within F.pings x (plus_by g B.origin_column c) (minus_by g B.origin_column c)
      && within F.bins y (plus_by g B.origin_row r) (minus_by g B.origin_row r))

  abbrev value : Bool → ℕ → ℕ → ℕ
  value g c r =
      A (moved x (plus_by g B.origin_column c) (minus_by g B.origin_column c))
      (moved y (plus_by g B.origin_row r) (minus_by g B.origin_row r))

  swept_off : (g : Bool) → (faced_point (not g) (swept_by g flat 1 F B A x y) ≡ 0)
      ↔ ((c r : ℕ) → c < B.wide → r < B.high → T (taken g c r) → faced_point (not g) (value g c r) ≡ 0)
  unfolding dilate_by erode_by
  swept_off true =
      let all = gathered max (λ a. a ≤ 0) (most_shared 0) 0 B (taken true) (value true) in (
        λ e c r hc hr t. none (value true c r) ((all.0 (zero e)).1 c r hc hr t),
        λ f. none (gather max 0 B (taken true) (value true)) (all.1 (
          omega arith,
          λ c r hc hr t. zero (f c
              r hc hr t),
        )),
      )
    where
      none : (n : ℕ) → n ≤ 0 → n ≡ 0
      none n h = omega arith

      zero : {n : ℕ} → n ≡ 0 → n ≤ 0
      zero {n} e = omega arith
  swept_off false =
      let all = gathered min (λ a. 1 ≤ a) (least_shared 1) 1 B (taken false) (value false) in (
        λ e c r hc hr t. gone (value false c r) ((all.0 (some (gather min 1 B (taken false) (value false))
            e)).1 c r hc hr t),
        λ f. gone (gather min 1 B (taken false) (value false)) (all.1 (
          omega arith,
          λ c r hc hr t. some
              (value false c r) (f c r hc hr t),
        )),
      )
    where
      gone : (n : ℕ) → 1 ≤ n → 1 - n ≡ 0
      gone n h = omega arith

      some : (n : ℕ) → 1 - n ≡ 0 → 1 ≤ n
      some n h = omega arith

  swept_lt : (g : Bool) → ((u v : ℕ) → A u v < 2) → swept_by g flat 1 F B A x y < 2
  unfolding dilate_by erode_by gather
  swept_lt true small =
      fold_lt true 0 _ B.high (lit< tt) (λ r. fold_lt true 0 _ B.wide (lit< tt)
      (λ c. cond_holds (λ n. n < 2) (taken true c r) (value true c r) 0 (λ t. small _ _) (λ t. lit< tt)))
  swept_lt false small =
      fold_lt false 1 _ B.high (lit< tt) (λ r. fold_lt false 1 _ B.wide (lit< tt)
      (λ c. cond_holds (λ n. n < 2) (taken false c r) (value false c r) 1 (λ t. small _ _) (λ t. lit< tt)))

-- ---- a place of a padded row, and the column that it is
place_to : (g : Bool) (o c x : ℕ) → o < 64 → c < 64 → minus_by g o c ≤ x + plus_by g o c
    → x + place_of g o c ≡ 64 + moved x (plus_by g o c) (minus_by g o c)
place_to true o c x ho hc h = omega arith
place_to false o c x ho hc h = omega arith

place_back : (g : Bool) (o c x : ℕ) → o < 64 → c < 64 → 64 ≤ x + place_of g o c
    → minus_by g o c ≤ x + plus_by g o c
place_back true o c x ho hc h = omega arith
place_back false o c x ho hc h = omega arith

-- what stands there, turned over where it erodes
seen : (g over : Bool) (s : List ℕ) (w n v u p : ℕ) → n ≡ row_bytes OneBit w → p ≡ 64 + u → u < w
    → row_place (turned_by g over) s (v * n) w p ≡ faced_point (not g) (faced OneBit (face_if over) s w u v)
unfolding row_place row_point faced value_at value_in
seen g over s w n v u p en ep h =
    ap (λ b. cond b 0 (row_point (turned_by g over) s (v * n) w (p - 64))) (le-ltb p 64 (omega arith))
    ∙ ap (row_point (turned_by g over) s (v * n) w) (back p u ep)
    ∙ ap (λ b. cond b (faced_point (turned_by g over) (point (v * n))) 0) (lt-ltb u w h)
    ∙ ap (λ m. faced_point (turned_by g over) (point (v * m))) en
    ∙ face g over (point (v * row_bytes OneBit w))
    (bit_lt (get_or s (v * row_bytes OneBit w + u / 8) 0) (7 - u
    % 8))
  where
    point : ℕ → ℕ
    point at = bit (get_or s (at + u / 8) 0) (7 - u % 8)

    back : (p u : ℕ) → p ≡ 64 + u → p - 64 ≡ u
    back p u e = omega arith

    face : (g over : Bool) (b : ℕ) → b < 2 → faced_point (turned_by g over) b
        ≡ faced_point (not g) (turned (face_if over) 1 b)
    face true true b l = refl
    face true false b l = refl
    face false true b l = omega arith
    face false false b l = refl

off_frame : (over : Bool) (s : List ℕ) (at w p : ℕ) → p < 64 → row_place over s at w p ≡ 0
unfolding row_place
off_frame over s at w p h = ap (λ b. cond b 0 (row_point over s at w (p - 64))) (lt-ltb p 64 h)

past_frame : (over : Bool) (s : List ℕ) (at w p : ℕ) → 64 ≤ p → w ≤ p - 64 → row_place over s at w p ≡ 0
unfolding row_place row_point
past_frame over s at w p h k =
    ap (λ b. cond b 0 (row_point over s at w (p - 64))) (le-ltb p 64 h)
    ∙ ap (λ b. cond b (faced_point over (bit (get_or s (at + (p - 64) / 8) 0) (7 - (p - 64) % 8))) 0)
    (le-ltb (p - 64) w k)

-- ---- a point of the result
module _ (k : Task) (s : List ℕ) (w n h : ℕ) (o : Outline) (words : List ℕ) (y : ℕ) (v : Strip)
    (few : o.w ≤ most_cells) (column : o.origin.ping.0 < o.w) (en : n ≡ row_bytes OneBit w)
    (found : Found k.grows (turned_by k.grows k.over) s w n h y o.origin.ping.0
    o.origin.bin.0 (λ i. masked_of (get_or words i 0) o.w) o.h v) (x : ℕ) where
  abbrev g : Bool
  g = k.grows

  abbrev A : Picture
  A = faced OneBit (face_if k.over) s w

  abbrev S : ℕ
  S = swept_by g flat 1 (frame w h) (shape_by o words) A x y

  to : place_at v x ≡ 0 → faced_point (not g) S ≡ 0
  unfolding shape_of
  to z =
      (swept_off (frame w h) (shape_by o words) A x y g).1 (λ c r hc hr t.
      let q = three_parts (cell_on (get_or words r 0) c)
      (within w x (plus_by g o.origin.ping.0 c) (minus_by g o.origin.ping.0 c))
      (within h y (plus_by g o.origin.bin.0 r) (minus_by g o.origin.bin.0 r)) t in
      let across = and_parts (leb (minus_by g o.origin.ping.0 c) (x + plus_by g o.origin.ping.0 c))
      (ltb (moved x (plus_by g o.origin.ping.0 c) (minus_by g o.origin.ping.0 c)) w) q.1 in
      let down = and_parts (leb (minus_by g o.origin.bin.0 r) (y + plus_by g o.origin.bin.0 r))
      (ltb (moved y (plus_by g o.origin.bin.0 r) (minus_by g o.origin.bin.0 r)) h) q.2 in
      let lx = leb→le (minus_by g o.origin.ping.0 c) (x + plus_by g o.origin.ping.0 c) across.0 in
      let ly = leb→le (minus_by g o.origin.bin.0 r) (y + plus_by g o.origin.bin.0 r) down.0 in
      sym (seen g k.over s w n (moved y (plus_by g o.origin.bin.0 r) (minus_by g o.origin.bin.0 r))
      (moved x (plus_by g o.origin.ping.0 c) (minus_by g o.origin.ping.0 c)) _ en
      (place_to g o.origin.ping.0 c x (omega arith) (omega arith) lx)
      (within_inside w x (plus_by g o.origin.ping.0 c) (minus_by g o.origin.ping.0 c) q.1))
      ∙ (found x).0 z r hr _ c
      (within_inside h y (plus_by g o.origin.bin.0 r) (minus_by g o.origin.bin.0 r) q.2)
      (whole y (plus_by g o.origin.bin.0 r) (minus_by g o.origin.bin.0 r) ly) (omega arith)
      (masked_on (get_or words r 0) o.w c few hc ∙ holds (cell_on (get_or words r 0) c) q.0))
    where
      whole : (y p m : ℕ) → m ≤ y + p → y + p - m + m ≡ y + p
      whole y p m h = omega arith

  from : faced_point (not g) S ≡ 0 → place_at v x ≡ 0
  unfolding shape_of
  from e =
      (found x).1 (λ r hr j d hj ej hd on.
      let hc : d < o.w = inside d r hd on in
      let p = x + place_of g o.origin.ping.0 d in
      ⊎_elim (λ l. off_frame (turned_by g k.over) s (j * n) w p l)
      (λ l. ⊎_elim
      (λ m.
      let lx = place_back g o.origin.ping.0 d x (omega arith) hd l in
      let ep = place_to g o.origin.ping.0 d x (omega arith) hd lx in
      let ev : j ≡ moved y (plus_by g o.origin.bin.0 r) (minus_by g o.origin.bin.0 r) = omega arith in
      let lu : moved x (plus_by g o.origin.ping.0 d) (minus_by g o.origin.ping.0 d) < w = omega
      arith in
      seen g k.over s w n j (moved x (plus_by g o.origin.ping.0 d) (minus_by g o.origin.ping.0
      d)) p en ep lu
      ∙ ap (λ i. faced_point (not g)
      (A (moved x (plus_by g o.origin.ping.0 d) (minus_by g o.origin.ping.0 d)) i)) ev
      ∙ (swept_off (frame w h) (shape_by o words) A x y g).0 e d r hc hr
      (three_intro (cell_on (get_or words r 0) d)
      (within w x (plus_by g o.origin.ping.0 d) (minus_by g o.origin.ping.0 d))
      (within h y (plus_by g o.origin.bin.0 r) (minus_by g o.origin.bin.0 r))
      (told _ (sym (masked_on (get_or words r 0) o.w d few hc) ∙ on))
      (told _ (within_yes w x (plus_by g o.origin.ping.0 d) (minus_by g o.origin.ping.0 d) lx lu))
      (told _ (within_yes h y (plus_by g o.origin.bin.0 r) (minus_by g o.origin.bin.0 r)
      (omega arith) (subst (λ i. i < h) ev hj)))))
      (λ m. past_frame (turned_by g k.over) s (j * n) w p l m)
      (below_or_not (p - 64) w))
      (below_or_not p 64))
    where
      inside : (d r : ℕ) → d < 64 → cell_on64 (masked_of (get_or words r 0) o.w) d ≡ true → d < o.w
      inside d r hd on =
          ⊎_elim (λ l. l)
          (λ l. absurd (never (sym on ∙ masked_off (get_or words r 0) o.w d l hd)))
          (below_or_not d o.w)
        where
          never : true ≡ false → ⊥
          never e = let z : ◌≡◌ {A = ℕ} 0 1 = ap (λ t. cond t 0 1) e in omega arith

  pub swept_point : faced_point (not g) (place_at v x) ≡ swept_bits k s w h o words x y
  unfolding swept_bits faced value_at value_in
  swept_point = ends g (place_at v x) S (place_lt v x) (swept_lt (frame w h) (shape_by o words) A x y g small)
      to from
    where
      small : (u v : ℕ) → A u v < 2
      small u v =
          by k.over (bit (get_or s (v * row_bytes OneBit w + u / 8) 0) (7 - u % 8))
          (bit_lt (get_or s (v * row_bytes OneBit w + u / 8) 0) (7 - u % 8))
        where
          by : (over : Bool) (b : ℕ) → b < 2 → turned (face_if over) 1 b < 2
          by true b h = omega arith
          by false b h = h

      ends : (g : Bool) (a b : ℕ) → a < 2 → b < 2 → (a ≡ 0 → faced_point (not g) b ≡ 0)
          → (faced_point (not g) b ≡ 0 → a ≡ 0) → faced_point (not g) a ≡ b
      ends true a b ha hb to from =
          ⊎_elim (λ l. let e : a ≡ 0 = omega arith in let f = to e in omega arith)
          (λ l. ⊎_elim (λ m. let e : b ≡ 0 = omega arith in let f = from e in absurd (omega arith))
          (λ m. omega arith) (below_or_not b 1)) (below_or_not a 1)
      ends false a b ha hb to from =
          ⊎_elim (λ l. let e : a ≡ 0 = omega arith in let f = to e in omega arith)
          (λ l. ⊎_elim (λ m. omega arith)
          (λ m. let e : 1 - b ≡ 0 = omega arith in let f = from e in absurd (omega arith)) (below_or_not b 1))
          (below_or_not a 1)

-- ---- the row
pub row_is : (k : Task) (s : List ℕ) (w n h : ℕ) (o : Outline) (words : List ℕ) (y : ℕ) (v : Strip) (t :
    List ℕ)
    → o.w ≤ most_cells → o.origin.ping.0 < o.w → n ≡ row_bytes OneBit w
    → Found k.grows (turned_by k.grows k.over) s w n h y o.origin.ping.0
    o.origin.bin.0 (λ i. masked_of (get_or words i 0) o.w) o.h v
    → t ≡ pack_of (λ p. cond (ltb p w) (faced_point (not k.grows) (place_at v p)) 0) n
    → t ≡ bit_row k s w h o words y
unfolding bit_row row_of row_byte pack_of
row_is k s w n h o words y v t few column en found e =
    e ∙ ap (λ m. pack_of (λ p. cond (ltb p w) (faced_point (not k.grows) (place_at v p)) 0) m) en
    ∙ firsts_same _ _ (row_bytes OneBit w) (λ i l. digits_same 1 _ _ 8 (λ j m.
    ap (λ q. cond (ltb (i * 8 + j) w) q 0)
    (swept_point k s w n h o words y v few column en found (i * 8 + j))))
