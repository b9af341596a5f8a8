-- The points of a packed row, row after row of an element, are the definition's.
use Prim.Native.Nat.{ℕ, ◌+◌, ◌-◌, ◌*◌, ◌/◌, ◌%◌, ◌≤◌, ◌<◌}
use mathlib.Core.Path.{◌≡◌, refl, sym, ap, ap₂, ◌∙◌}
use mathlib.Core.Bool.{Bool, true, false, cond}
use mathlib.Core.List.{List}
use mathlib.Core.Logic.{⊎_elim}
use native.Mathlib.Omega.{arith}
use native.Mathlib.Nat.{add-sub_cancel_left}
use native.Mathlib.Numerals.{add-one}
use lib.ListN.{length, get_or, drop}
use lib.Seq.{get_or-take, get_or-drop}
use borrow.Rule.Slice.PartMut.{mid_of}
use borrow.Author.Tests.{lt-ltb, le-ltb}
use Rattle.basics.specs.Bits.{bit}
use Rattle.basics.specs.Lists.{firsts}
use Rattle.basics.proofs.Lists.{get_d_firsts}
use Rattle.basics.proofs.SliceParts.{below_or_not}
use Rattle.picture.specs.declared.Depth.TheVariants.{OneBit}
use Rattle.picture.specs.Frame.{frame, row_bytes}
use Rattle.picture.specs.Points.{value_at, value_in}
use Rattle.picture.specs.Bytes.{Picture, turned, faced}
use Rattle.element.specs.declared.Outline.{Outline}
use Rattle.element.specs.Descriptor.{most_cells}
use Rattle.element.specs.Shape.{Shape}
use Rattle.element.specs.Record.{cell_on, shape_by, shape_of}
use Rattle.morphology.specs.Operations.{flat, moved}
use Rattle.rows.specs.Steps.Fold.{start_by, plus_by, minus_by, folded_at}
use Rattle.rows.specs.Steps.Row.{source_row}
use Rattle.rows.proofs.Places.{place_in_lem, place_out}
use Rattle.rows.proofs.Fold.{folded_same}
use Rattle.rows.proofs.Gathered.{rows_at, rows_at_none, rows_at_more, rows_at_all}
use Rattle.blocks.specs.Steps.Points.{point_of}
use Rattle.blocks.proofs.Points.{point_lt}
use Rattle.packedline.specs.Steps.Cells.{cell_on64}
use Rattle.packedline.specs.Steps.Line.{faced_point, point_folded, line_of}
use Rattle.packedline.proofs.Margins.{neutral_bit}
use Rattle.packedline.proofs.Folded.{pack_point, folded_lt}
use Rattle.bitrow.specs.declared.Task.{Task}
use Rattle.bitrow.specs.Steps.Row.{face_if, swept_bits}
use Rattle.bitrow.specs.Steps.Added.{masked_of, row_in, added_from, added_bits}
use Rattle.bitrow.proofs.Cells.{masked_on, masked_off, fewer_cells}

-- ---- the points of a source row, as they are or turned over
seen : (over : Bool) (s : List ℕ) (w v n u : ℕ) → n ≡ row_bytes OneBit w → u < w
    → faced_point over (point_of (row_in n s v) u) ≡ faced OneBit (face_if over) s w u v
unfolding point_of faced value_at value_in
seen over s w v n u e h =
    ap (λ b. faced_point over (bit b (7 - u % 8)))
    (get_or-take n (drop (v * n) s) (u / 8) 0 (omega arith) ∙ get_or-drop (v * n) s (u / 8) 0
    ∙ ap (λ m. get_or s (v * m + u / 8) 0) e)
    ∙ face over (bit (get_or s (v * ((w + 7) / 8) + u / 8) 0) (7 - u % 8))
  where
    face : (over : Bool) (b : ℕ) → faced_point over b ≡ turned (face_if over) 1 b
    face true b = refl
    face false b = refl

module _ (k : Task) (s : List ℕ) (w h : ℕ) (o : Outline) (words : List ℕ) (y : ℕ) where
  abbrev A : Picture
  A = faced OneBit (face_if k.over) s w

  abbrev B : Shape
  B = shape_by o words

  -- point x of row y after the first n rows of the element
  abbrev after : ℕ → ℕ → ℕ
  after n x = rows_at k.grows flat 1 (frame w h) B A x y n

  -- the points of t in the row are these; what stands in its padding is free
  abbrev pub Made : ℕ → List ℕ → Type 0
  Made n t = (x : ℕ) → x < w → point_of t x ≡ after n x

  pub made_none : (t : List ℕ) (n : ℕ) → n ≡ row_bytes OneBit w → t ≡ firsts (λ x. start_by k.grows 255) n
      → Made 0 t
  unfolding point_of
  made_none t n e q x l =
      ap (λ b. bit b (7 - x % 8))
      (ap (λ m. get_or m (x / 8) 0) q ∙ get_d_firsts (λ x. start_by k.grows 255) n (x / 8) (omega arith))
      ∙ neutral_bit k.grows (7 - x % 8) (omega arith)
      ∙ sym (rows_at_none k.grows flat 1 (frame w h) B A x y)

  -- row n of the element folded into t from the source row v
  abbrev line : List ℕ → ℕ → ℕ → List ℕ
  line t n v =
      line_of k.over k.grows t (row_in (length t) s v) w (masked_of (get_or words n 0) o.w)
      o.origin.ping.0

  -- ---- one row of the element, as the code adds it from the source row v
  module _ (t : List ℕ) (n v : ℕ) (ev : v ≡ source_row k.grows h y o.origin.bin.0 n) where
    pub row_none : h ≤ v → t ≡ added_bits k s w h o words y t n
    unfolding added_from added_bits
    row_none l =
        ap (λ b. cond b (line t n v) t) (sym (le-ltb v h l))
        ∙ ap (added_from k s w h o (get_or words n 0) t) ev

    pub row_some : (u : List ℕ) (W : ℕ) (g : Bool) → v < h → W ≡ masked_of (get_or words n 0) o.w → g
        ≡ k.grows
        → u ≡ line_of k.over g t
        (mid_of (v * length t) (v * length t + length t - v * length t) s) w W o.origin.ping.0
        → u ≡ added_bits k s w h o words y t n
    unfolding added_from added_bits
    row_some u W g l eW eg e =
        e ∙ ap₂ (λ m W. line_of k.over g t (mid_of (v * length t) m s) w W o.origin.ping.0)
        (add-sub_cancel_left (v * length t) (length t)) eW
        ∙ ap (λ g. line_of k.over g t (row_in (length t) s v) w (masked_of (get_or words n 0) o.w)
        o.origin.ping.0) eg
        ∙ ap (λ b. cond b (line t n v) t) (sym (lt-ltb v h l))
        ∙ ap (added_from k s w h o (get_or words n 0) t) ev

  -- ---- one row of the element more
  module _ (few : o.w ≤ most_cells) (n : ℕ) (t : List ℕ) (len : length t ≡ row_bytes OneBit w)
      (before : Made n t) where
    abbrev plus : ℕ
    plus = plus_by k.grows o.origin.bin.0 n

    abbrev minus : ℕ
    minus = minus_by k.grows o.origin.bin.0 n

    abbrev word : ℕ
    word = get_or words n 0

    abbrev v : ℕ
    v = source_row k.grows h y o.origin.bin.0 n

    -- what it finds from column x in the source row v, joined into q
    abbrev found : ℕ → ℕ → ℕ → ℕ
    found v q x =
        folded_at k.grows flat (λ c. B.height c n) (λ u. A u v) w (λ c. B.has c n) o.w
        o.origin.ping.0 q x

    line_finds : (v x : ℕ) → x < w → point_of (line t n v) x ≡ found v (point_of t x) x
    unfolding line_of point_folded shape_of
    line_finds v x l =
        let W = masked_of word o.w in
        let from = row_in (length t) s v in
        let c = o.origin.ping.0 in
        pack_point (λ x. point_folded k.over k.grows from w W c (point_of t x) x) (length t)
        (λ x. folded_lt k.over k.grows from w W c (point_of t x) x (point_lt t x)) x (omega arith)
        ∙ ap (λ m. folded_at k.grows flat (λ c. 0) (λ u. faced_point k.over (point_of from u)) w
        (cell_on64 W) m c (point_of t x) x) (whole o.w few)
        ∙ fewer_cells k.grows flat (λ c. 0) (λ u. faced_point k.over (point_of from u)) w (cell_on64 W)
        (cell_on word) o.w (64 - o.w) c (point_of t x) x
        (λ c l. masked_on word o.w c few l) (λ c l m. masked_off word o.w c l (omega arith))
        ∙ folded_same k.grows flat w (cell_on word) o.w c (λ c. 0) (λ c. 0) _ (λ u. A u v)
        (λ c l. refl) (λ u l. seen k.over s w v (length t) u len l) (point_of t x) x
      where
        whole : (n : ℕ) → n ≤ most_cells → 64 ≡ n + (64 - n)
        whole n h = omega arith

    abbrev next : ℕ → Bool → ℕ
    next x b = cond b (found (moved y plus minus) (after n x) x) (after n x)

    pub made_more : (u : List ℕ) → u ≡ added_bits k s w h o words y t n → Made (n + 1) u
    unfolding added_bits added_from source_row shape_of
    made_more u e x l =
        ⊎_elim
        (λ j. let q = place_in_lem h y plus minus v refl j in
        ap (λ m. point_of m x) (e ∙ ap (λ b. cond b (line t n v) t) (lt-ltb v h j))
        ∙ line_finds v x l ∙ ap₂ (λ n m. found n m x) q.1 (before x l) ∙ ap (next x) (sym q.0))
        (λ j. ap (λ m. point_of m x) (e ∙ ap (λ b. cond b (line t n v) t) (le-ltb v h j))
        ∙ before x l ∙ ap (next x) (sym (place_out h y plus minus v refl j)))
        (below_or_not v h)
        ∙ sym (ap (λ m. after m x) (add-one n) ∙ rows_at_more k.grows flat 1 (frame w h) B A x y n)

  -- ---- after all of them it is the definition's
  pub made_points : (n : ℕ) (t : List ℕ) → n ≡ o.h → Made n t
      → (x : ℕ) → x < w → point_of t x ≡ swept_bits k s w h o words x y
  unfolding swept_bits shape_of
  made_points n t e made x l =
      made x l ∙ ap (λ m. after m x) e ∙ rows_at_all k.grows flat 1 (frame w h) B A x y
