-- The links of the box's candidate: descriptors that are well made, and the parts of the box.
use Prim.Native.Nat.{ℕ, ◌+◌, ◌-◌, ◌*◌, ◌/◌, ◌%◌, ◌≤◌, ◌<◌, min, max}
use mathlib.Core.Path.{◌≡◌, refl, sym, ap, ap₂, ◌∙◌, subst}
use mathlib.Core.Bool.{Bool, true, false, cond, ◌&&◌}
use mathlib.Core.List.{List}
use mathlib.Core.Logic.{◌⊎◌, inl, inr, ⊎_elim}
use native.Mathlib.Omega.{arith}
use borrow.Author.Tests.{le-leb, lt-ltb, eq-eqb, eqb-true, lt-leb}
use lib.Dec.{T, leb, eqb}
use lib.ListN.{length, get_or}
use lib.Pow.{shr_le}
use lib.Seq.{get_or-drop}
use Rattle.basics.specs.Bits.{bit}
use Rattle.basics.specs.Tests.{all}
use Rattle.basics.proofs.Lists.{length_firsts, get_d_firsts}
use Rattle.basics.proofs.Tests.{all_at}
use Rattle.picture.specs.declared.Depth.TheVariants.{OneBit}
use Rattle.picture.specs.Points.{value_at, value_in}
use Rattle.picture.specs.Bytes.{padding_clear}
use Rattle.picture.proofs.Padding.{zero_clear}
use Rattle.element.specs.Descriptor.{most_cells, wide_of, high_of, origin_column_of, origin_row_of, cells_of}
use Rattle.element.specs.Descriptor.{cells_end}
use Rattle.element.specs.Descriptor.{head_made, cells_made, well_made, shape_in}
use Rattle.chain.specs.Reading.{small}
use Rattle.hulls.specs.declared.Hull.{Hull}
use Rattle.candidates.specs.declared.Try.{Try}
use Rattle.candidates.specs.Candidates.{part, run_byte, row_with, row_byte, link_byte, link_bytes, length_of}
use Rattle.candidates.proofs.Numbers.{byte_wide, byte_high, byte_column, byte_row_lem, byte_boxed}
use Rattle.candidates.proofs.Numbers.{row_above, row_below, row_in}
use Rattle.chainlaw.proofs.Parts.{part_few, le_or}
use Rattle.chainlaw.proofs.Walks.{PartOf}

-- the candidate of a box
abbrev pub box : Try
box = record { side = 7; origin = 7; cut = 0; own = false }

-- ---- one row

-- the cells from f to l of a row's byte: 8 times 8 times 8 of them
runs : Bool
runs = all (λ f. all (λ l. all (λ x. eqb (bit (run_byte f l) (7 - x)) (cond
    (leb f x && leb x l) 1 0)) 8) 8) 8

all_runs : runs ≡ true
unfolding runs run_byte all
all_runs = refl

run_bit : (f l x : ℕ) → f < 8 → l < 8 → x < 8 → bit (run_byte f l) (7 - x) ≡ cond (leb f x && leb x l) 1 0
unfolding runs
run_bit f l x hf hl hx =
    eqb-true _ _ (all_at _ 8 (all_at _ 8 (all_at _ 8 all_runs f hf) l hl) x hx)

-- a point of rows of one byte each
value_small : (l : List ℕ) (w x y : ℕ) → 1 ≤ w → w ≤ 8 → x < 8
    → value_at OneBit l w x y ≡ bit (get_or l y 0) (7 - x)
unfolding value_at value_in
value_small l w x y a b h = ap₂ (λ i j. bit (get_or l i 0) (7 - j)) (index w x y a b h) (column x h)
  where
    one : (w : ℕ) → 1 ≤ w → w ≤ 8 → (w + 7) / 8 ≡ 1
    one w a b = omega arith

    none : (x : ℕ) → x < 8 → x / 8 ≡ 0
    none x h = omega arith

    index : (w x y : ℕ) → 1 ≤ w → w ≤ 8 → x < 8 → y * ((w + 7) / 8) + x / 8 ≡ y
    index w x y a b h = ap₂ (λ n m. y * n + m) (one w a b) (none x h) ∙ plain y
      where
        plain : (y : ℕ) → y * 1 + 0 ≡ y
        plain y = omega arith

    column : (x : ℕ) → x < 8 → x % 8 ≡ x
    column x h = omega arith

-- ---- one link
module _ (H : Hull) (ox : H.across.origin ≤ H.across.span) (lx : H.across.last ≤ H.across.span)
    (fx : H.across.first ≤ H.across.last)
    (oy : H.down.origin ≤ H.down.span) (ly : H.down.last ≤ H.down.span)
    (fy : H.down.first ≤ H.down.last) (i : ℕ) where
  b : List ℕ
  b = link_bytes H box i

  w : ℕ
  w = min 7 H.across.span + 1

  h : ℕ
  h = min 7 H.down.span + 1

  w_few : (1 ≤ w) × (w ≤ 8)
  unfolding w
  w_few = (omega arith, omega arith)

  h_few : (1 ≤ h) × (h ≤ 8)
  unfolding h
  h_few = (omega arith, omega arith)

  long : length b ≡ 4 + h
  unfolding b h link_bytes length_of
  long = length_firsts (link_byte H box i) (4 + (min 7 H.down.span + 1))

  byte : (j : ℕ) → j < 4 + h → get_or b j 0 ≡ link_byte H box i j
  unfolding b h link_bytes length_of
  byte j q = get_d_firsts (link_byte H box i) (4 + (min 7 H.down.span + 1)) j (omega (arith, q))

  wide_is : wide_of b ≡ w
  unfolding w
  wide_is = byte 0 (omega arith) ∙ byte_wide H box i 0 refl

  high_is : high_of b ≡ h
  unfolding h
  high_is = byte 1 (omega arith) ∙ byte_high H box i 1 refl

  column_is : origin_column_of b ≡ part 7 H.across.origin i
  column_is = byte 2 (omega arith) ∙ byte_column H box i 2 refl

  row_is : origin_row_of b ≡ part 7 H.down.origin i
  row_is = byte 3 (omega arith) ∙ byte_row_lem H box i 3 refl

  part_in : (x n : ℕ) → x ≤ n → part 7 x i < min 7 n + 1
  unfolding part
  part_in x n q = omega arith

  -- row y
  cell_byte : (y : ℕ) → y < h → get_or (cells_of b) y 0 ≡ row_byte H box i y
  cell_byte y q =
      get_or-drop 4 b y 0 ∙ byte (4 + y) (omega (arith, q)) ∙ byte_boxed H box i (4 + y) (omega arith) refl
      ∙ ap (row_byte H box i) (back y)
    where
      back : (y : ℕ) → 4 + y - 4 ≡ y
      back y = omega arith

  u : ℕ
  u = part 7 H.down.first i

  l : ℕ
  l = part 7 H.down.last i

  f : ℕ
  f = part 7 H.across.first i

  t : ℕ
  t = part 7 H.across.last i

  uncut : (x : ℕ) → part 0 x i ≡ 0
  unfolding part
  uncut x = omega arith

  plain_row : (y : ℕ) → row_byte H box i y ≡ row_with u l f t 0 0 0 0 y
  unfolding row_byte u l f t
  plain_row y =
      λ j. row_with (part 7 H.down.first i) (part 7 H.down.last i) (part 7 H.across.first i)
      (part 7 H.across.last i) (uncut H.nw j) (uncut H.ne j) (uncut H.sw j) (uncut H.se j) y

  inside_row : (y : ℕ) → u ≤ y → y ≤ l → row_byte H box i y ≡ run_byte f t
  inside_row y a c =
      plain_row y ∙ row_in u l f t 0 0 0 0 y a c
      ∙ ap₂ run_byte (from f (y - u) (l - y)) (to t (y - u) (l - y))
    where
      from : (f m n : ℕ) → f + max (0 - m) (0 - n) ≡ f
      from f m n = omega arith

      to : (t m n : ℕ) → t - max (0 - m) (0 - n) ≡ t
      to t m n = omega arith

  value : (x y : ℕ) → x < 8 → y < h
      → value_at OneBit (cells_of b) (wide_of b) x y ≡ bit (row_byte H box i y) (7 - x)
  value x y hx hy =
      value_small (cells_of b) (wide_of b) x y (omega (arith, wide_is, w_few.0)) (omega
      (arith, wide_is, w_few.1)) hx
      ∙ ap (λ n. bit n (7 - x)) (cell_byte y hy)

  zero_bit : (k : ℕ) → bit 0 k ≡ 0
  zero_bit k = omega (arith, shr_le 0 k)

  -- a cell is set exactly inside the box
  cell_in : (x y : ℕ) → x < 8 → y < h → f ≤ x → x ≤ t → u ≤ y → y ≤ l
      → value_at OneBit (cells_of b) (wide_of b) x y ≡ 1
  unfolding f t
  cell_in x y hx hy a c d e =
      value x y hx hy ∙ ap (λ n. bit n (7 - x)) (inside_row y d e)
      ∙ run_bit f t x (omega (arith, part_few H.across.first i)) (omega (
        arith,
        part_few
            H.across.last i,
      )) hx
      ∙ ap₂ (λ p q. cond (p && q) 1 0) (le-leb f x a) (le-leb x t c)

  cell_out : (x y : ℕ) → x < 8 → y < h → (x < f) ⊎ (t < x) ⊎ (y < u) ⊎ (l < y)
      → value_at OneBit (cells_of b) (wide_of b) x y ≡ 0
  unfolding f t
  cell_out x y hx hy o =
      value x y hx hy
      ∙ ⊎_elim (λ a. ap (λ n. bit n (7 - x)) (plain_row y ∙ row_above u l f t 0 0 0 0 y a)
      ∙ zero_bit (7 - x))
      (λ a. ⊎_elim
      (λ c. ap (λ n. bit n (7 - x)) (plain_row y ∙ row_below u l f t 0 0 0 0 y a c) ∙ zero_bit (7 - x))
      (λ c. ap (λ n. bit n (7 - x)) (inside_row y a c)
      ∙ run_bit f t x (omega (arith, part_few H.across.first i)) (omega (
        arith,
        part_few
            H.across.last i,
      )) hx
      ∙ aside a c o)
      (lt_or l y))
      (lt_or y u)
    where
      lt_or : (m n : ℕ) → (m < n) ⊎ (n ≤ m)
      lt_or m n = ⊎_elim inr inl (le_or n m)

      aside : u ≤ y → y ≤ l → (x < f) ⊎ (t < x) ⊎ (y < u) ⊎ (l < y)
          → ◌≡◌ {A = ℕ} (cond (leb f x && leb x t) 1 0) 0
      aside a c (inl p) = ap (λ q. cond (q && leb x t) 1 0) (lt-leb f x p)
      aside a c (inr (inl p)) = ap (λ q. cond (leb f x && q) 1 0) (lt-leb x t p) ∙ off (leb f x)
        where
          off : (q : Bool) → ◌≡◌ {A = ℕ} (cond (q && false) 1 0) 0
          off true = refl
          off false = refl
      aside a c (inr (inr (inl p))) = absurd (omega (arith, a, p))
      aside a c (inr (inr (inr p))) = absurd (omega (arith, c, p))

  -- ---- it is well made
  t_in : t < w
  unfolding t w
  t_in = part_in H.across.last H.across.span lx

  clear : padding_clear OneBit (cells_of b) (wide_of b) (high_of b) ≡ true
  clear =
      zero_clear (cells_of b) (wide_of b) (high_of b) (omega (arith, wide_is, w_few.0))
      (λ x y a c d. cell_out x y (narrow (wide_of b) x (omega (arith, wide_is, w_few.1)) c) (omega
      (arith, d, high_is))
      (inr (inl (omega (arith, t_in, wide_is, a)))))
    where
      narrow : (w x : ℕ) → w ≤ 8 → x / 8 < (w + 7) / 8 → x < 8
      narrow w x a c = omega arith

  head : head_made (wide_of b) (high_of b) (origin_column_of b) (origin_row_of b) ≡ true
  unfolding head_made w h
  head =
      let p = part_in H.across.origin H.across.span ox in
      let q = part_in H.down.origin H.down.span oy in
      ap₂ (λ m n. m && n)
      (ap₂ (λ m n. m && n)
      (ap₂ (λ m n. m && n) (le-leb 1 (wide_of b) (omega (arith, wide_is))) (le-leb (wide_of b) most_cells
      (omega (arith, wide_is))))
      (ap₂ (λ m n. m && n) (le-leb 1 (high_of b) (omega (arith, high_is))) (le-leb (high_of b) most_cells
      (omega (arith, high_is)))))
      (ap₂ (λ m n. m && n) (lt-ltb (origin_column_of b) (wide_of b) (omega (arith, wide_is, column_is, p)))
      (lt-ltb (origin_row_of b) (high_of b) (omega (arith, high_is, row_is, q))))

  ends : length b ≡ cells_end (wide_of b) (high_of b)
  ends = long ∙ ap (λ n. 4 + n) (rows (wide_of b) (high_of b) h (omega (arith, wide_is, w_few.0))
      (omega (arith, wide_is, w_few.1)) high_is)
    where
      rows : (w n h : ℕ) → 1 ≤ w → w ≤ 8 → n ≡ h → h ≡ n * ((w + 7) / 8)
      rows w n h a c e = sym (ap (λ m. n * m) (one w a c) ∙ times n ∙ e)
        where
          one : (w : ℕ) → 1 ≤ w → w ≤ 8 → (w + 7) / 8 ≡ 1
          one w a b = omega arith

          times : (n : ℕ) → n * 1 ≡ n
          times n = omega arith

  pub link_made : well_made (link_bytes H box i) ≡ true
  unfolding well_made cells_made b
  link_made =
      ap₂ (λ m n. m && n)
      (ap₂ (λ m n. m && n) (ap₂ (λ m n. m && n) (le-leb 4 (length b) (omega (arith, long))) head)
      (ap₂ (λ m n. m && n) (le-leb (cells_end (wide_of b) (high_of b)) (length b) (le_of ends)) clear))
      (eq-eqb (length b) (cells_end (wide_of b) (high_of b)) ends)
    where
      le_of : {m n : ℕ} → m ≡ n → n ≤ m
      le_of e = omega (arith, e)

  pub link_small : small (wide_of (link_bytes H box i)) (high_of (link_bytes H box i)) ≡ true
  unfolding b
  link_small =
      ap₂ (λ m n. m && n) (le-leb (wide_of b) 8 (omega (arith, wide_is, w_few.1)))
      (le-leb (high_of b) 8 (omega (arith, high_is, h_few.1)))

  -- and the part i of the box
  pub link_part : PartOf H.across H.down i (shape_in (link_bytes H box i))
  unfolding shape_in b w h f t u l
  link_part =
      record {
        column = column_is;
        row = row_is;
        wide = omega (arith, t_here, wide_is);
        high = omega (arith, l_here, high_is);
        set = λ x y a c d e. on x y
            (cell_in x y (omega (arith, c, part_few H.across.last i)) (omega (arith, e, l_here))
            (here a c d e).0
            (here a c d e).1 (here a c d e).2 (here a c d e).3);
        unset = λ x y a c s. within x y (omega (arith, a, wide_is, w_few.1)) (omega (arith, c, high_is)) s;
      }
    where
      t_here : part 7 H.across.last i < w
      t_here = part_in H.across.last H.across.span lx

      l_here : part 7 H.down.last i < h
      l_here = part_in H.down.last H.down.span ly

      here : {x y : ℕ} → part 7 H.across.first i ≤ x → x ≤ part 7 H.across.last i
          → part 7 H.down.first i ≤ y → y ≤ part 7 H.down.last i
          → (f ≤ x) × (x ≤ t) × (u ≤ y) × (y ≤ l)
      here a c d e = (a, c, d, e)

      on : (x y : ℕ) → value_at OneBit (cells_of b) (wide_of b) x y ≡ 1
          → T (eqb (value_at OneBit (cells_of b) (wide_of b) x y) 1)
      on x y e = subst (λ n. T (eqb n 1)) (sym e) tt

      not_on : (x y : ℕ) → value_at OneBit (cells_of b) (wide_of b) x y ≡ 0
          → T (eqb (value_at OneBit (cells_of b) (wide_of b) x y) 1) → ⊥
      not_on x y e s = absurd (subst (λ n. T (eqb n 1)) e s)

      within : (x y : ℕ) → x < 8 → y < h → T (eqb (value_at OneBit (cells_of b) (wide_of b) x y) 1)
          → (part 7 H.across.first i ≤ x) × (x ≤ part 7 H.across.last i)
          × (part 7 H.down.first i ≤ y) × (y ≤ part 7 H.down.last i)
      within x y hx hy s = (
        ⊎_elim (λ p. p) (λ p. absurd (not_on x y (cell_out x y hx hy (inl p)) s)) (le_or (part 7
            H.across.first i) x),
        ⊎_elim (λ p. p) (λ p. absurd (not_on x y (cell_out x y hx hy (inr (inl p))) s)) (le_or x
            (part 7 H.across.last i)),
        ⊎_elim (λ p. p) (λ p. absurd (not_on x y (cell_out x y hx hy (inr (inr (inl p)))) s)) (le_or
            (part 7 H.down.first i) y),
        ⊎_elim (λ p. p) (λ p. absurd (not_on x y (cell_out x y hx hy (inr (inr (inr p)))) s)) (le_or y
            (part 7 H.down.last i)),
      )
