-- The loops over the columns and rows of a link,
-- the rows of a board, and the links: nothing done, one more, all.
use Prim.Native.Nat.{ℕ, zero, suc, ◌+◌, ◌-◌, ◌*◌, ◌/◌, ◌%◌, ◌^◌, ◌≤◌, ◌<◌}
use mathlib.Core.Path.{◌≡◌, refl, sym, ap, ap₂, ◌∙◌, subst}
use mathlib.Core.Bool.{Bool, true, false, cond}
use mathlib.Core.List.{List, [], ◌∷◌, ◌++◌, append-nil}
use native.Mathlib.Omega.{arith}
use native.Mathlib.Nat.{zero-mul, one-mul, mod-eq_of_lt, not-suc-le-zero, le_of_suc-le-suc}
use native.Mathlib.Numerals.{add-one}
use lib.ListN.{length, get_or, take, drop, replicate, drop_of_length-le}
use lib.Seq.{drop-cons, get_or-take, length-take-le}
use lib.Pow.{pow-lt, pow_pos}
use lib.Bits.{bit_or, bit_and, or_zero_r}
use lib.Dec.{eqb}
use borrow.Author.Tests.{le-leb, lt-leb, lt-ltb, le-ltb}
use Rattle.answer.specs.Answer.{centre}
use Rattle.basics.proofs.Flags.{low_on}
use Rattle.reach.specs.declared.Offset.{Offset}
use Rattle.basics.specs.Lists.{firsts}
use Rattle.reach.specs.declared.Link.{Link}
use Rattle.element.specs.Descriptor.{most_cells}
use Rattle.element.specs.Record.{cell_on, shape_of}
use Rattle.morphology.specs.Chain.{Fits, AllFit, most_link_cells, most_links}
use Rattle.morphology.specs.Check.{back_x, back_y, total}
use Rattle.reach.specs.declared.Cut.{Cut}
use Rattle.reach.specs.declared.Bounds.{Bounds}
use Rattle.reach.specs.declared.Sum.{Sum}
use Rattle.reach.specs.Steps.Words.{sums, moved_of, spread_of, line_of}
use Rattle.reach.specs.Steps.Words.{row_of, mask_of, cut_row, step_of, Cutting}
use Rattle.reach.specs.Steps.Links.{link_shape, shapes_of, empty_link}
use Rattle.reach.specs.Steps.Boards.{cut_of, start_of, onward_of, words_from, board_of, holds_of, Small}

-- ---- columns
pub spread_none : (acc line cells : ℕ) → acc ≡ spread_of acc line cells 0
unfolding spread_of
spread_none acc line cells = refl

pub spread_more : (acc line cells c a m : ℕ) → a ≡ spread_of acc line cells c → m ≡ moved_of line cells c
    → bit_or a m ≡ spread_of acc line cells (c + 1)
unfolding spread_of
spread_more acc line cells c a m e e' = ap₂ bit_or e e'
    ∙ ap (λ n. spread_of acc line cells n) (sym (add-one c))

pub spread_all : (acc line cells c w a : ℕ) → a ≡ spread_of acc line cells c → c ≡ w
    → a ≡ spread_of acc line cells w
spread_all acc line cells c w a e n = e ∙ ap (λ k. spread_of acc line cells k) n

-- an empty row word adds nothing
pub spread_nothing : (acc cells n : ℕ) → acc ≡ spread_of acc 0 cells n
unfolding spread_of moved_of
spread_nothing acc cells zero = refl
spread_nothing acc cells (suc n) =
    sym (ap₂ bit_or (sym (spread_nothing acc cells n)) (by (cell_on cells n)) ∙ or_zero_r acc)
  where
    by : (t : Bool) → cond t (0 * 2 ^ n % 2 ^ 64) 0 ≡ 0
    by true = ap (λ x. x % 2 ^ 64) (zero-mul (2 ^ n))
    by false = refl

pub spread_empty : (acc line cells n : ℕ) → line ≡ 0 → acc ≡ spread_of acc line cells n
spread_empty acc line cells n e = spread_nothing acc cells n ∙ ap (λ l. spread_of acc l cells n) (sym e)

-- ---- rows
pub row_none : (board cells : List ℕ) (w y : ℕ) → 0 ≡ row_of board cells w y 0
unfolding row_of
row_none board cells w y = refl

pub row_more : (board cells : List ℕ) (w y r a line v : ℕ) → a ≡ row_of board cells w y r
    → line ≡ line_of board y r
    → v ≡ spread_of a line (get_or cells r 0) w → v ≡ row_of board cells w y (r + 1)
unfolding row_of
row_more board cells w y r a line v e e' e'' =
    e'' ∙ ap₂ (λ s t. spread_of s t (get_or cells r 0) w) e e'
    ∙ ap (λ n. row_of board cells w y n) (sym (add-one r))

pub row_all_lem : (board cells : List ℕ) (w y r h a : ℕ) → a ≡ row_of board cells w y r → r ≡ h
    → a ≡ row_of board cells w y h
row_all_lem board cells w y r h a e n = e ∙ ap (λ k. row_of board cells w y k) n

-- ---- the mask: `1 << n`
shift_one : (n : ℕ) → n ≤ sums → 1 * 2 ^ n % 2 ^ 64 ≡ 2 ^ n
shift_one n h = ap (λ x. x % 2 ^ 64) (one-mul (2 ^ n)) ∙ mod-eq_of_lt (pow-lt {i = n} {j = 64} (omega arith))

pub shift_one_pos : (n : ℕ) → n ≤ sums → 1 ≤ 1 * 2 ^ n % 2 ^ 64
shift_one_pos n h = subst (λ x. 1 ≤ x) (sym (shift_one n h)) (pow_pos n)

pub mask_is : (left right : ℕ) → right ≤ sums
    → (1 * 2 ^ right % 2 ^ 64 - 1) / 2 ^ left * 2 ^ left % 2 ^ 64 ≡ mask_of left right
unfolding mask_of
mask_is left right h = ap (λ n. (n - 1) / 2 ^ left * 2 ^ left % 2 ^ 64) (shift_one right h)

-- ---- the rows of a board
-- a row above the cut, one below it, and one of its rows
module _ (board cells : List ℕ) (w h m : ℕ) (cut : Cut) (y : ℕ) where
  pub above_cut : y < cut.top → 0 ≡ cut_row board cells w h m cut y
  unfolding cut_row
  above_cut l = simp (lt-leb cut.top y l)

  module _ (t : cut.top ≤ y) where
    pub below_cut : cut.bottom ≤ y → 0 ≡ cut_row board cells w h m cut y
    unfolding cut_row
    below_cut l = simp (le-leb cut.top y t, le-ltb y cut.bottom l)

    pub in_cut : (v : ℕ) → y < cut.bottom → v ≡ row_of board cells w y h
        → bit_and v m ≡ cut_row board cells w h m cut y
    unfolding cut_row
    in_cut v l e = simp (e, le-leb cut.top y t, lt-ltb y cut.bottom l)

pub step_all : (board cells : List ℕ) (w h m y : ℕ) (cut : Cut) (l : List ℕ)
    → m ≡ mask_of cut.left cut.right → y ≡ sums
    → l ≡ firsts (cut_row board cells w h m cut) y ++ replicate (sums - y) 0 → l ≡ step_of board cells w h cut
unfolding step_of
step_all board cells w h m y cut l e q so =
    so ∙ ap₂ (λ a b. firsts (cut_row board cells w h m cut) a ++ replicate b 0) q (none y q)
    ∙ append-nil (firsts (cut_row board cells w h m cut) sums)
    ∙ ap (λ m. firsts (cut_row board cells w h m cut) sums) e
  where
    none : (y : ℕ) → y ≡ sums → sums - y ≡ 0
    none y q = omega arith

pub cut_in : (o : Sum) (m : Bounds) (cut : Cut) → cut ≡ cut_of o m → Cutting cut
unfolding cut_of
cut_in o m cut e = subst Cutting (sym e) (record { left_high = omega arith; right_high = omega arith })

-- ---- the offset of a place of the board
module _ (words : List ℕ) (o : Sum) (e : Offset) where
  pub off_left : e.x + o.column < centre → false ≡ holds_of words o e
  unfolding holds_of
  off_left h = simp (lt-leb centre (e.x + o.column) h)

  module _ (l : centre ≤ e.x + o.column) where
    pub off_top : e.y + o.row < centre → false ≡ holds_of words o e
    unfolding holds_of
    off_top h = simp (le-leb centre (e.x + o.column) l, lt-leb centre (e.y + o.row) h)

    module _ (t : centre ≤ e.y + o.row) where
      pub off_right : sums ≤ e.x + o.column - centre → false ≡ holds_of words o e
      unfolding holds_of
      off_right h = simp (
        le-leb centre (e.x + o.column) l,
        le-leb centre (e.y + o.row) t,
        le-ltb (e.x + o.column - centre) sums h,
      )

      module _ (r : e.x + o.column - centre < sums) where
        pub off_bottom : sums ≤ e.y + o.row - centre → false ≡ holds_of words o e
        unfolding holds_of
        off_bottom h =
            simp (
              le-leb centre (e.x + o.column) l,
              le-leb centre (e.y + o.row) t,
              lt-ltb (e.x + o.column - centre) sums r,
              le-ltb (e.y + o.row - centre) sums h,
            )

        pub on_board : e.y + o.row - centre < sums
            → eqb (bit_and (get_or words (e.y + o.row - centre) 0 / 2 ^ (e.x + o.column - centre)) 1) 1
            ≡ holds_of words o e
        unfolding holds_of
        on_board h =
            simp (
              le-leb centre (e.x + o.column) l,
              le-leb centre (e.y + o.row) t,
              lt-ltb (e.x + o.column - centre) sums r,
              lt-ltb (e.y + o.row - centre) sums h,
            )
            (low_on (get_or words (e.y + o.row - centre) 0 / 2 ^ (e.x + o.column - centre)))

-- ---- the links

-- the origins of links of at most 8 by 8 sum to little
pub origins_low : (es : List Link) → AllFit most_link_cells (shapes_of es)
    → (back_x (shapes_of es) ≤ 7 * length es) × (back_y (shapes_of es) ≤ 7 * length es)
unfolding total shape_of
origins_low [] f = (omega arith, omega arith)
origins_low (e ∷ es) f = let h = origins_low es f.1 in let g = f.0 in (omega arith, omega arith)

pub fit_at : (es : List Link) (i : ℕ) → i < length es → AllFit most_link_cells (shapes_of es)
    → Fits most_link_cells (link_shape (get_or es i empty_link))
fit_at [] i l f = absurd (not-suc-le-zero l)
fit_at (e ∷ es) zero l f = f.0
fit_at (e ∷ es) (suc i) l f = fit_at es i (le_of_suc-le-suc l) f.1

-- the links from link i on give the rest of the board:
-- with the words and the origins so far they lead to the whole
pub record Rest (m : Bounds) (es : List Link) (words : List ℕ) (column row i : ℕ) : Type 0 where
  pub to_words : words_from m column row (drop i es) words ≡ words_from m 0 0 es start_of
  pub to_column : column + back_x (shapes_of (drop i es)) ≡ back_x (shapes_of es)
  pub to_row : row + back_y (shapes_of (drop i es)) ≡ back_y (shapes_of es)

pub rest_start : (m : Bounds) (es : List Link) (words : List ℕ) → words ≡ start_of → Rest m es words 0 0 0
rest_start m es words e =
    record { to_words = ap (words_from m 0 0 es) e; to_column = zero_plus _; to_row = zero_plus _ }
  where
    zero_plus : (n : ℕ) → 0 + n ≡ n
    zero_plus n = omega arith

pub rest_all : (m : Bounds) (es : List Link) (words : List ℕ) (column row i : ℕ)
    → Rest m es words column row i → length es ≤ i
    → record { words = words; origin = record { column = column; row = row } } ≡ board_of m es
unfolding board_of words_from total
rest_all m es words column row i r l =
    let d : drop i es ≡ [] = drop_of_length-le es l in
    let w : words ≡ words_from m 0 0 es start_of =
    sym (ap (λ t. words_from m column row t words) d) ∙ r.to_words in
    let x : column ≡ back_x (shapes_of es) =
    sym (plus_zero column) ∙ sym (ap (λ t. column + back_x (shapes_of t)) d) ∙ r.to_column in
    let y : row ≡ back_y (shapes_of es) =
    sym (plus_zero row) ∙ sym (ap (λ t. row + back_y (shapes_of t)) d) ∙ r.to_row in
    λ j. record { words = w j; origin = record { column = x j; row = y j } }
  where
    plus_zero : (n : ℕ) → n + 0 ≡ n
    plus_zero n = omega arith

module _ (links : List Link) (k : ℕ) (i : ℕ) (few : k ≤ length links) (more : i < k) where
  long : length (take k links) ≡ k
  long = length-take-le k links few

  link_is : get_or (take k links) i empty_link ≡ get_or links i empty_link
  link_is = get_or-take k links i empty_link more

  rest_is : drop i (take k links) ≡ get_or links i empty_link ∷ drop (i + 1) (take k links)
  rest_is =
      drop-cons (take k links) i empty_link (subst (λ n. i < n) (sym long) more)
      ∙ ap₂ (λ e n. e ∷ drop n (take k links)) link_is (sym (add-one i))

  fit_here : AllFit most_link_cells (shapes_of (take k links))
      → Fits most_link_cells (link_shape (get_or links i empty_link))
  fit_here f =
      subst (λ e. Fits most_link_cells (link_shape e)) link_is
      (fit_at (take k links) i (subst (λ n. i < n) (sym long) more) f)

  pub narrow_here : AllFit most_link_cells (shapes_of (take k links))
      → let o = (get_or links i empty_link).outline in (o.w ≤ most_cells) × (o.h ≤ most_link_cells)
  unfolding shape_of
  narrow_here f = let g = fit_here f in (omega arith, omega arith)

  module _ (m : Bounds) (words next : List ℕ) (column row : ℕ)
      (r : Rest m (take k links) words column row i) where
    pub rest_more : next ≡ onward_of words (get_or links i empty_link) (record {
      column = column + (get_or links i empty_link).outline.origin.ping.0;
      row = row + (get_or links i empty_link).outline.origin.bin.0;
    }) m
        → Rest m (take k links) next (column + (get_or links i empty_link).outline.origin.ping.0)
        (row + (get_or links i empty_link).outline.origin.bin.0) (i + 1)
    unfolding words_from total shape_of
    rest_more e =
        record {
          to_words =
              ap (words_from m _ _ (drop (i + 1) (take k links))) e
              ∙ sym (ap (λ t. words_from m column row t words) rest_is) ∙ r.to_words;
          to_column = further column _ _ ∙ sym (ap (λ t. column + back_x (shapes_of t)) rest_is)
              ∙ r.to_column;
          to_row = further row _ _ ∙ sym (ap (λ t. row + back_y (shapes_of t)) rest_is) ∙ r.to_row;
        }
      where
        further : (a b c : ℕ) → a + b + c ≡ a + (b + c)
        further a b c = omega arith

    -- so far the origins sum to no more than all of them
    pub rest_small : AllFit most_link_cells (shapes_of (take k links)) → k ≤ most_links
        → Small (record {
          column = column + (get_or links i empty_link).outline.origin.ping.0;
          row = row + (get_or links i empty_link).outline.origin.bin.0;
        })
    unfolding total shape_of
    rest_small f l =
        let b = origins_low (take k links) f in
        let x = ap (λ t. column + back_x (shapes_of t)) rest_is in
        let y = ap (λ t. row + back_y (shapes_of t)) rest_is in
        record {
          column_low = omega (arith, long, x, y, r.to_column);
          row_low = omega (arith, long, x, y, r.to_row);
        }
