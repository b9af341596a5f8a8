-- The choice of a link and of its origin, case by case.
use Prim.Native.Nat.{ℕ, ◌+◌, ◌-◌, ◌*◌, ◌/◌, ◌%◌, ◌^◌, ◌≤◌}
use mathlib.Core.Path.{◌≡◌, refl, sym, ap, ap₂, ◌∙◌}
use mathlib.Core.Bool.{Bool, true, false, cond, not}
use mathlib.Core.List.{List}
use native.Mathlib.Omega.{arith}
use borrow.Author.Tests.{eq-eqb, ne_eqb}
use lib.Bits.{bit_and}
use lib.Dec.{eqb}
use Rattle.dividing.specs.Board.{is_set, window}
use Rattle.dividing.specs.Divide.{rest_of}
use Rattle.dividing.proofs.Least.{cond_yes, cond_no, least_few, is_none_below}
use Rattle.std.specs.Prelude.{Option, None, is_some, is_none}
use Rattle.dividing.specs.Least.{below}
use Rattle.covering.specs.Cover.{bare, first_bare}
use Rattle.covering.specs.Quarter.{all_cells, quarter, link_quarter}
use Rattle.choosing.specs.Link.{link_no, fits, quarter_suits, suits, origin_for, origin_by, origin_no}

-- ---- a link
pub link_is : (rows : List ℕ) (first last j near far : ℕ)
    → near ≡ window rows (first % 64 + (64 - j % 8)) (first / 64) 8
    → far ≡ window rows (last % 64 + (57 + j / 8 % 8)) (last / 64 % 64 + (57 + j / 64 % 8)) 8
    → bit_and (bit_and near far) (all_cells * 2 ^ (8 * (j / 64 % 8)) % 2 ^ 64) ≡ link_no rows first last j
unfolding link_no
link_is rows first last j near far en ef =
    ap₂ (λ p q. bit_and (bit_and p q) (all_cells * 2 ^ (8 * (j / 64 % 8)) % 2 ^ 64)) en ef

-- ---- whether it fits
module _ (link j : ℕ) (single a b : Bool) (ea : a ≡ is_set link (j % 8)) where
  pub fits_not : a ≡ false → false ≡ fits link j single
  unfolding fits
  fits_not q = sym (cond_no (is_set link (j % 8)) _ false (sym ea ∙ q))

  module _ (eb : b ≡ is_set link (63 - j / 8 % 64)) (t : a ≡ true) where
    pub fits_none : b ≡ false → false ≡ fits link j single
    unfolding fits
    fits_none q =
        sym (cond_yes (is_set link (j % 8)) _ false (sym ea ∙ t)
        ∙ cond_no (is_set link (63 - j / 8 % 64)) _ false (sym eb ∙ q))

    last : Bool
    last = cond (eqb (63 - j / 8 % 64) (j % 8)) false (not (eqb (bit_and link 9259542123273814144) 0))

    both : b ≡ true → fits link j single ≡ cond single true last
    unfolding fits last
    both q =
        cond_yes (is_set link (j % 8)) _ false (sym ea ∙ t)
        ∙ cond_yes (is_set link (63 - j / 8 % 64)) _ false (sym eb ∙ q)

    pub fits_single : b ≡ true → single ≡ true → true ≡ fits link j single
    fits_single q s = sym (both q ∙ cond_yes single true last s)

    pub fits_point : b ≡ true → single ≡ false → 63 - j / 8 % 64 ≡ j % 8 → false ≡ fits link j single
    unfolding last
    fits_point q s e =
        sym (both q ∙ cond_no single true last s
        ∙ cond_yes (eqb (63 - j / 8 % 64) (j % 8)) false _ (eq-eqb _ _ e))

    pub fits_wide : b ≡ true → single ≡ false → ¬ (63 - j / 8 % 64 ≡ j % 8)
        → not (eqb (bit_and link 9259542123273814144) 0) ≡ fits link j single
    unfolding last
    fits_wide q s n =
        sym (both q ∙ cond_no single true last s
        ∙ cond_no (eqb (63 - j / 8 % 64) (j % 8)) false _ (ne_eqb _ _ n))

-- no row is left bare
pub no_bare : (rows : List ℕ) (link a : ℕ) (rest : List ℕ) (r : Option ℕ)
    → r ≡ below 64 (first_bare rows link a rest) → is_none r ≡ eqb (first_bare rows link a rest) 64
unfolding first_bare
no_bare rows link a rest r e =
    is_none_below 64 (first_bare rows link a rest) (least_few (bare rows link a rest) 64 0) r e

-- ---- whether an origin suits
module _ (rows : List ℕ) (column row link a : ℕ) (rest : List ℕ) (o : ℕ) where
  pub quarter_is : (right lower : Bool) (whole part : List ℕ) (cells : ℕ) (r : Option ℕ)
      → whole ≡ quarter rows column row right lower
      → part ≡ quarter rest ((column % 64 + a % 8 + (64 - o % 8)) % 64) ((row % 64 + (64 - o / 8 % 8)) % 64)
      right lower
      → cells ≡ link_quarter link o right lower → r ≡ below 64 (first_bare whole cells a part)
      → (b : Bool) → is_some r ≡ not b
      → b ≡ quarter_suits rows column row link a rest o right lower
  unfolding quarter_suits
  quarter_is right lower whole part cells r ew ep ec er b eb =
      twice b ∙ sym (ap not eb) ∙ no_bare whole cells a part r er
      ∙ ap (λ n. eqb n 64) (ap₂ (λ x y. first_bare x y a part) ew ec
      ∙ ap (first_bare (quarter rows column row right lower) (link_quarter link o right lower) a) ep)
    where
      twice : (b : Bool) → b ≡ not (not b)
      twice true = refl
      twice false = refl

  module _ (p q s : Bool) (ep : p ≡ quarter_suits rows column row link a rest o false false) where
    pub suits_not : p ≡ false → false ≡ suits rows column row link a rest o
    unfolding suits
    suits_not n = sym (cond_no (quarter_suits rows column row link a rest o false false) _ false (sym ep ∙ n))

    module _ (eq : q ≡ quarter_suits rows column row link a rest o true false) (tp : p ≡ true) where
      pub suits_second : q ≡ false → false ≡ suits rows column row link a rest o
      unfolding suits
      suits_second n =
          sym (cond_yes (quarter_suits rows column row link a rest o false false) _ false (sym ep ∙ tp)
          ∙ cond_no (quarter_suits rows column row link a rest o true false) _ false (sym eq ∙ n))

      module _ (es : s ≡ quarter_suits rows column row link a rest o false true) (tq : q ≡ true) where
        pub suits_third : s ≡ false → false ≡ suits rows column row link a rest o
        unfolding suits
        suits_third n =
            sym (cond_yes (quarter_suits rows column row link a rest o false false) _ false (sym ep ∙ tp)
            ∙ cond_yes (quarter_suits rows column row link a rest o true false) _ false (sym eq ∙ tq)
            ∙ cond_no (quarter_suits rows column row link a rest o false true) _ false (sym es ∙ n))

        pub suits_last : (u : Bool) → s ≡ true → u ≡ quarter_suits rows column row link a rest o true true
            → u ≡ suits rows column row link a rest o
        unfolding suits
        suits_last u ts eu =
            eu
            ∙ sym (cond_yes (quarter_suits rows column row link a rest o false false) _ false (sym ep ∙ tp)
            ∙ cond_yes (quarter_suits rows column row link a rest o true false) _ false (sym eq ∙ tq)
            ∙ cond_yes (quarter_suits rows column row link a rest o false true) _ false (sym es ∙ ts))

-- ---- the origin of a link
module _ (rows : List ℕ) (column row first last j link : ℕ) (f : Bool)
    (el : link ≡ link_no rows first last j) (ef : f ≡ fits link j (eqb (first + 4096) last)) where
  -- the definition, of the link as it was computed
  by : origin_by rows column row link (j % 8) (rest_of rows link (j % 8)) f
      ≡ origin_no rows column row first last j
  unfolding origin_no
  by =
      ap (origin_by rows column row link (j % 8) (rest_of rows link (j % 8))) ef
      ∙ ap (λ l. origin_by rows column row l (j % 8) (rest_of rows l (j % 8))
      (fits l j (eqb (first + 4096) last))) el

  pub origin_unfit : f ≡ false → None ≡ below 64 (origin_no rows column row first last j)
  unfolding origin_by below
  origin_unfit n = ap (below 64) (sym (cond_no f _ 64 n) ∙ by)

  module _ (rest : List ℕ) (r : Option ℕ) (t : f ≡ true) (er : rest ≡ rest_of rows link (j % 8))
      (en : r ≡ below 64 (first_bare rows link (j % 8) rest)) where
    whole : eqb (first_bare rows link (j % 8) (rest_of rows link (j % 8))) 64 ≡ is_none r
    whole = ap (λ (r : List ℕ). eqb (first_bare rows link (j % 8) r) 64) (sym er)
        ∙ sym (no_bare rows link (j % 8) rest r en)

    pub origin_bare : is_none r ≡ false → None ≡ below 64 (origin_no rows column row first last j)
    unfolding origin_by below
    origin_bare h =
        ap (below 64) (sym (cond_yes f _ 64 t
        ∙ cond_no (eqb (first_bare rows link (j % 8) (rest_of rows link (j % 8))) 64) _ 64
        (whole ∙ h)) ∙ by)

    pub origin_whole : (o : Option ℕ) → is_none r ≡ true
        → o ≡ below 64 (origin_for rows column row link (j % 8) rest)
        → o ≡ below 64 (origin_no rows column row first last j)
    unfolding origin_by
    origin_whole o h eo =
        eo ∙ ap (below 64) (ap (origin_for rows column row link (j % 8)) er
        ∙ sym (cond_yes f _ 64 t
        ∙ cond_yes (eqb (first_bare rows link (j % 8) (rest_of rows link (j % 8))) 64) _ 64
        (whole ∙ h)) ∙ by)

-- it is a cell of the link, or 64
pub origin_few : (rows : List ℕ) (column row first last j : ℕ) → origin_no rows column row first last j ≤ 64
unfolding origin_no origin_by origin_for
origin_few rows column row first last j =
    by (fits link j (eqb (first + 4096) last)) (eqb (first_bare rows link (j % 8) rest) 64) _
    (least_few (suits rows column row link (j % 8) rest) 64 0)
  where
    link : ℕ
    link = link_no rows first last j

    rest : List ℕ
    rest = rest_of rows link (j % 8)

    by : (f g : Bool) (n : ℕ) → n ≤ 64 → cond f (cond g n 64) 64 ≤ 64
    by true true n h = h
    by true false n h = omega arith
    by false g n h = omega arith
