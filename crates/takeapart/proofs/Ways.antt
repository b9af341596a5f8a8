-- The search, step by step.
use Prim.Native.Nat.{ℕ, zero, suc, ◌+◌, ◌-◌, ◌*◌, ◌/◌, ◌%◌, ◌^◌, ◌≤◌, ◌<◌, min}
use mathlib.Core.Path.{◌≡◌, refl, sym, ap, ap₂, ◌∙◌}
use mathlib.Core.Bool.{Bool, true, false, cond}
use mathlib.Core.List.{List}
use native.Mathlib.Omega.{arith}
use native.Mathlib.Numerals.{add-one}
use native.Mathlib.Nat.{not-suc-le-zero}
use borrow.Author.Tests.{eq-eqb, ne_eqb, lt-ltb, le-ltb}
use lib.Dec.{eqb, ltb}
use lib.ListN.{get_or, set}
use Rattle.dividing.specs.Board.{first_cell, last_cell}
use Rattle.dividing.specs.Divide.{rest_of}
use Rattle.dividing.proofs.Least.{cond_yes, cond_no}
use Rattle.choosing.specs.Link.{link_no, origin_no}
use Rattle.takeapart.specs.declared.Board.{Board}
use Rattle.takeapart.specs.declared.Way.{Way}
use Rattle.takeapart.specs.Walk.{after, board_at, pick_from, ended, forth, back, onward_by, onward}
use Rattle.takeapart.specs.Walk.{walk_from}
use Rattle.takeapart.specs.Sum.{sum_byte}

-- ---- what is left
pub after_is : (b : Board) (link a o : ℕ) (r : List ℕ) → r ≡ rest_of b.rows link a
    → record {
      rows = r;
      column = (b.column % 64 + a % 8 + (64 - o % 8)) % 64;
      row = (b.row % 64 + (64 - o / 8 % 8)) % 64;
    } ≡ after b.rows b.column b.row link a o
unfolding after
after_is b link a o r e =
    ap (λ (q : List ℕ). record {
      rows = q;
      column = (b.column % 64 + a % 8 + (64 - o % 8)) % 64;
      row = (b.row % 64 + (64 - o / 8 % 8)) % 64;
    }) e

module _ (b : Board) (w : Way) (i : ℕ) (at : Board) where
  pub board_more : (next : Board) → at ≡ board_at b w i
      → next ≡ after at.rows at.column at.row (get_or w.links (i % 6) 0)
      (get_or w.picks (i % 6) 0) (get_or w.origins (i % 6) 0)
      → next ≡ board_at b w (i + 1)
  unfolding board_at
  board_more next e f =
      f ∙ ap (λ (x : Board). after x.rows x.column x.row (get_or w.links (i % 6) 0)
      (get_or w.picks (i % 6) 0) (get_or w.origins (i % 6) 0)) e
      ∙ ap (board_at b w) (sym (add-one i))

  pub board_all : (n : ℕ) → at ≡ board_at b w i → i ≡ n → at ≡ board_at b w n
  board_all n e q = e ∙ ap (board_at b w) q

-- ---- whether it ended
module _ (b : Board) (first last : ℕ) (ef : first ≡ first_cell b.rows) where
  module _ (el : last ≡ last_cell b.rows) where
    single : (t : Bool) → eqb (first + 4096) last ≡ t
        → eqb (first_cell b.rows + 4096) (last_cell b.rows) ≡ t
    single t q = sym (ap₂ (λ x y. eqb (x + 4096) y) ef el) ∙ q

    pub ended_more : ¬ (first + 4096 ≡ last) → false ≡ ended b
    unfolding ended
    ended_more n = sym (cond_no _ _ false (single false (ne_eqb _ _ n)))

    pub ended_beside : first + 4096 ≡ last → ¬ (first % 64 ≡ b.column) → false ≡ ended b
    unfolding ended
    ended_beside e n =
        sym (cond_yes _ _ false (single true (eq-eqb _ _ e))
        ∙ cond_no (eqb (first_cell b.rows % 64) b.column) _ false
        (sym (ap (λ x. eqb (x % 64) b.column) ef) ∙ ne_eqb (first % 64) b.column n))

    pub ended_there : first + 4096 ≡ last → first % 64 ≡ b.column → eqb (first / 64) b.row ≡ ended b
    unfolding ended
    ended_there e c =
        ap (λ x. eqb (x / 64) b.row) ef
        ∙ sym (cond_yes _ _ false (single true (eq-eqb _ _ e))
        ∙ cond_yes (eqb (first_cell b.rows % 64) b.column) _ false
        (sym (ap (λ x. eqb (x % 64) b.column) ef) ∙ eq-eqb (first % 64) b.column c))

-- ---- the links to choose from, of the cells as they were found
pub tried : (b : Board) (first last o j : ℕ) → first ≡ first_cell b.rows → last ≡ last_cell b.rows
    → o ≡ origin_no b.rows b.column b.row first last j
    → o ≡ origin_no b.rows b.column b.row (first_cell b.rows) (last_cell b.rows) j
tried b first last o j ef el eo =
    eo ∙ ap₂ (λ x y. origin_no b.rows b.column b.row x y j) ef el

-- ---- forth and back
pub forth_is : (b : Board) (w : Way) (j first last l o : ℕ) → first ≡ first_cell b.rows
    → last ≡ last_cell b.rows → l ≡ link_no b.rows first last j
    → o ≡ origin_no b.rows b.column b.row first last j
    → record {
      picks = set (set w.picks (w.depth % 6) j) ((w.depth % 6 + 1) % 6) 0;
      links = set w.links (w.depth % 6) l;
      origins = set w.origins (w.depth % 6) o;
      depth = w.depth % 6 + 1;
    } ≡ forth b w j
unfolding forth
forth_is b w j first last l o ef el e f =
    ap₂ (λ x y. record {
      picks = set (set w.picks (w.depth % 6) j) ((w.depth % 6 + 1) % 6) 0;
      links = set w.links (w.depth % 6) x;
      origins = set w.origins (w.depth % 6) y;
      depth = w.depth % 6 + 1;
    }) (e ∙ ap₂ (λ x y. link_no b.rows x y j) ef el) (tried b first last o j ef el f)

pub back_none : (w : Way) → w.depth ≡ 0 → w ≡ back w
unfolding back
back_none w e = sym (cond_yes (eqb w.depth 0) w _ (eq-eqb _ _ e))

pub back_one : (w : Way) (m : ℕ) → ¬ (w.depth ≡ 0)
    → m ≡ min (get_or w.picks ((w.depth - 1) % 6) 0) 512
    → record {
      picks = set w.picks ((w.depth - 1) % 6) (m + 1);
      links = w.links;
      origins = w.origins;
      depth = w.depth - 1;
    } ≡ back w
unfolding back
back_one w m n e =
    ap (λ x. record {
      picks = set w.picks ((w.depth - 1) % 6) (x + 1);
      links = w.links;
      origins = w.origins;
      depth = w.depth - 1;
    }) e ∙ sym (cond_no (eqb w.depth 0) w _ (ne_eqb _ _ n))

-- ---- one step
module _ (b : Board) (w r : Way) where
  module _ (j : ℕ) (ej : j ≡ pick_from b (get_or w.picks (w.depth % 6) 0)) (h : w.depth < 5) where
    step : onward_by b w j ≡ onward b w
    unfolding onward
    step =
        ap (onward_by b w) ej ∙ sym (cond_yes (ltb w.depth 5) _ (back w) (lt-ltb _ _ h))

    pub onward_forth : j < 512 → r ≡ forth b w j → r ≡ onward b w
    unfolding onward_by
    onward_forth l e = e ∙ sym (cond_yes (ltb j 512) (forth b w j) (back w) (lt-ltb _ _ l)) ∙ step

    pub onward_none : 512 ≤ j → r ≡ back w → r ≡ onward b w
    unfolding onward_by
    onward_none l e = e ∙ sym (cond_no (ltb j 512) (forth b w j) (back w) (le-ltb _ _ l)) ∙ step

  pub onward_back : 5 ≤ w.depth → r ≡ back w → r ≡ onward b w
  unfolding onward
  onward_back h e = e ∙ sym (cond_no (ltb w.depth 5) _ (back w) (le-ltb _ _ h))

-- ---- all steps
module _ (b : Board) (w : Way) (at : Board) (t : Bool) (ea : at ≡ board_at b w w.depth)
    (et : t ≡ ended at) where
  over : (s : Bool) → t ≡ s → ended (board_at b w w.depth) ≡ s
  over s e = sym (ap ended ea) ∙ sym et ∙ e

  pub walk_here : (n : ℕ) → t ≡ true → walk_from b w n ≡ w
  unfolding walk_from
  walk_here zero e = refl
  walk_here (suc n) e = cond_yes (ended (board_at b w w.depth)) w _ (over true e)

  pub walk_more : (i m : ℕ) (next : Way) → i < m → t ≡ false → next ≡ onward at w
      → walk_from b w (m - i) ≡ walk_from b next (m - (i + 1))
  unfolding walk_from
  walk_more i m next h e f =
      ap (walk_from b w) (more i m h)
      ∙ cond_no (ended (board_at b w w.depth)) w _ (over false e)
      ∙ ap (λ (x : Board). walk_from b (onward x w) (m - (i + 1))) (sym ea)
      ∙ ap (λ (x : Way). walk_from b x (m - (i + 1))) (sym f)
    where
      more : (i m : ℕ) → i < m → m - i ≡ suc (m - (i + 1))
      more i m h = omega arith

pub walk_end : (b : Board) (w : Way) (i m : ℕ) → m ≤ i → walk_from b w (m - i) ≡ w
unfolding walk_from
walk_end b w i m h = ap (walk_from b w) (none i m h)
  where
    none : (i m : ℕ) → m ≤ i → m - i ≡ 0
    none i m h = omega arith

-- ---- bytes
module _ (w : Way) (n : ℕ) where
  pub byte_size : n % 12 < 2 → 8 ≡ sum_byte w n
  unfolding sum_byte
  byte_size h = sym (cond_yes (ltb (n % 12) 2) 8 _ (lt-ltb _ _ h))

  module _ (h : 2 ≤ n % 12) where
    pub byte_column : n % 12 ≡ 2 → get_or w.origins (n / 12 % 6) 0 % 8 ≡ sum_byte w n
    unfolding sum_byte
    byte_column e =
        sym (cond_no (ltb (n % 12) 2) 8 _ (le-ltb _ _ h) ∙ cond_yes (eqb (n % 12) 2) _ _ (eq-eqb _ _ e))

    module _ (two : ¬ (n % 12 ≡ 2)) where
      pub byte_row_lem : n % 12 ≡ 3 → get_or w.origins (n / 12 % 6) 0 / 8 % 8 ≡ sum_byte w n
      unfolding sum_byte
      byte_row_lem e =
          sym (cond_no (ltb (n % 12) 2) 8 _ (le-ltb _ _ h) ∙ cond_no (eqb (n % 12) 2) _ _ (ne_eqb _ _ two)
          ∙ cond_yes (eqb (n % 12) 3) _ _ (eq-eqb _ _ e))

      pub byte_cells : ¬ (n % 12 ≡ 3)
          → get_or w.links (n / 12 % 6) 0 * 2 ^ (8 * (n % 12 - 4)) % 2 ^ 64 / 2 ^ 56 ≡ sum_byte w n
      unfolding sum_byte
      byte_cells e =
          sym (cond_no (ltb (n % 12) 2) 8 _ (le-ltb _ _ h) ∙ cond_no (eqb (n % 12) 2) _ _ (ne_eqb _ _ two)
          ∙ cond_no (eqb (n % 12) 3) _ _ (ne_eqb _ _ e))
