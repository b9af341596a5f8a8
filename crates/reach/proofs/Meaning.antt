-- What the boards tell: the board of all sums holds exactly the sums of the chain,
-- and the board of what lies between 0 and an offset holds it exactly when a path leads to it.
use Prim.Native.Nat.{ℕ, suc, ◌+◌, ◌-◌, ◌*◌, ◌≤◌, ◌<◌}
use mathlib.Core.Path.{◌≡◌, refl, sym, ap, ◌∙◌, subst}
use mathlib.Core.Bool.{Bool, true, false, ◌&&◌}
use mathlib.Core.Logic.{◌⊎◌, inl, inr, ⊎_elim}
use mathlib.Core.List.{List, [], ◌∷◌}
use native.Mathlib.Omega.{arith}
use native.Mathlib.Decide.{dec_le, dec_lt}
use borrow.Author.Tests.{le-leb, lt-leb, lt-ltb, le-ltb}
use lib.Dec.{T, leb, ltb, le→leb}
use lib.ListN.{length, take, length-take}
use Rattle.answer.specs.Answer.{centre}
use Rattle.reach.specs.declared.Link.{Link}
use Rattle.element.specs.Shape.{Shape}
use Rattle.morphology.specs.Step.{Place}
use Rattle.morphology.specs.Chain.{AllFit, most_link_cells, most_links}
use Rattle.morphology.specs.Check.{still, between_test, sum_test, path_test, total, back_x, back_y}
use Rattle.morphology.specs.Check.{forth_x, forth_y}
use Rattle.basics.proofs.Truth.{and_intro}
use Rattle.morphology.proofs.Places.{Walk}
use Rattle.morphology.proofs.Tests.{walk_sound, walk_complete, sum_sound, sum_complete}
use Rattle.morphology.proofs.Scan.{walk_range}
use Rattle.morphology.proofs.Walks.{weaken, Near, near_all}
use Rattle.reach.specs.declared.Bounds.{Bounds}
use Rattle.reach.specs.declared.Sum.{Sum}
use Rattle.reach.specs.declared.Offset.{Offset}
use Rattle.reach.specs.declared.Board.{Board}
use Rattle.reach.specs.Steps.Words.{sums}
use Rattle.reach.specs.Steps.Links.{shapes_of, place_of, OneByte, Linked}
use Rattle.reach.specs.Steps.Boards.{start_of, words_from, board_of, everywhere_of}
use Rattle.reach.specs.Steps.Boards.{between_of, holds_of, InBytes, Small}
use Rattle.reach.proofs.Walked.{Places, start_places, places_from, Stands, board_walk, walk_board}
use Rattle.reach.proofs.Bits.{places_in, in_bounds, words_agree}

same_test : (a b : Bool) → (T a → T b) → (T b → T a) → a ≡ b
same_test true true f g = refl
same_test true false f g = absurd (f tt)
same_test false true f g = absurd (g tt)
same_test false false f g = refl

fails : (b : Bool) → (T b → ⊥) → false ≡ b
fails true f = absurd (f tt)
fails false f = refl

-- the links' origins, and how far they lead in all, are at most 7 a link
short_span : (Bs : List Shape) → AllFit most_link_cells Bs
    → (back_x Bs + forth_x Bs ≤ 7 * length Bs) × (back_y Bs + forth_y Bs ≤ 7 * length Bs)
unfolding total
short_span [] f = (omega arith, omega arith)
short_span (B ∷ Bs) f = let h = short_span Bs f.1 in let g = f.0 in (omega arith, omega arith)

-- a board whose places are S tells of an offset what S says of its place
module _ (words : List ℕ) (o : Sum) (e : Offset) (S : Places) (b : Bool)
    (agree : (X Y : ℕ) → X < sums → Y < sums → places_in words X Y ≡ S X Y)
    (on_board : (X Y : ℕ) → Stands o.column o.row X Y (place_of e)
    → (X < sums → Y < sums → S X Y ≡ b) × ((sums ≤ X) ⊎ (sums ≤ Y) → false ≡ b))
    (off-board : (e.x + o.column < centre) ⊎ (e.y + o.row < centre) → false ≡ b) where
  holds_is : holds_of words o e ≡ b
  unfolding holds_of
  holds_is =
      by (dec_le centre (e.x + o.column)) (dec_le centre (e.y + o.row))
      (dec_lt (e.x + o.column - centre) sums) (dec_lt (e.y + o.row - centre) sums)
    where
      X : ℕ
      X = e.x + o.column - centre

      Y : ℕ
      Y = e.y + o.row - centre

      by : Dec (centre ≤ e.x + o.column) → Dec (centre ≤ e.y + o.row)
          → Dec (e.x + o.column - centre < sums) → Dec (e.y + o.row - centre < sums)
          → (leb centre (e.x + o.column)
          && (leb centre (e.y + o.row)
          && (ltb (e.x + o.column - centre) sums && (ltb (e.y + o.row - centre) sums
          && places_in words (e.x + o.column - centre) (e.y + o.row - centre))))) ≡ b
      by (yes l) (yes t) (yes r) (yes d) =
          simp (
            le-leb centre (e.x + o.column) l,
            le-leb centre (e.y + o.row) t,
            lt-ltb (e.x + o.column - centre) sums r,
            lt-ltb (e.y + o.row - centre) sums d,
          )
          (agree _ _ r d ∙ (on_board _ _ (record { across = omega arith; down = omega arith })).0 r d)
      by (yes l) (yes t) (yes r) (no d) =
          simp (
            le-leb centre (e.x + o.column) l,
            le-leb centre (e.y + o.row) t,
            lt-ltb (e.x + o.column - centre) sums r,
            le-ltb (e.y + o.row - centre) sums (omega arith),
          )
          ((on_board (e.x + o.column - centre) (e.y + o.row - centre)
          (record { across = omega arith; down = omega arith })).1 (inr (omega arith)))
      by (yes l) (yes t) (no r) d =
          simp (
            le-leb centre (e.x + o.column) l,
            le-leb centre (e.y + o.row) t,
            le-ltb (e.x + o.column - centre) sums (omega arith),
          )
          ((on_board (e.x + o.column - centre) (e.y + o.row - centre)
          (record { across = omega arith; down = omega arith })).1 (inl (omega arith)))
      by (yes l) (no t) r d =
          simp (le-leb centre (e.x + o.column) l, lt-leb centre (e.y + o.row) (omega arith))
          (off-board (inr (omega arith)))
      by (no l) t r d = simp (lt-leb centre (e.x + o.column) (omega arith)) (off-board (inl (omega arith)))

module _ (es : List Link) (few : length es ≤ most_links) (small : AllFit most_link_cells (shapes_of es)) where
  shapes_long : (es : List Link) → length (shapes_of es) ≡ length es
  shapes_long [] = refl
  shapes_long (e ∷ es) = ap suc (shapes_long es)

  span : (back_x (shapes_of es) + forth_x (shapes_of es) ≤ 35)
      × (back_y (shapes_of es) + forth_y (shapes_of es) ≤ 35)
  span = let s = short_span (shapes_of es) small in let n = shapes_long es in (omega arith, omega arith)

  pub origin_small : Small (record { column = back_x (shapes_of es); row = back_y (shapes_of es) })
  origin_small = let s = span in record { column_low = omega arith; row_low = omega arith }

  -- a test that holds exactly where a walk leads whose places lie in the box
  module _ (m : Bounds) (e : Offset) (b : Bool)
      (to : T b → Walk (λ p. T (in_bounds m p)) (shapes_of es) still (place_of e))
      (from : Walk (λ p. T (in_bounds m p)) (shapes_of es) still (place_of e) → T b) where
    far : ((e.x + back_x (shapes_of es) < centre) ⊎ (e.y + back_y (shapes_of es) < centre))
        ⊎ ((back_x (shapes_of es) + forth_x (shapes_of es) + centre < e.x + back_x (shapes_of es))
        ⊎ (back_y (shapes_of es) + forth_y (shapes_of es) + centre < e.y + back_y (shapes_of es)))
        → false ≡ b
    far off =
        fails b (λ t. let r = walk_range (λ p. T (in_bounds m p))
        most_link_cells (shapes_of es) still (place_of e) small (to t) in
        ⊎_elim (λ k. ⊎_elim (λ h. omega arith) (λ h. omega arith) k)
        (λ k. ⊎_elim (λ h. omega arith) (λ h. omega arith) k) off)

    holds_walk : holds_of (words_from m 0 0 es start_of)
        (record { column = back_x (shapes_of es); row = back_y (shapes_of es) }) e
        ≡ b
    holds_walk =
        let s = span in
        holds_is (words_from m 0 0 es start_of)
        (record { column = back_x (shapes_of es); row = back_y (shapes_of es) })
        e (places_from (in_bounds m) 0 0 (shapes_of es) start_places) b
        (words_agree m es (omega arith) (omega arith))
        (λ X Y st. (
          λ hx hy. same_test _ b (λ t.
              from (board_walk (in_bounds m) (shapes_of es) X Y (place_of e) (omega arith) (omega arith) st
              t))
              (λ t. walk_board (in_bounds m) (shapes_of es) X Y (place_of e)
              (omega arith) (omega arith) st (to t)),
          λ out. far (inr (⊎_elim (λ h. inl (omega arith)) (λ h. inr (omega arith)) out)),
        ))
        (λ out. far (inl out))

  -- every place that a walk comes to lies within all bounds
  near_in : (p : Place) → Near (7 * length (shapes_of es)) still p → T (in_bounds everywhere_of p)
  unfolding in_bounds
  near_in p n =
      let l = shapes_long es in
      and_intro (leb 0 p.x && leb p.x 255) (leb 0 p.y && leb p.y 255)
      (and_intro (leb 0 p.x) (leb p.x 255)
      (le→leb 0 p.x (omega arith)) (le→leb p.x 255 (omega arith)))
      (and_intro (leb 0 p.y) (leb p.y 255)
      (le→leb 0 p.y (omega arith)) (le→leb p.y 255 (omega arith)))

  pub holds_sum : (e : Offset)
      → holds_of (board_of everywhere_of es).words (board_of everywhere_of es).origin e
      ≡ sum_test (shapes_of es) (place_of e)
  unfolding board_of
  holds_sum e =
      holds_walk everywhere_of e (sum_test (shapes_of es) (place_of e))
      (λ t. weaken (λ p. Unit {0} × Near (7 * length (shapes_of es)) still p)
      (λ p. T (in_bounds everywhere_of p)) (λ p h. near_in p h.1) (shapes_of es) still (place_of e)
      (near_all (λ p. Unit {0})
      (shapes_of es) still (place_of e) small (sum_sound (shapes_of es) (place_of e) t)))
      (λ w. sum_complete (shapes_of es) (place_of e) (weaken (λ p. T (in_bounds everywhere_of p))
      (λ p. Unit {0}) (λ p h. tt) (shapes_of es) still (place_of e) w))

  pub holds_path : (e : Offset)
      → holds_of (board_of (between_of e) es).words (board_of (between_of e) es).origin e
      ≡ path_test (shapes_of es) (place_of e)
  unfolding board_of between_of in_bounds path_test between_test
  holds_path e =
      holds_walk (between_of e) e (path_test (shapes_of es) (place_of e))
      (walk_sound (in_bounds (between_of e)) (λ p. T (in_bounds (between_of e) p))
      (λ p h. h) (shapes_of es) still (place_of e))
      (walk_complete (in_bounds (between_of e)) (λ p. T (in_bounds (between_of e) p))
      (λ p h. h) (shapes_of es) still (place_of e))

-- ---- of the first k links
module _ (links : List Link) (k : ℕ) (p : Linked links k) where
  few_taken : length (take k links) ≤ most_links
  few_taken = let l = p.few in omega (arith, length-take k links)

  pub board_small : (m : Bounds) (b : Board) → b ≡ board_of m (take k links) → Small b.origin
  unfolding board_of
  board_small m b e =
      subst (λ (b : Board). Small b.origin) (sym e) (origin_small (take k links) few_taken p.small)

  pub path_told : (m : Bounds) (b : Board) (e : Offset) (r : Bool) → m ≡ between_of e
      → b ≡ board_of m (take k links) → r ≡ holds_of b.words b.origin e
      → r ≡ path_test (shapes_of (take k links)) (place_of e)
  path_told m b e r em eb er =
      er ∙ ap (λ (b : Board). holds_of b.words b.origin e) (eb ∙ ap (λ m. board_of m (take k links)) em)
      ∙ holds_path (take k links) few_taken p.small e

  pub sum_told : (b : Board) (e : Offset) → b ≡ board_of everywhere_of (take k links)
      → holds_of b.words b.origin e ≡ sum_test (shapes_of (take k links)) (place_of e)
  sum_told b e eb =
      ap (λ (b : Board). holds_of b.words b.origin e) eb
      ∙ holds_sum (take k links) few_taken p.small e

pub everywhere_in : (m : Bounds) → m ≡ everywhere_of → InBytes m
everywhere_in m e =
    subst InBytes (sym e)
    (record {
      left_high = omega arith;
      right_high = omega arith;
      top_high = omega arith;
      bottom_high = omega arith;
    })

pub between_in : (m : Bounds) (e : Offset) → m ≡ between_of e → OneByte e → InBytes m
unfolding between_of
between_in m e q h =
    subst InBytes (sym q)
    (record {
      left_high = omega arith;
      right_high = omega arith;
      top_high = omega arith;
      bottom_high = omega arith;
    })
