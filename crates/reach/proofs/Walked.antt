-- A board as a test of its places: the sums X and Y of columns and rows are those of some cells,
-- one from each link so far. With origins that sum to ox and oy, X and Y stand for the place (X + centre
-- - ox, Y + centre - oy). The board of all links holds exactly the places that walks lead to.
use Prim.Native.Nat.{ℕ, ◌+◌, ◌-◌, ◌≤◌, ◌<◌}
use mathlib.Core.Path.{◌≡◌, subst, subst₂}
use mathlib.Core.Bool.{Bool, ◌&&◌}
use mathlib.Core.List.{List, [], ◌∷◌}
use native.Mathlib.Omega.{arith}
use lib.Dec.{T, leb, eqb, leb→le, le→leb, eqb→eq}
use Rattle.answer.specs.Answer.{centre}
use Rattle.element.specs.Shape.{Shape}
use Rattle.morphology.specs.Step.{Place, Step}
use Rattle.morphology.specs.Check.{still, total, back_x, back_y}
use Rattle.basics.specs.Tests.{any}
use Rattle.basics.proofs.Truth.{and_intro, and_parts, three_intro, three_parts}
use Rattle.morphology.proofs.Places.{same_place, Walk}
use Rattle.basics.proofs.Any.{any_intro, any_elim}

abbrev pub Places : Type 0
Places = ℕ → ℕ → Bool

unfoldable pub place_at : ℕ → ℕ → ℕ → ℕ → Place
place_at ox oy X Y = record { x = X + centre - ox; y = Y + centre - oy }

-- before any link
unfoldable pub start_places : Places
start_places X Y = eqb X 0 && eqb Y 0

-- X, Y is reached from X - c, Y - r by a set cell (c, r)
abbrev pub leads : Shape → Places → ℕ → ℕ → ℕ → ℕ → Bool
leads B S X Y r c = B.has c r && (leb c X && (leb r Y && S (X - c) (Y - r)))

-- after one more link, of the places inside
unfoldable pub next_places : (Place → Bool) → ℕ → ℕ → Shape → Places → Places
next_places inside ox oy B S X Y =
    inside (place_at (ox + B.origin_column) (oy + B.origin_row) X Y)
    && any (λ r. any (leads B S X Y r) B.wide) B.high

-- after all links
unfoldable pub places_from : (Place → Bool) → ℕ → ℕ → List Shape → Places → Places
places_from inside ox oy [] S = S
places_from inside ox oy (B ∷ Bs) S =
    places_from inside (ox + B.origin_column) (oy + B.origin_row) Bs (next_places inside ox oy B S)

-- the place p is where X and Y stand
pub record Stands (ox oy X Y : ℕ) (p : Place) : Type 0 where
  pub across : p.x + ox ≡ X + centre
  pub down : p.y + oy ≡ Y + centre

module _ (inside : Place → Bool) where
  abbrev pub Inside : Place → Type 0
  Inside p = T (inside p)

  cell_step : (ox oy : ℕ) (B : Shape) (X Y c r : ℕ) → c < B.wide → r < B.high → T (B.has c r)
      → c ≤ X → r ≤ Y → ox + B.origin_column ≤ centre → oy + B.origin_row ≤ centre
      → Step B (place_at ox oy (X - c) (Y - r)) (place_at (ox + B.origin_column) (oy + B.origin_row) X Y)
  unfolding place_at
  cell_step ox oy B X Y c r lc lr s lx ly hx hy =
      record {
        cell = record { column = c; row = r; in_width = lc; in_height = lr; set = s };
        across = omega arith;
        down = omega arith;
      }

  -- a place of the board comes by a walk from a place of the board before the links
  record Came (Bs : List Shape) (ox oy : ℕ) (S : Places) (q : Place) : Type 0 where
    column : ℕ
    row : ℕ
    set : T (S column row)
    walk : Walk Inside Bs (place_at ox oy column row) q

  places_walk : (Bs : List Shape) (ox oy : ℕ) → ox + back_x Bs ≤ centre → oy + back_y Bs ≤ centre
      → (S : Places) (X Y : ℕ) (q : Place)
      → Stands (ox + back_x Bs) (oy + back_y Bs) X Y q → T (places_from inside ox oy Bs S X Y)
      → Came Bs ox oy S q
  unfolding places_from next_places total place_at
  places_walk [] ox oy hx hy S X Y q e t =
      record { column = X; row = Y; set = t; walk = (omega arith, omega arith) }
  places_walk (B ∷ Bs) ox oy hx hy S X Y q e t =
      let h = places_walk Bs (ox + B.origin_column) (oy + B.origin_row) (omega arith) (omega arith)
      (next_places inside ox oy B S) X Y q (record { across = omega arith; down = omega arith }) t in
      let W = h.column in
      let Z = h.row in
      let k = and_parts (inside (place_at (ox + B.origin_column) (oy + B.origin_row) W Z))
      (any (λ r. any (leads B S W Z r) B.wide) B.high) h.set in
      let j = any_elim (λ r. any (leads B S W Z r) B.wide) B.high k.1 in
      let i = any_elim (leads B S W Z j.0) B.wide j.2 in
      let a = three_parts (B.has i.0 j.0) (leb i.0 W)
      (leb j.0 Z && S (W - i.0) (Z - j.0)) i.2 in
      let b = and_parts (leb j.0 Z) (S (W - i.0) (Z - j.0)) a.2 in
      record {
        column = W - i.0;
        row = Z - j.0;
        set = b.1;
        walk = (
          place_at (ox + B.origin_column) (oy + B.origin_row) W Z,
          cell_step ox oy B W Z i.0 j.0 i.1 j.1 a.0 (leb→le i.0 W a.1)
              (leb→le j.0 Z b.0) (omega arith) (omega arith),
          k.0,
          h.walk,
        );
      }

  -- and the other way round
  walk_places : (Bs : List Shape) (ox oy : ℕ) (S : Places) (W Z X Y : ℕ) (p q : Place)
      → ox + back_x Bs ≤ centre → oy + back_y Bs ≤ centre
      → Stands ox oy W Z p → Stands (ox + back_x Bs) (oy + back_y Bs) X Y q → T (S W Z) → Walk Inside Bs p q
      → T (places_from inside ox oy Bs S X Y)
  unfolding places_from next_places total place_at
  walk_places [] ox oy S W Z X Y p q hx hy e f t w =
      let eu : W ≡ X = omega arith in
      let ev : Z ≡ Y = omega arith in
      subst₂ (λ (u v : ℕ). T (S u v)) eu ev t
  walk_places (B ∷ Bs) ox oy S W Z X Y p q hx hy e f t w =
      let m = w.0 in
      let s = w.1 in
      let c = s.cell.column in
      let r = s.cell.row in
      let M = W + c in
      let N = Z + r in
      let mx : m.x ≡ M + centre - (ox + B.origin_column) = omega arith in
      let my : m.y ≡ N + centre - (oy + B.origin_row) = omega arith in
      let place : m ≡ place_at (ox + B.origin_column) (oy + B.origin_row) M N = same_place mx my in
      let eu : W ≡ M - c = omega arith in
      let ev : Z ≡ N - r = omega arith in
      let next : T (next_places inside ox oy B S M N) =
      and_intro (inside (place_at (ox + B.origin_column) (oy + B.origin_row) M N))
      (any (λ r. any (leads B S M N r) B.wide) B.high)
      (subst (λ (z : Place). T (inside z)) place w.2)
      (any_intro (λ r. any (leads B S M N r) B.wide) B.high r s.cell.in_height
      (any_intro (leads B S M N r) B.wide c s.cell.in_width
      (three_intro (B.has c r) (leb c M) (leb r N && S (M - c) (N - r))
      s.cell.set (le→leb c M (omega arith))
      (and_intro (leb r N) (S (M - c) (N - r)) (le→leb r N (omega arith))
      (subst₂ (λ (u v : ℕ). T (S u v)) eu ev t))))) in
      walk_places Bs (ox + B.origin_column) (oy + B.origin_row)
      (next_places inside ox oy B S) M N X Y m q (omega arith) (omega arith)
      (record { across = omega arith; down = omega arith })
      (record { across = omega arith; down = omega arith }) next w.3

  -- from the start: the board holds X, Y exactly where a walk leads to their place
  module _ (Bs : List Shape) (X Y : ℕ) (q : Place) (hx : back_x Bs ≤ centre)
      (hy : back_y Bs ≤ centre) (e : Stands (back_x Bs) (back_y Bs) X Y q) where
    pub board_walk : T (places_from inside 0 0 Bs start_places X Y) → Walk Inside Bs still q
    unfolding start_places place_at
    board_walk t =
        let h = places_walk Bs 0 0 (omega arith)
        (omega arith) start_places X Y q (record { across = omega arith; down = omega arith }) t in
        let a = and_parts (eqb h.column 0) (eqb h.row 0) h.set in
        let cx : h.column + centre - 0 ≡ centre = omega (arith, eqb→eq h.column 0 a.0) in
        let cy : h.row + centre - 0 ≡ centre = omega (arith, eqb→eq h.row 0 a.1) in
        subst₂ (λ (u v : ℕ). Walk Inside Bs (record { x = u; y = v }) q) cx cy h.walk

    pub walk_board : Walk Inside Bs still q → T (places_from inside 0 0 Bs start_places X Y)
    unfolding start_places
    walk_board w =
        walk_places Bs 0 0 start_places 0 0 X Y still q (omega arith)
        (omega arith) (record { across = omega arith; down = omega arith })
        (record { across = omega arith; down = omega arith }) tt w
