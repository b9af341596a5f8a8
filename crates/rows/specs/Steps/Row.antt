-- Rows of a byte for each column, as the cells and the rows of an element are folded into them.
use Rattle.std.specs.Prelude.{ℕ, ◌*◌, ◌≤◌, ◌<◌, ◌≡◌, Bool, cond, ◌&&◌, List, get_or}
use Rattle.basics.specs.Lists.{firsts}
use Rattle.picture.specs.Frame.{most_pings}
use Rattle.picture.specs.Bytes.{Picture}
use Rattle.element.specs.Shape.{Shape}
use Rattle.element.specs.Descriptor.{most_cells}
use Rattle.morphology.specs.Operations.{Change, moved, within}
use Rattle.rows.specs.Steps.Fold.{join_by, plus_by, minus_by, folded_at}

-- the bytes of a row, by column
abbrev pub columns_of : List ℕ → ℕ → ℕ
columns_of s x = get_or s x 0

-- the row t with one cell folded in, if it is set:
-- each column x whose place x + (plus - minus) lies in the row is joined with what s has there
unfoldable pub cell_row : Bool → Change → ℕ → Bool → List ℕ → List ℕ → ℕ → ℕ → ℕ → List ℕ
cell_row grows change g set t s w plus minus =
    firsts
    (λ x.
    cond (set && within w x plus minus)
    (join_by grows (get_or t x 0) (change g (get_or s (moved x plus minus) 0))) (get_or t x 0))
    w

-- the row t with one row of an element folded in, given what the source has in each column
unfoldable pub folded_row : Bool → Change → (ℕ → ℕ) → List ℕ → (ℕ → ℕ) → ℕ → (ℕ → Bool) → ℕ → ℕ → List ℕ
folded_row grows change height t source w has wide o =
    firsts (λ x. folded_at grows change height source w has wide o (get_or t x 0) x) w

-- p + (plus - minus); n where that is not one of 0, 1, .., n - 1
unfoldable pub place_in : ℕ → ℕ → ℕ → ℕ → ℕ
place_in n p plus minus = cond (within n p plus minus) (moved p plus minus) n

-- the source row that row r of an element whose origin
-- row is o leads to from row y; h where the frame has none
unfoldable pub source_row : Bool → ℕ → ℕ → ℕ → ℕ → ℕ
source_row grows h y o r = place_in h y (plus_by grows o r) (minus_by grows o r)

-- row r of the element B folded into the columns t of row y,
-- from the row of A that it leads to, where the frame has that row
unfoldable pub added_row : Bool → Change → ℕ → ℕ → Shape → Picture → ℕ → List ℕ → ℕ → List ℕ
added_row grows change w h B A y t r =
    cond (within h y (plus_by grows B.origin_row r) (minus_by grows B.origin_row r))
    (folded_row grows change (λ c. B.height c r) t
    (λ x. A x (moved y (plus_by grows B.origin_row r) (minus_by grows B.origin_row r)))
    w (λ c. B.has c r) B.wide
    B.origin_column)
    t

-- two rows of w columns, a row of an element, and where its heights begin
pub record RowFit (nt ns w wide o at : ℕ) : Type 0 where
  pub few_pings : w ≤ most_pings
  pub target : nt ≡ w
  pub source : ns ≡ w
  pub few_wide : wide ≤ most_cells
  pub origin_in : o < wide
  pub near : at ≤ most_cells * most_cells
