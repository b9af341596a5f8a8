-- What the rows of an element find in the rows of a narrow picture.
use Rattle.std.specs.Prelude.{ℕ, ◌+◌, ◌-◌, ◌*◌, ◌≤◌, ◌<◌, min, ◌≡◌, Bool, true, cond, not, List, get_or}
use Rattle.packedline.specs.Steps.Cells.{cell_on64, place_of}
use Rattle.rows.specs.Steps.Fold.{plus_by, minus_by}
use Rattle.narrow.specs.Steps.Strip.{row_place}

-- an erosion is the dilation of what is turned over, turned over
abbrev pub turned_by : Bool → Bool → Bool
turned_by grows over = cond grows over (not over)

-- the rows of an element from r on, before e, are the same
pub record SameRows (words : List ℕ) (r h e : ℕ) : Type 0 where
  pub some : r < e
  pub few : e ≤ h
  pub same : (i : ℕ) → r ≤ i → i < e → get_or words i 0 ≡ get_or words r 0

-- the source rows that rows r to e - 1 of an element with the origin row o lead to from row y:
-- the first, and the one past the last
abbrev pub first_row : Bool → ℕ → ℕ → ℕ → ℕ → ℕ
first_row grows y o r e = cond grows (y + o + 1 - e) (y + r - o)

abbrev pub end_row : Bool → ℕ → ℕ → ℕ → ℕ → ℕ → ℕ
end_row grows h y o r e = min (cond grows (y + o + 1 - r) (y + e - o)) h

-- rows from `from` on, before `end`, have no point at place p
abbrev pub NoRow : Bool → List ℕ → ℕ → ℕ → ℕ → ℕ → ℕ → Type 0
NoRow over s w n from end p =
    (v : ℕ) → from ≤ v → v < end → row_place over s (v * n) w p ≡ 0

-- row i of an element, with the row word `word`, meets no point from row y, place p
abbrev pub RowUnmet : Bool → Bool → List ℕ → ℕ → ℕ → ℕ → ℕ → ℕ → ℕ → ℕ → ℕ → ℕ → Type 0
RowUnmet grows over s w n h y column bin word i p =
    (v d : ℕ) → v < h → v + minus_by grows bin i ≡ y + plus_by grows bin i → d < 64 → cell_on64 word d ≡ true
    → row_place over s (v * n) w (p + place_of grows column d) ≡ 0
