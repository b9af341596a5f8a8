-- The places of cells in the source, and those of them that another column sees.
use Rattle.std.specs.Prelude.{ℕ, ◌+◌, ◌-◌, ◌*◌, ◌%◌, ◌≤◌, ◌<◌, ◌≡◌, Bool, true, cond, ◌&&◌, List, leb}
use Rattle.std.specs.Prelude.{ltb, length, get_or}
use Rattle.element.specs.declared.Outline.{Outline}
use Rattle.element.specs.Record.{cell_on}

-- how many of n columns, or rows, that of c sees before its own
abbrev pub side_of : Bool → ℕ → ℕ → ℕ
side_of grows n c = cond grows (n - 1 - c) c

-- the cell (c, r) is set
pub record Cell (o : Outline) (words : List ℕ) (c r : ℕ) : Type 0 where
  pub column : c < o.w
  pub row : r < o.h
  pub set : cell_on (get_or words r 0) c ≡ true

-- its place, seen from the first point whose cells all lie in a frame of w columns
abbrev pub spot_of : Bool → ℕ → Outline → ℕ → ℕ → ℕ
spot_of grows w o c r = side_of grows o.h r * w + side_of grows o.w c

-- the place p lies in its row also seen from column x in place of column `back`
unfoldable pub near_of : ℕ → ℕ → ℕ → ℕ → Bool
near_of w back x p = leb back (p % w + x) && ltb (p % w + x - back) w

-- those of the first k places of `at` that do, and no others, are among the first n
pub record Picked (w back x : ℕ) (at : List ℕ) (k n : ℕ) (into : List ℕ) : Type 0 where
  pub long : length into ≡ 16
  pub few : n ≤ k
  pub inside : (i : ℕ) → i < n → (j : ℕ) × ((j < k)
      × ((near_of w back x (get_or at j 0) ≡ true) × (get_or into i 0 ≡ get_or at j 0 + x - back)))
  pub covered : (j : ℕ) → j < k → near_of w back x (get_or at j 0) ≡ true
      → (i : ℕ) × ((i < n) × (get_or into i 0 ≡ get_or at j 0 + x - back))
