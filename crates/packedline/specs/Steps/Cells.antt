-- The cells of a row word, and places of windows in a padded row that make them up.
use Rattle.std.specs.Prelude.{ℕ, ◌+◌, ◌-◌, ◌/◌, ◌^◌, ◌≤◌, ◌<◌, ◌≡◌, Bool, true, cond, List, eqb, leb}
use Rattle.std.specs.Prelude.{length, get_or}
use Rattle.std.specs.Int.Count.{count_leading_zeros, ones}
use Rattle.basics.specs.Bits.{on}

-- a row word of 64 cells holds the cell of column 0 in its highest bit
abbrev pub cell_on64 : ℕ → ℕ → Bool
cell_on64 word c = on word (63 - c)

-- where the cell of column c falls in a padded row, seen from place 0, for an element whose origin is
-- column o
abbrev pub place_of : Bool → ℕ → ℕ → ℕ
place_of grows o c = cond grows (64 + o - c) (64 + c - o)

-- the cell that falls on the first place of the run of `wide` cells from column c on
abbrev pub end_cell : Bool → ℕ → ℕ → ℕ
end_cell grows c wide = cond grows (c + wide - 1) c

-- the windows of which at most four make up a run
abbrev pub window_of : ℕ → ℕ
window_of wide = cond (leb wide 4) 1 (cond (leb wide 16) 4 16)

-- the word of the first `wide` cells
abbrev pub run_word : ℕ → ℕ
run_word wide = 2 ^ 64 - 1 - (2 ^ 64 - 1) / 2 ^ wide

-- the windows that a row word wants: a run's, or 1 for single cells; 0 where there is no cell
unfoldable pub level_of : ℕ → ℕ
level_of word =
    cond (eqb word 0) 0 (cond (eqb (run_word (ones word) / 2 ^ count_leading_zeros 64 word) word)
    (window_of (ones word)) 1)

-- windows of n at `count` places make up the places from `from` to from + wide - 1
pub record RunOf (n wide from count : ℕ) (at : List ℕ) : Type 0 where
  pub few : count ≤ 64
  pub long : length at ≡ 64
  pub inside : (j : ℕ) → j < count → (from ≤ get_or at j 0) × (get_or at j 0 + n ≤ from + wide)
  pub covered : (k : ℕ) → k < wide → (j : ℕ)
      × ((j < count) × ((get_or at j 0 ≤ from + k) × (from + k < get_or at j 0 + n)))

-- the places of the set cells
pub record CellsOf (grows : Bool) (word o count : ℕ) (at : List ℕ) : Type 0 where
  pub few : count ≤ 64
  pub long : length at ≡ 64
  pub inside : (j : ℕ) → j < count → (c : ℕ)
      × ((c < 64) × ((cell_on64 word c ≡ true) × (get_or at j 0 ≡ place_of grows o c)))
  pub covered : (c : ℕ) → c < 64 → cell_on64 word c ≡ true → (j : ℕ)
      × ((j < count) × (get_or at j 0 ≡ place_of grows o c))

-- windows of n at `count` places make up exactly the places of the set cells
pub record Covers (grows : Bool) (word o n count : ℕ) (at : List ℕ) : Type 0 where
  pub few : count ≤ 64
  pub long : length at ≡ 64
  pub inside : (j k : ℕ) → j < count → k < n → (c : ℕ)
      × ((c < 64) × ((cell_on64 word c ≡ true) × (get_or at j 0 + k ≡ place_of grows o c)))
  pub covered : (c : ℕ) → c < 64 → cell_on64 word c ≡ true → (j : ℕ)
      × ((k : ℕ) × ((j < count) × ((k < n) × (get_or at j 0 + k ≡ place_of grows o c))))
