-- The set cells of an element as a list of places, and how many they are.
use Rattle.std.specs.Prelude.{ℕ, zero, suc, ◌+◌, ◌≤◌, ◌<◌, ◌≡◌, Bool, false, List, ◌⊎◌, leb, length, get_or}
use Rattle.std.specs.Int.Count.{ones}
use Rattle.picture.specs.Frame.{most_pings}
use Rattle.element.specs.declared.Outline.{Outline}
use Rattle.element.specs.Descriptor.{most_cells}
use Rattle.packedline.specs.Steps.Cells.{cell_on64}
use Rattle.bitrow.specs.Steps.Added.{masked_of}
use Rattle.cellwise.specs.Steps.Spots.{spot_of, Cell}

-- how many cells the first n rows have; what stands past the element in a row word never counts
unfoldable pub cells_in : List ℕ → ℕ → ℕ → ℕ
cells_in words wide zero = 0
cells_in words wide (suc n) = cells_in words wide n + ones (masked_of (get_or words n 0) wide)

-- at most 16 cells
abbrev pub is_few : List ℕ → Outline → Bool
is_few words o = leb (cells_in words o.w o.h) 16

-- a list of `count` places, and `rest` more to come, are n, where they are a few; else n is more than a few
pub record Counted (count rest n : ℕ) : Type 0 where
  pub exact : count ≤ 16 → count + rest ≡ n
  pub past : 16 < count → 16 < n

-- a row of a frame, and an element within its limits
pub record Sized (nw w : ℕ) (o : Outline) : Type 0 where
  pub few_pings : w ≤ most_pings
  pub few_wide : o.w ≤ most_cells
  pub few_high : o.h ≤ most_cells
  pub words : o.h ≤ nw

-- the set cells that are done, and no others, have a place among the first `count`; past 16 nothing is said
pub record Listed (grows : Bool) (w : ℕ) (o : Outline) (words : List ℕ) (D : ℕ → ℕ → Type 0) (count : ℕ)
    (at : List ℕ) : Type 0 where
  pub long : length at ≡ 16
  pub inside : count ≤ 16 → (j : ℕ) → j < count → (c : ℕ) × ((r : ℕ)
      × (Cell o words c r × (D c r × (get_or at j 0 ≡ spot_of grows w o c r))))
  pub covered : count ≤ 16 → (c r : ℕ) → Cell o words c r → D c r
      → (j : ℕ) × ((j < count) × (get_or at j 0 ≡ spot_of grows w o c r))

-- those of the first n rows
unfoldable pub Rowed : Bool → ℕ → Outline → List ℕ → ℕ → ℕ → List ℕ → Type 0
Rowed grows w o words n count at = Listed grows w o words (λ c r. r < n) count at

-- and those of row n that are not among the rest m
unfoldable pub Inner : Bool → ℕ → Outline → List ℕ → ℕ → ℕ → ℕ → List ℕ → Type 0
Inner grows w o words n m count at =
    Listed grows w o words (λ c r. (r < n) ⊎ ((r ≡ n) × (cell_on64 m c ≡ false))) count at
