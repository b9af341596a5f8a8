-- Places in two rooms of windows that make up the cells of a row word.
use Rattle.std.specs.Prelude.{ℕ, ◌+◌, ◌-◌, ◌≤◌, ◌<◌, ◌≡◌, Bool, true, cond, not, List, ◌⊎◌, eqb, leb, ltb}
use Rattle.std.specs.Prelude.{length, get_or}
use Rattle.basics.specs.Tests.{all}
use Rattle.element.specs.declared.Outline.{Outline}
use Rattle.packedline.specs.Steps.Cells.{cell_on64, place_of, level_of}
use Rattle.bitrow.specs.Steps.Added.{masked_of}

-- where the second room begins
abbrev pub room : ℕ
room = 1232

-- rows of two kinds: single cells, by windows of 1 and 2; runs of more than four, by windows of 4 and 16
abbrev pub kind_of : ℕ → ℕ
kind_of level = cond (leb level 1) 0 1

-- the kind of row r of the element, and whether no row is of kind k
abbrev pub kind_at : Outline → List ℕ → ℕ → ℕ
kind_at o words r = kind_of (level_of (masked_of (get_or words r 0) o.w))

unfoldable pub lacks_kind : Outline → List ℕ → ℕ → Bool
lacks_kind o words k = all (λ r. not (eqb (kind_at o words r) k)) o.h

abbrev pub small_of : ℕ → ℕ
small_of kind = cond (eqb kind 0) 1 4

abbrev pub large_of : ℕ → ℕ
large_of kind = cond (eqb kind 0) 2 16

-- the window at place p has the place q of a padded row
abbrev pub Shows : ℕ → ℕ → ℕ → Type 0
Shows kind p q =
    ((p < room) × ((p ≤ q) × (q < p + small_of kind)))
    ⊎ ((room ≤ p) × ((p - room ≤ q) × (q < p - room + large_of kind)))

-- the next cell's digit, where the rest has it: `half` is half of the first cell's
abbrev pub next_of : ℕ → ℕ → ℕ
next_of rest half = cond (eqb half 0) 0 (cond (ltb rest half) 0 half)

-- a cell on place p alone, or with the next one
abbrev pub spot_of : Bool → ℕ → ℕ → ℕ
spot_of grows p next = cond (eqb next 0) p (cond grows (room + p - 1) (room + p))

-- windows of 16 stand in the second room
abbrev pub base_of : ℕ → ℕ
base_of level = cond (eqb level 16) room 0

-- the windows at `count` places have exactly the places of the set cells
pub record Strokes (grows : Bool) (word o kind count : ℕ) (at : List ℕ) : Type 0 where
  pub few : count ≤ 64
  pub long : length at ≡ 64
  pub near : (j : ℕ) → j < count
      → (get_or at j 0 < 128) ⊎ ((room ≤ get_or at j 0) × (get_or at j 0 < room + 128))
  pub inside : (j q : ℕ) → j < count → Shows kind (get_or at j 0) q
      → (c : ℕ) × ((c < 64) × ((cell_on64 word c ≡ true) × (q ≡ place_of grows o c)))
  pub covered : (c : ℕ) → c < 64 → cell_on64 word c ≡ true
      → (j : ℕ) × ((j < count) × Shows kind (get_or at j 0) (place_of grows o c))
