-- The cells of a row word that are of one side, as numbers.
use Rattle.std.specs.Prelude.{ℕ, zero, suc, ◌+◌, ◌*◌, ◌≤◌, ◌<◌, ◌≡◌, Bool, true, cond, ◌&&◌, List, length}
use Rattle.std.specs.Prelude.{get_or, set}
use Rattle.element.specs.Record.{cell_on}
use Rattle.packedline.specs.Steps.Cells.{place_of}
use Rattle.heightsigns.specs.Steps.Sides.{side_of, size_of}

abbrev pub taken_of : ℕ → ℕ → Bool → ℕ → Bool
taken_of word c rises g = cell_on word c && side_of rises g

abbrev pub entry_of : Bool → ℕ → ℕ → ℕ → ℕ
entry_of grows o c g = 256 * place_of grows o c + size_of g

-- how many of the first cells are taken, and their numbers, each in its turn:
-- that of a cell which is not taken is stored as well, and the next is stored over it
unfoldable pub count_of : Bool → ℕ → List ℕ → ℕ → ℕ → ℕ
count_of rises word hs first zero = 0
count_of rises word hs first (suc c) =
    count_of rises word hs first c + cond (taken_of word c rises (get_or hs (first + c) 0)) 1 0

unfoldable pub cells_of : Bool → Bool → ℕ → ℕ → List ℕ → ℕ → List ℕ → ℕ → List ℕ
cells_of grows rises word o hs first cells zero = cells
cells_of grows rises word o hs first cells (suc c) =
    set (cells_of grows rises word o hs first cells c) (count_of rises word hs first c)
    (entry_of grows o c (get_or hs (first + c) 0))

-- the first `count` numbers are exactly the cells below `wide` that are taken
pub record Taken (grows rises : Bool) (word wide o : ℕ) (hs : List ℕ) (first count : ℕ) (cells : List ℕ)
    : Type 0 where
  pub few : count ≤ wide
  pub long : wide ≤ length cells
  pub inside : (j : ℕ) → j < count
      → (c : ℕ) × ((c < wide) × ((taken_of word c rises (get_or hs (first + c) 0) ≡ true)
      × (get_or cells j 0 ≡ entry_of grows o c (get_or hs (first + c) 0))))
  pub covered : (c : ℕ) → c < wide → taken_of word c rises (get_or hs (first + c) 0) ≡ true
      → (j : ℕ) × ((j < count) × (get_or cells j 0 ≡ entry_of grows o c (get_or hs (first + c) 0)))
