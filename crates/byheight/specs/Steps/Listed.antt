-- The cells of several rows of an element in two lists, those that raise and those that do not.
use Rattle.std.specs.Prelude.{ℕ, ◌+◌, ◌*◌, ◌≤◌, ◌<◌, ◌≡◌, Bool, true, false, List, length, get_or, drop}
use Rattle.element.specs.declared.Outline.{Outline}
use Rattle.element.specs.Descriptor.{most_cells}
use Rattle.heightsigns.specs.Steps.Taken.{Taken}

-- an element within its limits has the n rows from `from` on, and there is room for their cells
pub record Fits (nw : ℕ) (o : Outline) (from n : ℕ) : Type 0 where
  pub wide : o.w ≤ most_cells
  pub high : o.h ≤ most_cells
  pub column : o.origin.ping.0 < o.w
  pub words : o.h ≤ nw
  pub rows : from + n ≤ o.h
  pub room : n * o.w ≤ 256

-- row from + i, one side of it: so many numbers as is counted, from place i * o.w on
abbrev pub Side : Bool → Bool → Outline → List ℕ → List ℕ → ℕ → ℕ → List ℕ → List ℕ → Type 0
Side grows rises o words hs from i cells counts =
    Taken grows rises (get_or words (from + i) 0) o.w o.origin.ping.0 hs ((from + i) * o.w)
    (get_or counts i 0) (drop (i * o.w) cells)

-- the first n rows from `from` on are listed
pub record Listed (grows : Bool) (o : Outline) (words hs : List ℕ) (from n : ℕ)
    (rising others ups downs : List ℕ) : Type 0 where
  pub up_room : length rising ≡ 256
  pub down_room : length others ≡ 256
  pub up_counts : length ups ≡ most_cells
  pub down_counts : length downs ≡ most_cells
  pub up : (i : ℕ) → i < n → Side grows true o words hs from i rising ups
  pub down : (i : ℕ) → i < n → Side grows false o words hs from i others downs
