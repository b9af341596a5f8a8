-- A visit of some points of the target: what it may do, and what is still where it changed nothing.
-- The order of the visits has no part in it.
use Rattle.std.specs.Prelude.{ℕ, ◌+◌, ◌-◌, ◌*◌, ◌/◌, ◌≤◌, ◌<◌, ◌≡◌, Bool, true, false, cond, List}
use Rattle.picture.specs.Frame.{most_bins}
use Rattle.grown.specs.declared.Neighbours.{Neighbours}
use Rattle.grown.specs.declared.Neighbours.TheVariants.{Cross, Square}
use Rattle.settle.specs.Steps.Grew as cell
use Rattle.settle.specs.Steps.Grew.{Gained, StillAt}
use Rattle.reconstruct.specs.declared.Rows.{Rows}

abbrev pub square_of : Neighbours → Bool
square_of Cross = false
square_of Square = true

-- the cells of a row of n bytes
abbrev pub cells : ℕ → ℕ
cells n = (n + 7) / 8

-- the i-th of n, from the first or from the last
abbrev pub turned_of : Bool → ℕ → ℕ → ℕ
turned_of back n i = cond back (n - 1 - i) i

-- the row before one that changed, the row after one that did not
abbrev pub next_row : Bool → ℕ → ℕ
next_row changed y = cond changed (y - 1) (y + 1)

-- the rows lie within m bytes
pub record Room (r : Rows) (m : ℕ) : Type 0 where
  pub few_bytes : r.n ≤ 128
  pub few_bins : r.h ≤ most_bins
  pub few_spare : r.u < 8
  pub long : r.h * r.n ≤ m

abbrev pub Grew : Rows → List ℕ → List ℕ → List ℕ → Type 0
Grew r mask l t = cell.Grew r.square r.n r.u r.h mask l t

-- the points of column v and row z with S v z were visited; l became t
pub record Visit (r : Rows) (mask l t : List ℕ) (changed : Bool) (S : ℕ → ℕ → Type 0) : Type 0 where
  pub grew : Grew r mask l t
  pub gained : changed ≡ true → Gained r.n r.h l t
  pub same : changed ≡ false → l ≡ t
  pub still : changed ≡ false → (v z : ℕ) → S v z → StillAt r.square r.n r.u r.h mask l v z

-- row y; and its cells that the first i steps of a pass come to
abbrev pub InRow : Rows → ℕ → ℕ → ℕ → Type 0
InRow r y v z = (v < 8 * r.n) × (z ≡ y)

abbrev pub PassTo : Rows → Bool → ℕ → ℕ → ℕ → ℕ → Type 0
PassTo r back y i v z =
    (v < 8 * r.n) × (z ≡ y) × ((k : ℕ) × (k < i) × (v / 64 ≡ turned_of back (cells r.n) k))

-- the picture; and its rows that the first i steps of a sweep come to
abbrev pub InPicture : Rows → ℕ → ℕ → Type 0
InPicture r v z = (v < 8 * r.n) × (z < r.h)

abbrev pub SweptTo : Rows → Bool → ℕ → ℕ → ℕ → Type 0
SweptTo r up i v z = (v < 8 * r.n) × ((k : ℕ) × (k < i) × (z ≡ turned_of up r.h k))

-- no neighbouring step inside the mask leads from a point of the target to one that it lacks
abbrev pub StillAll : Rows → List ℕ → List ℕ → Type 0
StillAll r mask t = (v z : ℕ) → InPicture r v z → StillAt r.square r.n r.u r.h mask t v z
