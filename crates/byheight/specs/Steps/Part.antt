-- The result while it is made: each of its points is bounded exactly where all that was joined into it is.
-- So neither the order of the joins nor their number is in it.
use Rattle.std.specs.Prelude.{ℕ, ◌+◌, ◌*◌, ◌/◌, ◌≤◌, ◌<◌, ◌≡◌, Bool, List, ◌⊎◌, length, get_or}
use Rattle.picture.specs.Frame.{most_bins}
use Rattle.element.specs.declared.Outline.{Outline}
use Rattle.rows.specs.Steps.Ways.{weigh_by}
use Rattle.windows.specs.Steps.Bounds.{Bound}
use Rattle.freeblocks.specs.Steps.Plain.{turned_by}
use Rattle.sourceparts.specs.Steps.Part.{across_to, down_to, Leads}

-- what the cell (c, r) finds from (x, y), by its height
abbrev pub finds_at : Bool → List ℕ → ℕ → Outline → List ℕ → ℕ → ℕ → ℕ → ℕ → ℕ
finds_at grows s w o hs x y c r =
    weigh_by grows (get_or hs (r * o.w + c) 0) (get_or s (down_to grows o y r * w + across_to grows o x c) 0)

-- row r of the element has been joined in from source row q: r before `from`, from every source row;
-- or one of the n rows from there on, and q before v, or q is v and r before m
abbrev pub Done : ℕ → ℕ → ℕ → ℕ → ℕ → ℕ → Type 0
Done from n v m q r = (r < from) ⊎ ((r < from + n) × ((q < v) ⊎ ((q ≡ v) × (r < m))))

-- a row of the result that is marked has no value near to the end, in its pairs of blocks
abbrev pub Marked : Bool → ℕ → ℕ → List ℕ → List ℕ → Type 0
Marked grows w h marks t =
    (length marks ≡ most_bins)
    × ((y : ℕ) → y < h → get_or marks y 0 ≡ 1
    → (m : ℕ) → m < 128 * (w / 128) → 128 ≤ turned_by grows (get_or t (y * w + m) 0))

-- all that is done and nothing else has been joined into the w columns and h rows of t
pub record Part (grows : Bool) (s : List ℕ) (w h : ℕ) (o : Outline) (words hs : List ℕ)
    (from n v m : ℕ) (t : List ℕ) : Type 0 where
  pub to : (x y z : ℕ) → x < w → y < h → z < 256 → Bound grows (get_or t (y * w + x) 0) z
      → (c r : ℕ) → Leads grows w h o words x y c r → Done from n v m (down_to grows o y r) r
      → Bound grows (finds_at grows s w o hs x y c r) z
  pub follows : (x y z : ℕ) → x < w → y < h → z < 256
      → ((c r : ℕ) → Leads grows w h o words x y c r → Done from n v m (down_to grows o y r) r
      → Bound grows (finds_at grows s w o hs x y c r) z)
      → Bound grows (get_or t (y * w + x) 0) z
