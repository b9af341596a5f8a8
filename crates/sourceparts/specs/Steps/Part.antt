-- The result while it is made: each of its points is bounded exactly where all that was joined into it is.
-- So neither the order of the joins nor their number is in it.
use Rattle.std.specs.Prelude.{ℕ, ◌≤◌, ◌<◌, ◌≡◌, Bool, true, List, ◌⊎◌, get_or}
use Rattle.picture.specs.declared.Depth.{Depth}
use Rattle.picture.specs.Frame.{top}
use Rattle.picture.specs.Points.{value_at}
use Rattle.picture.specs.Bytes.{Picture}
use Rattle.element.specs.declared.Outline.{Outline}
use Rattle.element.specs.Record.{cell_on}
use Rattle.morphology.specs.Operations.{moved, within}
use Rattle.rows.specs.Steps.Fold.{plus_by, minus_by}
use Rattle.windows.specs.Steps.Bounds.{Bound}
use Rattle.strokes.specs.Steps.Strokes.{kind_at}

-- the column, and the row, that the cell (c, r) leads to from (x, y)
abbrev pub across_to : Bool → Outline → ℕ → ℕ → ℕ
across_to grows o x c = moved x (plus_by grows o.origin.ping.0 c) (minus_by grows o.origin.ping.0 c)

abbrev pub down_to : Bool → Outline → ℕ → ℕ → ℕ
down_to grows o y r = moved y (plus_by grows o.origin.bin.0 r) (minus_by grows o.origin.bin.0 r)

-- the cell (c, r) is set, and leads from (x, y) to a point of the frame
pub record Leads (grows : Bool) (w h : ℕ) (o : Outline) (words : List ℕ) (x y c r : ℕ) : Type 0 where
  pub column : c < o.w
  pub row : r < o.h
  pub set : cell_on (get_or words r 0) c ≡ true
  pub across : within w x (plus_by grows o.origin.ping.0 c) (minus_by grows o.origin.ping.0 c) ≡ true
  pub down : within h y (plus_by grows o.origin.bin.0 r) (minus_by grows o.origin.bin.0 r) ≡ true

-- row r of the element, of a kind, has been joined in from source row q:
-- a kind before k, or kind k and a row before v, or row v and a row of the element before n
abbrev pub Done : ℕ → ℕ → ℕ → ℕ → ℕ → ℕ → Type 0
Done k v n kind q r = (kind < k) ⊎ ((kind ≡ k) × ((q < v) ⊎ ((q ≡ v) × (r < n))))

-- all that is done and nothing else has been joined into the w columns and h rows of T, from the picture S
pub record Part (grows : Bool) (most : ℕ) (S : Picture) (w h : ℕ) (o : Outline) (words : List ℕ)
    (k v n : ℕ) (T : Picture) : Type 0 where
  pub to : (x y z : ℕ) → x < w → y < h → z ≤ most → Bound grows (T x y) z
      → (c r : ℕ) → Leads grows w h o words x y c r → Done k v n (kind_at o words r) (down_to grows o y r) r
      → Bound grows (S (across_to grows o x c) (down_to grows o y r)) z
  pub from : (x y z : ℕ) → x < w → y < h → z ≤ most
      → ((c r : ℕ) → Leads grows w h o words x y c r → Done k v n (kind_at o words r) (down_to grows o y r) r
      → Bound grows (S (across_to grows o x c) (down_to grows o y r)) z)
      → Bound grows (T x y) z

-- the same of pictures in bytes
abbrev pub PartOf : Depth → Bool → List ℕ → ℕ → ℕ → Outline → List ℕ → ℕ → ℕ → ℕ → List ℕ → Type 0
PartOf depth grows s w h o words k v n t =
    Part grows (top depth) (value_at depth s w) w h o words k v n (value_at depth t w)
