-- What two rooms of windows show of a row: of its values, of either depth, by their places.
use Rattle.std.specs.Prelude.{ℕ, ◌+◌, ◌-◌, ◌<◌, Bool, cond, ◌&&◌, leb, ltb}
use Rattle.element.specs.Descriptor.{most_cells}
use Rattle.rows.specs.Steps.Fold.{join_by, start_by}
use Rattle.windows.specs.Steps.Bounds.{Bound}
use Rattle.strokes.specs.Steps.Strokes.{room, small_of, large_of}

-- place q of the padded row of w values: as many places beyond the frame as a row word has cells, the row,
-- and beyond the frame again
unfoldable pub pad_at : Bool → ℕ → ℕ → (ℕ → ℕ) → ℕ → ℕ
pad_at grows most w S q =
    cond (leb most_cells q && ltb q (most_cells + w)) (S (q - most_cells)) (start_by grows most)

-- a value and those d, e and f further on, joined
abbrev pub four_join : Bool → (ℕ → ℕ) → ℕ → ℕ → ℕ → ℕ → ℕ
four_join grows U d e f x =
    join_by grows (join_by grows (join_by grows (U x) (U (x + d))) (U (x + e))) (U (x + f))

-- a value is the window of n places of P from x on: it is bounded exactly where they all are
abbrev pub Sees : Bool → ℕ → ℕ → (ℕ → ℕ) → ℕ → Type 0
Sees grows n value P x =
    (v : ℕ) → ((Bound grows value v → (k : ℕ) → k < n → Bound grows (P (x + k)) v)
    × (((k : ℕ) → k < n → Bound grows (P (x + k)) v) → Bound grows value v))

-- the smaller windows of the padded row P stand in the first room of B, the larger in the second,
-- as far as the windows that were made look 12 places ahead
pub record Rooms (grows : Bool) (kind : ℕ) (P : ℕ → ℕ) (far : ℕ) (B : ℕ → ℕ) : Type 0 where
  pub first : (p : ℕ) → p + 12 < far → Sees grows (small_of kind) (B p) P p
  pub second : (p : ℕ) → p + 12 < far → Sees grows (large_of kind) (B (room + p)) P p
