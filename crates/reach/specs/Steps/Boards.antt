-- The board after all links of a chain. With origins that sum to ox and oy,
-- the sums X and Y stand for the offset (X - ox, Y - oy). An offset has centre added to each coordinate.
use Rattle.std.specs.Prelude.{ℕ, ◌+◌, ◌-◌, ◌≤◌, min, max, Bool, ◌&&◌, List, [], ◌∷◌, leb, ltb, get_or}
use Rattle.std.specs.Prelude.{replicate}
use Rattle.answer.specs.Answer.{centre}
use Rattle.basics.specs.Bits.{on}
use Rattle.morphology.specs.Check.{back_x, back_y}
use Rattle.reach.specs.declared.Link.{Link}
use Rattle.reach.specs.declared.Cut.{Cut}
use Rattle.reach.specs.declared.Bounds.{Bounds}
use Rattle.reach.specs.declared.Sum.{Sum}
use Rattle.reach.specs.declared.Offset.{Offset}
use Rattle.reach.specs.declared.Board.{Board}
use Rattle.reach.specs.Steps.Links.{shapes_of}
use Rattle.reach.specs.Steps.Words.{sums, step_of}

-- centre less, within the board
abbrev pub clipped : ℕ → ℕ
clipped s = min sums (s - centre)

-- the sums whose offsets lie in the box
unfoldable pub cut_of : Sum → Bounds → Cut
cut_of o m =
    record {
      left = clipped (o.column + m.left);
      right = clipped (o.column + m.right + 1);
      top = clipped (o.row + m.top);
      bottom = clipped (o.row + m.bottom + 1);
    }

-- before any link: the sums 0 and 0
unfoldable pub start_of : List ℕ
start_of = 1 ∷ replicate (sums - 1) 0

-- one more link, whose origin brings the sums to o
unfoldable pub onward_of : List ℕ → Link → Sum → Bounds → List ℕ
onward_of board e o m = step_of board e.rows e.outline.w e.outline.h (cut_of o m)

unfoldable pub words_from : Bounds → ℕ → ℕ → List Link → List ℕ → List ℕ
words_from m ox oy [] board = board
words_from m ox oy (e ∷ es) board =
    words_from m (ox + e.outline.origin.ping.0) (oy + e.outline.origin.bin.0) es (onward_of board
    e (record { column = ox + e.outline.origin.ping.0; row = oy + e.outline.origin.bin.0 }) m)

unfoldable pub board_of : Bounds → List Link → Board
board_of m es = record {
  words = words_from m 0 0 es start_of;
  origin = record { column = back_x (shapes_of es); row = back_y (shapes_of es) };
}

-- no bound that a chain could meet; and the box between 0 and an offset, ends included
abbrev pub everywhere_of : Bounds
everywhere_of = record { left = 0; right = 255; top = 0; bottom = 255 }

unfoldable pub between_of : Offset → Bounds
between_of e = record {
  left = min centre e.x;
  right = max centre e.x;
  top = min centre e.y;
  bottom = max centre e.y;
}

-- the board has the sums that stand for the offset
unfoldable pub holds_of : List ℕ → Sum → Offset → Bool
holds_of words o e =
    leb centre (e.x + o.column)
    && (leb centre (e.y + o.row)
    && (ltb (e.x + o.column - centre) sums && (ltb (e.y + o.row - centre) sums
    && on (get_or words (e.y + o.row - centre) 0) (e.x + o.column - centre))))

-- each bound is one byte
pub record InBytes (m : Bounds) : Type 0 where
  pub left_high : m.left ≤ 255
  pub right_high : m.right ≤ 255
  pub top_high : m.top ≤ 255
  pub bottom_high : m.bottom ≤ 255

-- sums of origins
pub record Small (o : Sum) : Type 0 where
  pub column_low : o.column ≤ sums
  pub row_low : o.row ≤ sums
