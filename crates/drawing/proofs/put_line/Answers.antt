-- Two pieces, one after the other: the points of the row, the line feed.
-- There is room for the whole line, and so for each piece where its turn comes.
use Rattle.text.specs.Steps.Lines.{point_item, line_of}
use Rattle.text.proofs.Texts.{line_is}
use Rattle.digits.proofs.Pieces.{Left, none_put, piece_put, piece_fits, all_put}
use Rattle.picture.specs.Points.{value_at}
use Rattle.basics.specs.Lists.{joined}
use Prim.Native.Nat.{ℕ}
use mathlib.Core.List.{List, [], ◌∷◌}
use native.Mathlib.Omega.{arith}
use Rattle.drawing.proofs.put_line.Goals as goal
use Rattle.drawing.proofs.put_line.Goals.{After-put_items-next, Start}

-- what is left of the line, with the place and the buffer
abbrev LeftOf : Start → List (List ℕ) → ℕ → List ℕ → Type 0
LeftOf c = let a = c.args in
    Left a.at a.t.now (line_of a.depth (value_at a.depth a.s.now a.w) a.w a.y.0)

all_left : (c : Start) → let a = c.args in
    let points = joined (point_item a.depth (value_at a.depth a.s.now a.w) a.y.0) a.w in
    LeftOf c (points ∷ (10 ∷ []) ∷ []) a.at a.t.now
all_left c = none_put c.requires.y_in_bounds (line_is _ _ _ _)

feed_left : (c : After-put_items-next) →
    LeftOf c.before.before.before.before.before ((10 ∷ []) ∷ [])
    c.put_items-next.result c.put_items-next.new.t
feed_left c = piece_put (all_left c.before.before.before.before.before)
    (c.put_items-next.ensures.value, c.put_items-next.ensures.t_after)

pub put_items-next-requires : goal.put_items-next-requires
put_items-next-requires c =
    record {
      w_le_most_pings = c.requires.w_le_most_pings;
      w_in_bounds = piece_fits (all_left c.before.before.before.before);
    }

pub put_byte-requires : goal.put_byte-requires
put_byte-requires c =
    omega (arith, piece_fits (feed_left (goal.at.put_byte-requires c).After-put_items-next))

pub returns : goal.returns
returns c =
    let p = all_put (piece_put (feed_left (goal.at.returns c).After-put_items-next)
    (c.put_byte.ensures.value, c.put_byte.ensures.t_after)) in
    record { value = p.0; t_after = p.1 }
