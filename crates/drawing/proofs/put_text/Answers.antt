-- Two pieces, one after the other: the first line, the lines of the rows.
-- There is room for the whole text, and so for each piece where its turn comes.
use Rattle.text.specs.Text.{head_line, row_lines, text_of}
use Rattle.text.proofs.Texts.{text_is, at_start}
use Rattle.digits.proofs.Pieces.{Left, none_put, piece_put, piece_fits, all_put}
use Rattle.picture.specs.Points.{value_at}
use Prim.Native.Nat.{ℕ}
use mathlib.Core.List.{List, [], ◌∷◌}
use mathlib.Core.Path.{sym, ◌∙◌}
use native.Mathlib.Nat.{zero-add}
use native.Mathlib.Omega.{arith}
use Rattle.drawing.proofs.put_text.Goals as goal
use Rattle.drawing.proofs.put_text.Goals.{After-put_head-at, Start}

-- what is left of the text, with the place and the buffer
abbrev LeftOf : Start → List (List ℕ) → ℕ → List ℕ → Type 0
LeftOf c = let a = c.args in
    Left 0 a.t.now (text_of a.depth (value_at a.depth a.s.now a.w) a.w a.h a.kind)

abbrev rows : Start → List ℕ
rows c = let a = c.args in row_lines a.depth (value_at a.depth a.s.now a.w) a.w a.h

all_left : (c : Start) → let a = c.args in
    LeftOf c (head_line a.w a.h a.kind ∷ rows c ∷ []) 0 a.t.now
all_left c = none_put (omega (arith, c.requires.kind_in_bounds)) (text_is _ _ _ _ _)

rows_left : (c : After-put_head-at)
    → LeftOf c.before.before.before.before.before
    (rows c.before.before.before.before.before ∷ []) c.put_head-at.result c.put_head-at.new.t
rows_left c = piece_put (all_left c.before.before.before.before.before)
    (c.put_head-at.ensures.value ∙ sym (zero-add _), c.put_head-at.ensures.t_after)

pub put_head-at-requires : goal.put_head-at-requires
put_head-at-requires c = omega (arith, piece_fits (all_left c.before.before.before.before))

pub put_lines-requires : goal.put_lines-requires
put_lines-requires c =
    record {
      holds = c.requires.holds;
      h_in_bounds = piece_fits (rows_left (goal.at.put_lines-requires c).After-put_head-at);
    }

pub returns : goal.returns
returns c =
    let p = at_start _ _ _ _
    (all_put (piece_put (rows_left (goal.at.returns c).After-put_head-at)
    (c.put_lines.ensures.value, c.put_lines.ensures.t_after))) in
    record { value = p.0; t_after = p.1 }
