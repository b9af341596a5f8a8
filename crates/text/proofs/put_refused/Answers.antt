-- Two pieces, one after the other: the number with its label, the line feed.
-- There is room for the whole line, and so for each piece where its turn comes.
use Rattle.text.proofs.Texts.{refused_is, at_start}
use Rattle.text.specs.Text.{refused_line}
use Rattle.digits.specs.Decimal.{decimal}
use Rattle.digits.proofs.Pieces.{Left, none_put, piece_put, piece_fits, all_put}
use lib.ListN.{length}
use Prim.Native.Nat.{ℕ, ◌≤◌}
use mathlib.Core.List.{List, [], ◌∷◌, ◌++◌}
use native.Mathlib.Omega.{arith}
use Rattle.text.proofs.put_refused.Goals as goal

-- what is left of the line, with the place and the buffer
abbrev label : List ℕ
label = 114 ∷ 101 ∷ 102 ∷ 117 ∷ 115 ∷ 101 ∷ 100 ∷ 32 ∷ []

all_left : (t : List ℕ) (number : ℕ) → length (refused_line number) ≤ length t →
    Left 0 t (refused_line number) ((label ++ decimal number) ∷ (10 ∷ []) ∷ []) 0 t
all_left t number h = none_put (omega (arith, h)) (refused_is _)

pub put_labelled-a-requires : goal.put_labelled-a-requires
put_labelled-a-requires c = let a = c.args in piece_fits (all_left a.t.now a.number c.requires)

pub put_byte-requires : goal.put_byte-requires
put_byte-requires c =
    let a = c.args in
    let e = c.put_labelled-a.ensures in
    omega (arith, piece_fits (piece_put (all_left a.t.now a.number c.requires) (e.value, e.t_after)))

pub returns : goal.returns
returns c =
    let a = c.args in
    let e = c.put_labelled-a.ensures in
    let l = piece_put (all_left a.t.now a.number c.requires) (e.value, e.t_after) in
    let p = at_start _ _ _ _ (all_put (piece_put l (c.put_byte.ensures.value, c.put_byte.ensures.t_after))) in
    record { value = p.0; t_after = p.1 }
