-- Four pieces, one after another: the width, the height and the kind with their labels, the line feed.
-- There is room for the whole line, and so for each piece where its turn comes.
use Rattle.text.proofs.Texts.{head_is}
use Rattle.text.specs.Text.{head_line}
use Rattle.digits.specs.Decimal.{decimal}
use Rattle.digits.proofs.Pieces.{Left, none_put, piece_put, piece_fits, all_put}
use mathlib.Core.List.{List, [], ◌∷◌, ◌++◌}
use mathlib.Core.Path.{◌∙◌}
use lib.ListN.{length}
use Prim.Native.Nat.{ℕ, ◌≤◌}
use native.Mathlib.Nat.{zero-add}
use native.Mathlib.Omega.{arith}
use Rattle.drawing.proofs.put_head.Goals as goal

abbrev feed : List (List ℕ)
feed = (10 ∷ []) ∷ []

abbrev kind_on : ℕ → List (List ℕ)
kind_on kind = ((32 ∷ 107 ∷ 105 ∷ 110 ∷ 100 ∷ 32 ∷ []) ++ decimal kind) ∷ feed

abbrev bins_on : ℕ → ℕ → List (List ℕ)
bins_on h kind = ((120 ∷ []) ++ decimal h) ∷ kind_on kind

-- what is left of the line, with the place and the buffer
all_left : (t : List ℕ) (w h kind : ℕ) → length (head_line w h kind) ≤ length t
    → Left 0 t (head_line w h kind) (((69 ∷ 67 ∷ 72 ∷ 32 ∷ []) ++ decimal w) ∷ bins_on h kind) 0 t
all_left t w h kind fits = none_put (omega (arith, fits)) (head_is _ _ _)

pub put_labelled-a-requires : goal.put_labelled-a-requires
put_labelled-a-requires c = let a = c.args in piece_fits (all_left a.t.now a.w a.h a.kind c.requires)

pub put_labelled-b-requires : goal.put_labelled-b-requires
put_labelled-b-requires c =
    let a = c.args in
    let e = c.put_labelled-a.ensures in
    piece_fits (piece_put (all_left a.t.now a.w a.h a.kind c.requires) (e.value, e.t_after))

pub put_labelled-c-requires : goal.put_labelled-c-requires
put_labelled-c-requires c =
    let a = c.args in
    let e = c.put_labelled-a.ensures in
    let f = c.put_labelled-b.ensures in
    piece_fits (piece_put (piece_put (all_left a.t.now a.w a.h a.kind c.requires) (e.value, e.t_after))
    (f.value, f.t_after))

pub put_byte-requires : goal.put_byte-requires
put_byte-requires c =
    let a = c.args in
    let e = c.put_labelled-a.ensures in
    let f = c.put_labelled-b.ensures in
    let g = c.put_labelled-c.ensures in
    let l = piece_put (all_left a.t.now a.w a.h a.kind c.requires) (e.value, e.t_after) in
    omega (arith, piece_fits (piece_put (piece_put l (f.value, f.t_after)) (g.value, g.t_after)))

pub returns : goal.returns
returns c =
    let a = c.args in
    let e = c.put_labelled-a.ensures in
    let f = c.put_labelled-b.ensures in
    let g = c.put_labelled-c.ensures in
    let l = piece_put (all_left a.t.now a.w a.h a.kind c.requires) (e.value, e.t_after) in
    let k = piece_put (piece_put l (f.value, f.t_after)) (g.value, g.t_after) in
    let p = all_put (piece_put k (c.put_byte.ensures.value, c.put_byte.ensures.t_after)) in
    record {
      value = p.0 ∙ zero-add _;
      t_after = p.1;
    }
