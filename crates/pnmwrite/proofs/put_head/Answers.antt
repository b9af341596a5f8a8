-- Three pieces, one after another: the magic with W, the space with H, and the end.
-- There is room for the whole head, and so for each piece where its turn comes.
use Rattle.netpbm.proofs.Writing.{head_is, tail_first}
use Rattle.netpbm.specs.File.{tail_of, head_of}
use Rattle.pnmheader.specs.Header.{magic_digit}
use Rattle.picture.specs.declared.Depth.{Depth}
use Rattle.digits.specs.Decimal.{decimal}
use Rattle.digits.specs.Put.{put}
use Rattle.digits.proofs.Pieces.{Left, none_put, piece_put, piece_fits, all_put}
use lib.ListN.{length}
use mathlib.Core.List.{List, [], ◌∷◌, ◌++◌, flatten}
use mathlib.Core.Path.{◌≡◌, sym, ap, ◌∙◌, subst}
use Prim.Native.Nat.{ℕ, ◌+◌, ◌≤◌}
use native.Mathlib.Nat.{zero-add}
use native.Mathlib.Omega.{arith}
use Rattle.pnmwrite.proofs.put_head.Goals as goal

abbrev end_on : Depth → List (List ℕ)
end_on depth = tail_of depth ∷ []

abbrev bins_on : Depth → ℕ → List (List ℕ)
bins_on depth h = ((32 ∷ []) ++ decimal h) ∷ end_on depth

abbrev all_on : Depth → ℕ → ℕ → ℕ → List (List ℕ)
all_on depth digit w h = ((80 ∷ digit ∷ 10 ∷ []) ++ decimal w) ∷ bins_on depth h

-- what is left of the head, with the place and the buffer
all_left : (depth : Depth) (t : List ℕ) (w h m : ℕ) → length (head_of depth w h) ≤ length t
    → m ≡ magic_digit depth → Left 0 t (head_of depth w h) (all_on depth m w h) 0 t
all_left depth t w h m fits e =
    none_put (omega (arith, fits)) (ap (λ m. flatten (all_on depth m w h)) e ∙ head_is depth w h)

pub put_labelled-a-requires : goal.put_labelled-a-requires
put_labelled-a-requires c =
    let a = c.args in piece_fits (all_left a.depth a.t.now a.w a.h _ c.requires c.magic_digit.ensures)

pub put_labelled-b-requires : goal.put_labelled-b-requires
put_labelled-b-requires c =
    let a = c.args in
    let e = c.put_labelled-a.ensures in
    piece_fits (piece_put (all_left a.depth a.t.now a.w a.h _ c.requires c.magic_digit.ensures)
    (e.value, e.t_after))

pub slice_bounds-put_bytes-end : goal.slice_bounds-put_bytes-end
slice_bounds-put_bytes-end c =
    let n = c.tail_len-n.ensures.0 in
    n ∙ sym (ap length (tail_first c.args.depth _ n))

pub put_bytes-requires : goal.put_bytes-requires
put_bytes-requires c =
    let a = c.args in
    let e = c.put_labelled-a.ensures in
    let f = c.put_labelled-b.ensures in
    let l = piece_put (all_left a.depth a.t.now a.w a.h _ c.requires c.magic_digit.ensures)
    (e.value, e.t_after) in
    omega (
      arith,
      piece_fits (piece_put l (f.value, f.t_after)),
      ap length (tail_first a.depth _ c.tail_len-n.ensures.0),
    )

pub returns : goal.returns
returns c =
    let a = c.args in
    let e = c.put_labelled-a.ensures in
    let f = c.put_labelled-b.ensures in
    let l = piece_put (all_left a.depth a.t.now a.w a.h _ c.requires c.magic_digit.ensures)
    (e.value, e.t_after) in
    let p = all_put (piece_put (piece_put l (f.value, f.t_after))
    (subst (λ (l : List ℕ).
    (c.put_bytes.result ≡ c.put_labelled-b.result + length l)
    × (c.put_bytes.new.t ≡ put c.put_labelled-b.result l c.put_labelled-b.new.t))
    (tail_first a.depth _ c.tail_len-n.ensures.0)
    (c.put_bytes.ensures.value, c.put_bytes.ensures.t_after))) in
    record {
      value = p.0 ∙ zero-add _;
      t_after = p.1;
    }
