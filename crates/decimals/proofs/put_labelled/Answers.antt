-- Two pieces, one after the other: the bytes, then the number.
-- There is room for both, and so for each where its turn comes.
use Rattle.digits.proofs.Pieces.{Left, two_pieces, none_put, piece_put, piece_fits, all_put}
use Rattle.digits.specs.Decimal.{decimal}
use lib.ListN.{length}
use Prim.Native.Nat.{ℕ, ◌+◌, ◌≤◌}
use mathlib.Core.List.{List, [], ◌∷◌, ◌++◌}
use Rattle.decimals.proofs.put_labelled.Goals as goal

both_left : (at : ℕ) (t s : List ℕ) (n : ℕ) → at + length (s ++ decimal n) ≤ length t →
    Left at t (s ++ decimal n) (s ∷ decimal n ∷ []) at t
both_left at t s n h = none_put h (two_pieces _ _)

pub put_bytes-next-requires : goal.put_bytes-next-requires
put_bytes-next-requires c = let a = c.args in piece_fits (both_left a.at a.t.now a.s.now a.n c.requires)

pub put_decimal-requires : goal.put_decimal-requires
put_decimal-requires c =
    let a = c.args in
    piece_fits (piece_put (both_left a.at a.t.now a.s.now a.n c.requires)
    (c.put_bytes-next.ensures.value, c.put_bytes-next.ensures.t_after))

pub returns : goal.returns
returns c =
    let a = c.args in
    let p = all_put (piece_put (piece_put (both_left a.at a.t.now a.s.now a.n c.requires)
    (c.put_bytes-next.ensures.value, c.put_bytes-next.ensures.t_after))
    (c.put_decimal.ensures.value, c.put_decimal.ensures.t_after)) in
    record { value = p.0; t_after = p.1 }
