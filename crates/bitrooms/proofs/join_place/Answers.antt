-- By cases: on a byte's border whole bytes, else shifted ones, by less than 8.
-- Both are the eight points from p on.
use Rattle.windows.proofs.Places.{place_even, place_odd}
use Rattle.bitrooms.proofs.join_place.Goals as goal

pub returns-then-d-eq0 : goal.returns-then-d-eq0
returns-then-d-eq0 c =
    let a = c.args in
    place_even a.grows a.c a.b.now c.join_block.result a.i a.p c.if-d-eq0.true
    c.join_block.ensures

pub returns : goal.returns
returns c =
    let a = c.args in
    place_odd a.grows a.c a.b.now c.join_bits.result a.i a.p c.if-d-eq0.false
    c.join_bits.ensures
