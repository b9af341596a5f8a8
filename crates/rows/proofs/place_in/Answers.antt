-- Too low, there is no such place; else it is the lesser of p + plus - minus and n: n where that is too high.
-- Both terms have 16 bits, so that the sum does not wrap.
use Rattle.rows.proofs.Places.{place_low, place_other}
use Rattle.rows.proofs.place_in.Goals as goal

pub returns-then-at-back : goal.returns-then-at-back
returns-then-at-back c = let a = c.args in place_low a.n a.p a.plus a.minus c.if-at-back.true

pub returns : goal.returns
returns c =
    let a = c.args in
    place_other a.n a.p a.plus a.minus _ c.if-at-back.false c.min.ensures
