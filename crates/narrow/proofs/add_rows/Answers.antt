-- Stands on `rows_of`, which joins the source rows, and on `spread`, which takes them through the row word.
-- Where the frame has none of the rows nothing is met: `added_none`.
use native.Mathlib.Omega.{arith}
use mathlib.Core.Path.{◌≡◌, ap, subst}
use lib.Bits.{bit_and}
use Rattle.bitrow.specs.Steps.Added.{masked_of}
use Rattle.narrow.specs.Steps.Row.{turned_by, NoRow}
use Rattle.narrow.specs.Steps.Strip.{place_at, OffWhere, Unmet}
use Rattle.narrow.proofs.Rows.{added_none, added_some}
use Rattle.narrow.proofs.add_rows.Goals as goal

pub returns-then-z-a : goal.returns-then-z-a
returns-then-z-a c =
    let a = c.args in
    added_none a.k.grows (turned_by a.k.grows a.k.over) a.s.now a.w a.n a.h a.y.0
    a.o.origin.ping.0 a.o.origin.bin.0 (masked_of a.word a.o.w) a.r a.e a.v _ _
    c.first_row-a.ensures c.end_row-z.ensures c.if-z-a.true

pub rows_of-x-requires : goal.rows_of-x-requires
rows_of-x-requires c =
    let z = c.end_row-z.ensures in
    let l = c.if-z-a.false in (
      c.requires.n_bound.0,
      (omega (arith, z, c.requires.n_bound.1.0), (omega (arith, l), c.requires.n_bound.1.1)),
    )

pub returns : goal.returns
unfolding masked_of
returns c =
    let a = c.args in
    added_some a.k.grows (turned_by a.k.grows a.k.over) a.s.now a.w a.n a.h a.y.0
    a.o.origin.ping.0 a.o.origin.bin.0 (masked_of a.word a.o.w) a.r a.e a.v _ _
    c.first_row-a.ensures c.end_row-z.ensures _ _
    (subst (λ b. OffWhere c.rows_of-x.result (NoRow b a.s.now a.w a.n
    c.first_row-a.result c.end_row-z.result)) c.turned.ensures c.rows_of-x.ensures)
    (subst (λ m. OffWhere c.spread.result (λ p. (place_at a.v p ≡ 0)
    × Unmet c.rows_of-x.result a.k.grows m a.o.origin.ping.0 64 p))
    (ap (bit_and a.word) c.run_word.ensures) c.spread.ensures)
