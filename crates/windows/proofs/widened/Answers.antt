-- Stands on three joins of the block as it was, with the points 1, 2 and 3 further on, or 4, 8 and 12.
-- Byte by byte that is the definition: `wide_block`, `wider_block`.
use lib.Dec.{eqb}
use borrow.Author.Tests.{eq-eqb, ne_eqb}
use Rattle.windows.proofs.Again.{wide_block, wider_block}
use Rattle.windows.proofs.widened.Goals as goal

pub returns-then-this-eq4 : goal.returns-then-this-eq4
returns-then-this-eq4 g c =
    let a = c.args in
    wider_block a.grows (eqb g.row.M 4) a.b.now _ _ _ _ a.i
    c.block_at-c.ensures (eq-eqb _ _ c.if-this-eq4.true)
    c.join_bits-d.ensures c.join_block-e.ensures c.join_bits.ensures

pub returns : goal.returns
returns g c =
    let a = c.args in
    wide_block a.grows (eqb g.row.M 4) a.b.now _ _ _ _ a.i
    c.block_at-c.ensures (ne_eqb _ _ c.if-this-eq4.false)
    c.join_bits-d-2.ensures c.join_bits-e.ensures c.join_bits-2.ensures
