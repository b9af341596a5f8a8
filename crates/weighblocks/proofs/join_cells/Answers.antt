use Rattle.weighblocks.proofs.Blocks.{cells_at, cells_none, cells_more, cells_length}
use lib.ListN.{length}
use Prim.Native.Nat.{◌+◌}
use mathlib.Core.Path.{◌≡◌, ap, ◌∙◌}
use native.Mathlib.Omega.{arith}
use borrow.Author.Rules.{rules}
use Rattle.weighblocks.proofs.join_cells.Goals as goal

pub loop-k-init : goal.loop-k-init
loop-k-init c = (search rules, search rules, cells_none _ _ _ _ _ _ (search rules))

pub overflow_add-i : goal.overflow_add-i
overflow_add-i c =
    let f = c.requires.1
    c.loop-k.k-index (omega arith) in
    omega (arith, f, c.place_of.ensures)

pub join_cell-next-requires : goal.join_cell-next-requires
join_cell-next-requires c =
    let f = c.requires.1
    c.loop-k.k-index (omega arith) in
    omega (arith, f, c.place_of.ensures)

pub loop-k-preserved : goal.loop-k-preserved
loop-k-preserved c =
    let l = c.loop-k in
    let a = c.args in
    let e = cells_more a.grows a.rises a.c a.b.now a.i a.cells.now l.acc
    c.join_cell-next.result _ _ l.k-index l.invariant.2 c.place_of.ensures
    c.size_of.ensures
    c.join_cell-next.ensures in (
      search rules,
      cells_length a.grows a.rises a.c a.b.now a.i a.cells.now _ (l.k-index + 1) e,
      e,
    )

pub returns : goal.returns
returns c =
    let a = c.args in
    let e : c.loop-k.k-index ≡ length a.cells.now = omega arith in
    c.loop-k.invariant.2 ∙ ap (cells_at a.grows a.rises a.c a.b.now a.i
    a.cells.now) e
