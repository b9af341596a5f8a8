use Rattle.freeblocks.proofs.Blocks.{cells_at, cells_none, cells_more, cells_length}
use lib.ListN.{length}
use Prim.Native.Nat.{◌+◌}
use mathlib.Core.Path.{◌≡◌, refl, ap, ◌∙◌}
use native.Mathlib.Omega.{arith}
use borrow.Author.Rules.{rules}
use Rattle.freeblocks.proofs.join_cells.Goals as goal

pub loop-k-init : goal.loop-k-init
loop-k-init c = (search rules, search rules, cells_none _ _ _ _ _ _ (search rules))

pub loop-k-preserved : goal.loop-k-preserved
loop-k-preserved c =
    let l = c.loop-k in
    let a = c.args in
    let e = cells_more a.grows a.up a.c a.b.now a.i a.cells.now l.acc
    c.join_cell-next.result _ _ l.k-index l.invariant.2 refl refl c.join_cell-next.ensures in (
      search rules,
      cells_length a.grows a.up a.c a.b.now a.i a.cells.now _ (l.k-index + 1) e,
      e,
    )

pub returns : goal.returns
returns c =
    let a = c.args in
    let e : c.loop-k.k-index ≡ length a.cells.now = omega arith in
    c.loop-k.invariant.2
    ∙ ap (cells_at a.grows a.up a.c a.b.now a.i a.cells.now) e
