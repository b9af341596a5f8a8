use Prim.Native.Nat.{◌%◌}
use lib.ListN.{get_or}
use borrow.Author.Rules.{rules}
use Rattle.freeblocks.proofs.Blocks.{under_more}
use Rattle.freeblocks.proofs.most_of.Goals as goal

pub loop-k-preserved : goal.loop-k-preserved
loop-k-preserved c =
    let l = c.loop-k in
    let a = c.args in (
      search rules,
      under_more (λ i. get_or a.cells.now i 0 % 256) l.g c.max-g.result l.k-index l.invariant.1
          c.max-g.ensures,
    )
