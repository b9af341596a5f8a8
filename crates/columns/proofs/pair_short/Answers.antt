-- Stands on `down_short`, and on the row that one alone sees.
-- Of each block its first bytes are the row: `short_row`.
use Rattle.columns.proofs.Rows.{also_first, short_row}
use Rattle.columns.specs.Steps.Down.{also_at}
use lib.ListN.{length}
use mathlib.Core.Path.{refl}
use Rattle.columns.proofs.pair_short.Goals as goal

pub returns : goal.returns
returns c =
    let a = c.args in
    let n = length a.y.now in
    record {
      one = short_row (also_at a.packed a.grows a.s.now n a.lo a.count a.first) n _ _
          c.put_block.new.t _ _ refl refl c.requires.z_len.1.0
          (also_first a.packed a.grows a.s.now n a.lo a.count a.first
          c.down_short-c.result _ c.down_short-c.ensures c.join_block.ensures)
          c.put_block.ensures
          c.copy_first.ensures;
      other = short_row (also_at a.packed a.grows a.s.now n a.lo a.count a.last) n _ _
          c.put_block-2.new.t _ _ c.put_block.auto.t c.requires.z_len.0 c.requires.z_len.1.0
          (also_first a.packed a.grows a.s.now n a.lo a.count a.last
          c.down_short-c.result _ c.down_short-c.ensures c.join_block-2.ensures)
          c.put_block-2.ensures c.copy_first-2.ensures;
    }
