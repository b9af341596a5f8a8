-- Stands on `pair_short` and `pair_bytes`; where there is no byte, both rows are empty.
-- The row past the last that is read tells whether a block from each lies in the source: `rows_inside`.
use Rattle.columns.proofs.Rows.{no_row, rows_inside, rows_few, rows_end_in}
use lib.ListN.{length}
use Prim.Native.Nat.{◌*◌, ◌≤◌}
use mathlib.Core.Path.{refl}
use native.Mathlib.Omega.{arith}
use borrow.Author.Rules.{rules}
use Rattle.columns.proofs.pair_any_short.Goals as goal
use Rattle.columns.proofs.pair_any_short.Goals.{After-rows_end}

below : (c : After-rows_end) → c.rows_end.result * length c.args.y.now ≤ length c.args.s.now
below c = rows_end_in _ _ _ c.args.first c.args.lo c.args.count c.args.last _ c.requires.pair
    c.rows_end.ensures

pub returns-then-n-eq0 : goal.returns-then-n-eq0
returns-then-n-eq0 c =
    record {
      one = no_row _ _ _ refl c.if-n-eq0.true;
      other = no_row _ _ _ c.requires.pair.same c.if-n-eq0.true;
    }

pub rows_end-requires : goal.rows_end-requires
rows_end-requires c =
    let few = rows_few _ _ _ c.args.first c.args.lo c.args.count c.args.last c.requires.pair
    (omega arith) in (omega (arith, few), (omega (arith, few), omega (arith, few)))

pub pair_short-requires : goal.pair_short-requires
pair_short-requires c =
    record {
      inside = rows_inside _ _ 64 c.args.first c.args.lo c.args.count c.args.last _
          c.rows_end.ensures (omega (arith, below (goal.at.pair_short-requires c).After-rows_end));
      z_len = (c.requires.pair.same, (search rules, search rules));
    }
