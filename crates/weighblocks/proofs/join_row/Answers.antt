-- The blocks of the row, and then the bytes that are left:
-- `row_joined` puts them together.
use Rattle.weighblocks.proofs.Blocks.{row_joined}
use lib.ListN.{length}
use mathlib.Core.Path.{◌≡◌}
use native.Mathlib.Omega.{arith}
use borrow.Author.Rules.{rules}
use Rattle.weighblocks.proofs.join_row.Goals as goal

pub join_rest-requires : goal.join_rest-requires
join_rest-requires c =
    let k : length c.join_blocks.new.t ≡ length c.args.t.now = search rules in record {
      i_in_bounds = (omega (arith, k), omega (arith, k));
      i_bound = (λ l. omega (arith, k, l, c.requires.t_len_bound));
      b_len = (c.requires.b_len.0, c.requires.b_len.1);
    }

pub returns : goal.returns
returns c =
    let a = c.args in
    row_joined a.grows a.b.now a.rising.now a.others.now a.t.now _ _ _
    (omega arith) c.join_blocks.ensures
    c.join_rest.ensures
