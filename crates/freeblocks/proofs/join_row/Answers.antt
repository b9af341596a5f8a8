-- A row of less than two blocks is joined as it was. Else as many blocks as show no end, those that are
-- left, and the bytes that are left: `row_whole` puts them together.
use Rattle.freeblocks.proofs.Blocks.{row_whole}
use lib.ListN.{length}
use mathlib.Core.Path.{◌≡◌, ◌∙◌}
use native.Mathlib.Omega.{arith}
use Rattle.freeblocks.proofs.join_row.Goals as goal

pub join_rest-requires : goal.join_rest-requires
join_rest-requires c =
    let k : length c.join_free-k.new.t
    ≡ length c.args.t.now = c.join_free-k.auto.t in
    let q : length c.join_held.new.t ≡ length c.args.t.now = c.join_held.auto.t ∙ k in record {
      i_in_bounds = (omega (arith, k, q), omega (arith, k, q));
      i_bound = (λ l. omega (arith, k, q, l, c.requires.t_len_bound));
      b_len = (c.requires.b_len.0, c.requires.b_len.1);
    }

pub returns : goal.returns
returns c =
    let a = c.args in
    let f = c.join_free-k in
    let k : length f.new.t ≡ length a.t.now = f.auto.t in
    row_whole a.grows a.b.now a.rising.now a.others.now a.t.now
    f.new.t _ _ f.result _ (omega (arith, k, f.ensures.few)) (omega (arith, k)) f.ensures.bytes
    c.join_held.ensures
    c.join_rest.ensures
