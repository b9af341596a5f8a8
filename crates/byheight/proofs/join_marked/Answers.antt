-- A row that is marked is sure, and stays so: `sure_kept`.
-- Whether blocks go free makes no difference to what is joined.
use Rattle.freeblocks.specs.Steps.Plain.{Sure}
use Rattle.freeblocks.proofs.Blocks.{sure_kept}
use lib.ListN.{length}
use Prim.Native.Nat.{◌/◌}
use mathlib.Core.Path.{sym, subst}
use native.Mathlib.Omega.{arith}
use borrow.Author.Tests.{eqb-true}
use Rattle.byheight.proofs.join_marked.Goals as goal

pub join_row-requires : goal.join_row-requires
join_row-requires c =
    record {
      t_len_bound = c.requires.t_len_bound;
      b_len = c.requires.b_len;
      sure = (λ e. c.requires.sure.0 (eqb-true c.args.mark 1 e), c.requires.sure.1);
    }

pub mark_of-requires : goal.mark_of-requires
mark_of-requires c =
    let a = c.args in
    let j = c.join_row in
    λ e. subst (λ n. Sure a.grows (n / 128) j.new.t) (sym j.auto.t)
    (subst (λ l. Sure a.grows (length a.t.now / 128) l) (sym j.ensures)
    (sure_kept a.grows a.b.now a.rising.now a.others.now a.t.now
    (length a.t.now / 128) (omega arith) (c.requires.sure.0 (eqb-true a.mark 1 e))))
