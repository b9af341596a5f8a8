-- Stands on `gather`, which leaves in b what stands at all places, and on `join_bytes`, which joins it into
-- t.
-- `row_joined`: joined among itself first and then into the row is the same as one after another.
use Rattle.windows.proofs.Places.{row_joined}
use Rattle.windows.specs.Steps.Places.{blocks_of}
use lib.ListN.{length}
use native.Mathlib.Omega.{arith}
use borrow.Author.Rules.{rules}
use Rattle.windows.proofs.join_row.Goals as goal

pub returns : goal.returns
returns c =
    let a = c.args in
    let g = c.gather in record {
      t_after = row_joined a.grows a.b.now _ a.at.now a.t.now _ (blocks_of (length a.t.now))
          (λ i. search rules) (omega arith) c.requires.t_in_bounds g.ensures
          c.join_bytes.ensures;
      b_after = g.ensures;
    }
