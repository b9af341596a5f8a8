-- Stands on `join_blocks` and `join_short`.
-- A row of no byte stays.
use Rattle.rooms.proofs.Row.{none_joined}
use Rattle.rooms.proofs.Lanes.{joined_all}
use Rattle.rooms.specs.Steps.Lanes.{row_joined}
use native.Mathlib.Omega.{arith}
use borrow.Author.Rules.{rules}
use Rattle.rooms.proofs.join_row.Goals as goal

pub join_blocks-requires : goal.join_blocks-requires
join_blocks-requires g c =
    record {
      in_bounds = search rules;
      reached = λ j h. omega (arith, c.requires j h);
    }

pub join_short-requires : goal.join_short-requires
join_short-requires g c =
    record {
      t_len_bound = search rules;
      reached = λ j h. omega (arith, c.requires j h);
    }

pub returns-else-t-gt0 : goal.returns-else-t-gt0
unfolding row_joined
returns-else-t-gt0 g c =
    let a = c.args in
    none_joined (joined_all g.L.Lane.way a.grows a.b.now a.at.now) a.t.now (omega arith)
