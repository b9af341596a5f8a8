-- The row is made anew from its copy, as a picture of one row.
-- The code's element is the run of k cells: `row_run`.
use mathlib.Core.Path.{ap}
use native.Mathlib.Omega.{arith}
use lib.ListN.{length}
use Rattle.squares.proofs.Rows.{copied, row_run}
use Rattle.squares.proofs.run_row.Goals as goal

pub make_row-requires : goal.make_row-requires
make_row-requires c =
    let a = c.args in
    let p = c.requires in
    let e = ap length (copied a.t.now _ c.copy_of-s.ensures) in record {
      ready = record {
        some_pings = p.some_pings;
        few_pings = p.few_pings;
        few_bins = omega arith;
        source = omega (arith, e, p.row);
        few_wide = p.few_cells;
        few_high = omega arith;
        column = omega (arith, p.some_cells);
        row = omega arith;
        words = omega arith;
      };
      t_len = (p.row, omega arith);
    }

pub returns : goal.returns
returns c =
    let a = c.args in
    row_run a.grows a.k a.w a.t.now _ _ c.requires.few_cells
    (copied a.t.now _ c.copy_of-s.ensures) c.make_row.ensures
