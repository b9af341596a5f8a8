-- Rows by runs of k cells, then runs of k rows.
-- Together they are the square: `square_made`.
use Prim.Native.Nat.{◌*◌}
use mathlib.Core.Path.{ap}
use native.Mathlib.Omega.{arith}
use borrow.Author.Rules.{rules}
use Rattle.squares.proofs.Made.{square_made}
use Rattle.squares.proofs.sweep.Goals as goal

pub runs-requires : goal.runs-requires
runs-requires c =
    let a = c.args in
    let p = c.requires in
    let n = c.row_bytes-n.ensures in
    record {
      some_bytes = omega (arith, n, p.some_pings);
      few_bytes = omega (arith, n, p.few_pings);
      few_bins = p.few_bins;
      some_rows = p.some_cells;
      few_rows = p.few_cells;
      long = omega (
        arith,
        ap (λ r. a.h * r) n,
        p.long,
        c.run_rows.auto.t,
      );
    }

pub returns : goal.returns
returns c =
    let a = c.args in
    let p = c.requires in
    square_made a.grows a.k a.w a.h _ p.some_pings p.some_cells c.row_bytes-n.ensures
    a.t.now _ _ (λ i. search rules) p.long
    c.run_rows.ensures c.runs.ensures
