-- Either way it is the same picture.
-- The middle is taken where there is one, and a cell to see it by.
use native.Mathlib.Omega.{arith}
use Rattle.cellwise.proofs.sweep_whole.Goals as goal

pub middle_bytes-n-requires : goal.middle_bytes-n-requires
middle_bytes-n-requires c =
    let r = c.requires.ready in (
      r.some_pings,
      (
        r.few_pings,
        r.few_bins,
      ),
    )

pub sweep_middle-requires : goal.sweep_middle-requires
sweep_middle-requires c =
    let g = c.middle_bytes-n.ensures (omega arith) in
    record {
      ready = c.requires.ready;
      middle = g.0;
      at_nonzero = (omega arith, g.1);
      places = c.requires.places;
      t_len = c.requires.t_len;
    }

pub returns-then-at-gt0 : goal.returns-then-at-gt0
returns-then-at-gt0 c = c.sweep_middle.ensures

pub sweep_rows-requires : goal.sweep_rows-requires
sweep_rows-requires c =
    record {
      ready = c.requires.ready;
      t_len = c.requires.t_len;
    }

pub returns : goal.returns
returns c = c.sweep_rows.ensures
