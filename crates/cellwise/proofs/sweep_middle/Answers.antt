-- The middle, the rows above it and, past it, those below.
-- What is then made is all: `all_made`.
use Rattle.cellwise.proofs.Made.{rows_of, past_rows, all_made}
use Prim.Native.Nat.{◌+◌, ◌-◌}
use native.Mathlib.Omega.{arith}
use Rattle.cellwise.proofs.sweep_middle.Goals as goal

pub middle-requires : goal.middle-requires
middle-requires c =
    record {
      ready = c.requires.ready;
      middle = c.requires.middle;
      at_nonzero = c.requires.at_nonzero;
      places = c.requires.places;
      t_len = c.requires.t_len;
    }

pub up_of-up-requires : goal.up_of-up-requires
up_of-up-requires c = c.requires.ready.row

pub fill_rows-requires : goal.fill_rows-requires
fill_rows-requires c =
    let a = c.args in record {
      ready = c.requires.ready;
      from_le_to = (omega arith, omega (arith, c.up_of-up.ensures.1, c.requires.middle.high));
      down = rows_of a.grows a.s.now a.w a.h a.o a.words.now _ c.up_of-up.result
          c.up_of-up.ensures.0 c.middle.ensures;
    }

pub fill_rows-requires-2 : goal.fill_rows-requires-2
fill_rows-requires-2 c =
    let a = c.args in record {
      ready = c.requires.ready;
      from_le_to = (
        omega (
          arith,
          c.up_of-up.ensures.1,
          c.requires.middle.high,
        ),
        omega arith,
      );
      down = past_rows a.grows a.s.now a.w a.h a.o a.words.now _ c.up_of-up.result
          (c.up_of-up.result + (a.h + 1 - a.o.h)) c.fill_rows.ensures;
    }

pub returns : goal.returns
returns c =
    let a = c.args in
    all_made a.grows a.s.now a.w a.h a.o a.words.now c.fill_rows-2.new.t
    (λ i. let f = c.type_inv.s i in omega arith)
    c.requires.ready.some_pings _ _
    c.fill_rows-2.ensures
