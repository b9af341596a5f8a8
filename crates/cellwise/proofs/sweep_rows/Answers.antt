-- All rows, one by one: nothing is made before the first.
-- What is then made is all: `all_made`.
use Rattle.cellwise.proofs.Made.{no_rows, all_made}
use native.Mathlib.Omega.{arith}
use Rattle.cellwise.proofs.sweep_rows.Goals as goal

pub fill_rows-requires : goal.fill_rows-requires
fill_rows-requires c =
    let a = c.args in record {
      ready = c.requires.ready;
      from_le_to = (omega arith, omega arith);
      down = no_rows a.grows a.s.now a.w a.h a.o a.words.now a.t.now c.requires.t_len;
    }

pub returns : goal.returns
returns c =
    let a = c.args in
    all_made a.grows a.s.now a.w a.h a.o a.words.now c.fill_rows.new.t
    (λ i. let f = c.type_inv.s i in omega
    arith) c.requires.ready.some_pings 0 0
    c.fill_rows.ensures
