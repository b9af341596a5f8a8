-- Blocks over the middle make it, and something at the ends of its rows: `middle_made`.
-- Then come the columns before it and, past it, those after.
use Rattle.cellwise.proofs.Made.{lay_fits, lay_reach, middle_made, past_middle}
use Rattle.cellwise.proofs.Spots.{base_few}
use native.Mathlib.Omega.{arith}
use lib.ListN.{length}
use Rattle.cellwise.proofs.middle.Goals as goal

pub overflow_mul-up : goal.overflow_mul-up
overflow_mul-up c =
    omega (
      arith,
      base_few c.up_of-up.result c.args.o.h c.args.w c.up_of-up.ensures.1
          c.requires.ready.few_high c.requires.ready.few_pings,
    )

pub overflow_add-up : goal.overflow_add-up
overflow_add-up c =
    omega (
      arith,
      base_few c.up_of-up.result c.args.o.h c.args.w c.up_of-up.ensures.1
          c.requires.ready.few_high c.requires.ready.few_pings,
      c.back_of-back.ensures.1,
      c.requires.ready.few_wide,
    )

pub lay-requires : goal.lay-requires
lay-requires c =
    let a = c.args in
    record {
      at_nonzero = (
        c.requires.at_nonzero.0,
        (
          c.requires.at_nonzero.1.0,
          omega (
            arith,
            c.requires.t_len,
            lay_fits a.grows a.s.now a.w a.h a.o a.words.now
                (λ i. let f = c.type_inv.s
                i in omega arith) c.requires.middle
                c.requires.ready.column c.requires.ready.row a.at.now c.requires.places c.up_of-up.result
                c.back_of-back.result a.n c.up_of-up.ensures.0 c.back_of-back.ensures.0
                c.requires.at_nonzero.1.1,
          ),
        ),
      );
      reached = lay_reach a.grows a.s.now a.w a.h a.o a.words.now
          (λ i. let f = c.type_inv.s i in
          omega arith) c.requires.middle
          c.requires.ready.column c.requires.ready.row a.at.now c.requires.places a.n (length a.s.now)
          c.requires.at_nonzero.1.1 c.requires.ready.source;
    }

pub columns-requires : goal.columns-requires
columns-requires c =
    let a = c.args in
    record {
      ready = c.requires.ready;
      middle = c.requires.middle;
      from_le_to = (
        omega arith,
        (
          omega (
            arith,
            c.back_of-back.ensures.1,
            c.requires.middle.wide,
          ),
          c.requires.places,
        ),
      );
      across = middle_made a.grows a.s.now a.w a.h a.o a.words.now
          (λ i. let f = c.type_inv.s i in omega arith) c.requires.middle
          c.requires.ready.column c.requires.ready.row a.at.now c.requires.places a.t.now _
          c.up_of-up.result c.back_of-back.result a.n c.up_of-up.ensures.0
          c.back_of-back.ensures.0 c.requires.at_nonzero.0 c.requires.at_nonzero.1.1 c.requires.t_len
          c.lay.ensures;
    }

pub columns-requires-2 : goal.columns-requires-2
columns-requires-2 c =
    let a = c.args in
    record {
      ready = c.requires.ready;
      middle = c.requires.middle;
      from_le_to = (
        omega (
          arith,
          c.back_of-back.ensures.1,
          c.requires.middle.wide,
        ),
        (omega arith, c.requires.places),
      );
      across = past_middle a.grows a.s.now a.w a.h a.o a.words.now _
          c.back_of-back.result c.back_of-back.ensures.0 c.columns.ensures;
    }
