-- The places that column x sees are those of its cells in the frame: `column_made`.
-- What is read and what is written lies in the picture: `near_reach`, `in_row`.
use lib.ListN.{length}
use Rattle.cellwise.proofs.Made.{in_row, place_few, near_reach, column_made}
use Rattle.cellwise.proofs.Spots.{base_few}
use lib.Seq.{length-take-le}
use mathlib.Core.Path.{refl, sym}
use native.Mathlib.Omega.{arith}
use Rattle.cellwise.proofs.column.Goals as goal

pub pick-k-requires : goal.pick-k-requires
pick-k-requires c =
    let a = c.args in
    let p = c.requires.x_lt_w in record {
      into_len = (refl, p.1.few);
      le_w = (c.requires.ready.some_pings, p.0);
      by_index = place_few a.grows a.s.now a.w a.h a.o a.words.now
          (λ i. let f = c.type_inv.s i in omega
          arith) c.requires.middle
          c.requires.ready.column c.requires.ready.row a.at.now p.1 c.requires.ready.few_pings
          c.requires.ready.few_high c.requires.ready.few_wide;
    }

pub overflow_mul-up : goal.overflow_mul-up
overflow_mul-up c =
    omega (
      arith,
      base_few c.up_of-up.result c.args.o.h c.args.w c.up_of-up.ensures.1
          c.requires.ready.few_high c.requires.ready.few_pings,
    )

pub overflow_add-up : goal.overflow_add-up
overflow_add-up c =
    omega (
      arith,
      base_few c.up_of-up.result c.args.o.h c.args.w c.up_of-up.ensures.1
          c.requires.ready.few_high c.requires.ready.few_pings,
      c.requires.x_lt_w.0,
      c.requires.ready.few_pings,
    )

pub slice_bounds-step-end : goal.slice_bounds-step-end
slice_bounds-step-end c =
    let g = c.pick-k.ensures in
    sym (length-take-le c.pick-k.result c.pick-k.new.into
    (omega (
      arith,
      g.long,
      g.few,
      c.requires.x_lt_w.1.few,
    )))

pub step-requires : goal.step-requires
step-requires c =
    let a = c.args in
    record {
      by_index = λ i l. omega (
        arith,
        c.requires.across.long,
        in_row a.grows a.s.now a.w a.h a.o a.words.now
            (λ i. let f = c.type_inv.s i in omega arith) c.requires.middle
            c.requires.ready.column c.requires.ready.row a.at.now c.requires.x_lt_w.1 c.up_of-up.result a.x
            c.up_of-up.ensures.0 c.requires.x_lt_w.0 i l,
      );
      by_index_2 = near_reach a.grows a.s.now a.w a.h a.o a.words.now
          (λ i. let f = c.type_inv.s i in omega arith) c.requires.middle
          c.requires.ready.column c.requires.ready.row a.at.now c.requires.x_lt_w.1 a.x c.requires.x_lt_w.0
          c.back_of-back.result c.pick-k.result c.pick-k.new.into c.back_of-back.ensures.0
          c.pick-k.ensures (length a.s.now) c.requires.ready.source;
    }

pub returns : goal.returns
returns c =
    let a = c.args in
    column_made a.grows a.s.now a.w a.h a.o a.words.now
    (λ i. let f = c.type_inv.s i in omega arith) c.requires.middle
    c.requires.ready.column c.requires.ready.row a.at.now c.requires.x_lt_w.1 a.x c.pick-k.result
    c.pick-k.new.into a.t.now _ c.up_of-up.result c.back_of-back.result
    c.up_of-up.ensures.0 c.back_of-back.ensures.0 c.requires.x_lt_w.0 c.pick-k.ensures
    c.step.ensures c.requires.across
