use Rattle.byheight.proofs.Part.{part_start, part_open, part_next}
use Rattle.byheight.proofs.Whole.{part_all}
use Prim.Native.Nat.{◌+◌}
use mathlib.Core.Path.{refl, ◌∙◌}
use native.Mathlib.Omega.{arith}
use borrow.Author.Rules.{rules}
use Rattle.byheight.proofs.sweep_whole.Goals as goal

pub loop-r-init : goal.loop-r-init
loop-r-init c =
    let a = c.args in
    let g = c.begin in (
      search rules,
      refl,
      part_start a.grows a.s.now a.w a.h a.o a.words.now a.hs.now _ _ c.requires.t_len
          g.ensures,
      λ i. let f = c.type_inv.t i in omega arith,
    )

pub rows_at_once-n-requires : goal.rows_at_once-n-requires
rows_at_once-n-requires c = let p = c.requires.ready in (omega (arith, p.column), p.few_wide)

pub sweep_rows-requires : goal.sweep_rows-requires
sweep_rows-requires c =
    let a = c.args in
    let l = c.loop-r in
    let n = c.rows_at_once-n in record {
      ready = c.requires.ready;
      t_len = (
        l.invariant.1 ∙ c.begin.auto.t ∙ c.requires.t_len,
        record {
          wide = c.requires.ready.few_wide;
          high = c.requires.ready.few_high;
          column = c.requires.ready.column;
          words = c.requires.ready.words;
          rows = omega (arith, n.ensures.1.0, l.invariant.0);
          room = n.ensures.0;
        },
      );
      part = part_open a.grows a.s.now a.w a.h a.o a.words.now a.hs.now l.r n.result
          l.t l.invariant.2;
    }

pub overflow_add-r : goal.overflow_add-r
overflow_add-r c =
    omega (
      arith,
      c.rows_at_once-n.ensures.1.0,
      c.loop-r.invariant.0,
      c.requires.ready.few_high,
    )

pub loop-r-smaller : goal.loop-r-smaller
loop-r-smaller c =
    omega (
      arith,
      c.rows_at_once-n.ensures.1.1 (omega (
        arith,
        c.loop-r-test.true,
      )),
      c.rows_at_once-n.ensures.1.0,
      c.loop-r-test.true,
    )

pub loop-r-preserved : goal.loop-r-preserved
loop-r-preserved c =
    let a = c.args in
    let l = c.loop-r in
    let n = c.rows_at_once-n in
    let r = c.sweep_rows in (
      omega (arith, n.ensures.1.0, l.invariant.0),
      r.auto.t ∙ l.invariant.1,
      part_next a.grows a.s.now a.w a.h a.o a.words.now a.hs.now l.r n.result
          a.h (l.r + n.result) r.new.t refl refl r.ensures,
      λ i. let f = c.type_inv.t i in omega arith,
    )

pub shape_of-t : goal.shape_of-t
shape_of-t c = c.loop-r.invariant.1 ∙ c.begin.auto.t

pub returns : goal.returns
returns c =
    let a = c.args in
    let l = c.loop-r in
    part_all a.grows a.s.now a.w a.h a.o a.words.now a.hs.now l.t l.r
    (omega (arith, c.loop-r-test.false))
    (λ i. let f = c.type_inv.s i in omega arith) l.invariant.3 l.invariant.2
    c.requires.ready.some_pings
    (l.invariant.1 ∙ c.begin.auto.t ∙ c.requires.t_len)
