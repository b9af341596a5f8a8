use Prim.Native.Nat.{◌+◌}
use mathlib.Core.Path.{◌≡◌, sym, ap, ◌∙◌}
use native.Mathlib.Omega.{arith}
use lib.ListN.{set, length-set}
use Rattle.basics.proofs.Lists.{over_none, over_more}
use Rattle.picture.specs.declared.Depth.TheVariants.{OneBit}
use Rattle.picture.specs.Frame.{frame}
use Rattle.picture.specs.Points.{value_at}
use Rattle.sizes.specs.Spectrum as defined
use Rattle.sizes.specs.Spectrum.{count_at}
use borrow.Author.Rules.{rules}
use Rattle.spectrum.proofs.Counted.{next_fewer, count_is, last_is, counts_all}
use Rattle.spectrum.proofs.count_sides.Goals as goal

pub survivors-here-requires : goal.survivors-here-requires
survivors-here-requires c =
    record {
      le_k = (omega arith, omega arith);
      holds = c.requires.holds;
      t_len = c.requires.t_len;
    }

pub loop-i-init : goal.loop-i-init
loop-i-init c = (
  search rules,
  search rules,
  c.survivors-here.auto.t ∙ c.requires.t_len,
  c.survivors-here.ensures,
  over_none _ _,
)

pub survivors-next-requires : goal.survivors-next-requires
survivors-next-requires c =
    record {
      le_k = (omega arith, omega (arith, c.loop-i-test.true));
      holds = c.requires.holds;
      t_len = c.loop-i.invariant.2;
    }

pub overflow_sub-counts : goal.overflow_sub-counts
overflow_sub-counts c =
    let a = c.args in
    let l = c.loop-i in
    next_fewer a.w a.h a.source.now l.i _ _ (omega (arith, c.loop-i-test.true)) l.invariant.3
    c.survivors-next.ensures

pub loop-i-preserved : goal.loop-i-preserved
loop-i-preserved c =
    let a = c.args in
    let l = c.loop-i in
    let e : l.i + 2 ≡ l.i + 1 + 1 = omega arith in
    let r = c.survivors-next in (
      search rules,
      simp length-set l.invariant.1,
      r.auto.t ∙ l.invariant.2,
      r.ensures ∙ ap (defined.survivors (frame a.w a.h) (value_at OneBit a.source.now a.w)) e,
      over_more (λ i. count_at (frame a.w a.h) (value_at OneBit a.source.now a.w) (i + 1))
          a.counts.now l.counts l.i _ (omega (
            arith,
            c.requires.in_bounds,
            c.loop-i-test.true,
          ))
          l.invariant.4
          (count_is a.w a.h a.source.now l.i _ _ (omega (arith, c.loop-i-test.true)) l.invariant.3
          r.ensures),
    )

pub returns : goal.returns
returns c =
    let a = c.args in
    let l = c.loop-i in
    let e : l.i ≡ 31 = omega (arith, l.invariant.0, c.loop-i-test.false) in
    ap (λ i. set l.counts i l.here) (sym e)
    ∙ counts_all (frame a.w a.h) (value_at OneBit a.source.now a.w) l.i _ a.counts.now e
    (over_more (λ i. count_at (frame a.w a.h) (value_at OneBit a.source.now a.w) (i + 1))
    a.counts.now l.counts l.i _ (omega (
      arith,
      c.requires.in_bounds,
    )) l.invariant.4
    (last_is a.w a.h a.source.now l.i _ e l.invariant.3))
