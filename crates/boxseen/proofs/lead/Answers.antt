-- Stands on `pair`: what both rows see is joined once, and each row sees at most one more.
-- Every row that is seen lies in the frame.
use Rattle.boxrow.proofs.Widths.{before_lt}
use Rattle.boxseen.proofs.Shared.{lead_lo, lead_fit, lead_upper, lead_lower}
use lib.ListN.{length}
use lib.Seq.{length-take-le}
use Prim.Native.Nat.{◌*◌}
use mathlib.Core.Path.{sym}
use native.Mathlib.Omega.{arith}
use Rattle.boxseen.proofs.lead.Goals as goal

pub overflow_sub-y : goal.overflow_sub-y
overflow_sub-y c =
    omega (
      arith,
      c.before-above.ensures,
      before_lt c.args.grows c.args.o c.args.high c.requires.origin_in,
    )

pub overflow_sub-z : goal.overflow_sub-z
overflow_sub-z c =
    omega (
      arith,
      c.before-above.ensures,
      before_lt c.args.grows c.args.o c.args.high c.requires.origin_in,
    )

pub overflow_sub-z-2 : goal.overflow_sub-z-2
overflow_sub-z-2 c =
    omega (
      arith,
      c.before-above.ensures,
      before_lt c.args.grows c.args.o c.args.high c.requires.origin_in,
    )

pub slice_bounds-pair-end : goal.slice_bounds-pair-end
slice_bounds-pair-end c =
    sym (length-take-le (c.args.h * length c.args.one.now) c.args.s.now c.requires.source)

pub overflow_sub-end : goal.overflow_sub-end
overflow_sub-end c =
    let a = c.args in
    lead_lo _ (length a.one.now) _ a.h a.o a.high a.y a.z _ _ _ _ _ a.grows c.requires
    c.before-above.ensures c.saturating_sub-lo.ensures c.lesser-end.ensures
    c.lesser-last.ensures
    c.saturating_sub.ensures

pub pair-requires : goal.pair-requires
pair-requires c =
    let a = c.args in
    lead_fit _ (length a.one.now) _ a.h a.o a.high a.y a.z _ _ _ _ _ a.grows c.requires
    c.before-above.ensures c.saturating_sub-lo.ensures c.lesser-end.ensures
    c.lesser-last.ensures
    c.saturating_sub.ensures _ (length-take-le (a.h * length a.one.now) a.s.now c.requires.source)

pub returns : goal.returns
returns c =
    let a = c.args in record {
      first = lead_upper _ (length a.one.now) _ a.h a.o a.high a.y a.z _ _ _ _ _ a.grows c.requires
          c.before-above.ensures c.saturating_sub-lo.ensures c.lesser-end.ensures c.lesser-last.ensures
          c.saturating_sub.ensures a.packed a.s.now _ c.pair.ensures.one;
      second = lead_lower _ (length a.one.now) _ a.h a.o a.high a.y a.z _ _ _ _ _ a.grows c.requires
          c.before-above.ensures c.saturating_sub-lo.ensures c.lesser-end.ensures c.lesser-last.ensures
          c.saturating_sub.ensures a.packed a.s.now _ c.pair.ensures.other;
    }
