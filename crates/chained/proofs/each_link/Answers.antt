use native.Mathlib.Omega.{arith}
use Rattle.chained.proofs.Buffers.{after_none, after_more, after_all, first_fits, second_fits}
use Rattle.chained.proofs.each_link.Goals as goal

pub loop-i-init : goal.loop-i-init
loop-i-init c = (omega arith, after_none _ _ _ _ _ _ _ _)

pub bounds-all-i : goal.bounds-all-i
bounds-all-i c = let few = c.requires.few in omega arith

pub link-requires : goal.link-requires
link-requires c =
    let l = c.loop-i in
    let g = c.requires in record {
      holds = g.source_holds;
      holds_2 = first_fits _ _ _ _ _ _ _ _ _ _ _ l.invariant.1 g.first_holds;
      holds_3 = second_fits _ _ _ _ _ _ _ _ _ _ _ l.invariant.1 g.second_holds;
      fit = g.fitting l.i c.loop-i-test.true;
    }

pub loop-i-preserved : goal.loop-i-preserved
loop-i-preserved c =
    let l = c.loop-i in (
      omega arith,
      after_more _ _ _ _ _ _ _ _ _ _ l.i l.invariant.1 _ _ c.link.ensures.first
          c.link.ensures.second c.link.auto.first c.link.auto.second,
    )

pub shape_of-first : goal.shape_of-first
shape_of-first c = c.loop-i.invariant.1.one_long

pub shape_of-second : goal.shape_of-second
shape_of-second c = c.loop-i.invariant.1.two_long

pub returns : goal.returns
returns c =
    let a = c.args in let l = c.loop-i in
    let p = after_all a.grows a.depth a.w a.h a.source.now a.all a.first.now a.second.now l.first l.second
    l.i l.invariant.1 a.links (omega arith) in
    record { first = p.0; second = p.1 }
