use Rattle.mates.proofs.Steps.{mates_none, mates_more, mates_all}
use Rattle.regions.proofs.Labels.{mate_le}
use Rattle.mates.proofs.Frames.{unite_room}
use Rattle.regions.specs.Regions.{point_of}
use mathlib.Core.Path.{refl, sym, ◌∙◌, subst}
use Prim.Native.Nat.{◌+◌, ◌≤◌}
use native.Mathlib.Omega.{arith}
use borrow.Author.Rules.{rules}
use Rattle.labels.proofs.unite_point.Goals as goal

pub loop-k-init : goal.loop-k-init
loop-k-init c = (search rules, refl, mates_none _ _ _ _ _)

pub unite-requires : goal.unite-requires
unite-requires c =
    let a = c.args in
    unite_room _ _ a.w a.h a.i _ c.requires.places c.requires.i_bound
    (subst (λ n. n ≤ a.i + 1) (sym c.mate-m.ensures)
    (mate_le a.w a.h (point_of a.s.now a.w) c.requires.framed.some_pings a.i c.requires.i_bound _))
    c.loop-k.invariant.1

pub loop-k-preserved : goal.loop-k-preserved
loop-k-preserved c =
    let l = c.loop-k in
    let u = c.unite in (
      omega arith,
      u.auto.up ∙ l.invariant.1,
      mates_more _ _ _ _ _ l.up _ l.k _ l.invariant.2 c.mate-m.ensures
          u.ensures,
    )

pub returns : goal.returns
returns c = mates_all _ _ _ _ _ _ c.loop-k.k (omega arith) c.loop-k.invariant.2
