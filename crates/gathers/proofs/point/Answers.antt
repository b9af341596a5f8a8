use Rattle.morphology.specs.Operations.{fold}
use Rattle.rows.specs.Steps.Fold.{start_by}
use Rattle.rooms.specs.Steps.Joined.{at_places}
use Rattle.gathers.proofs.Gathered.{point_more}
use mathlib.Core.Path.{◌≡◌, refl, ap, ◌∙◌}
use native.Mathlib.Omega.{arith}
use lib.ListN.{length}
use Rattle.gathers.proofs.point.Goals as goal

pub loop-p-init : goal.loop-p-init
unfolding at_places fold
loop-p-init c = c.beyond-c.ensures

pub overflow_add-i : goal.overflow_add-i
overflow_add-i c = omega (arith, c.requires c.loop-p.p-index c.loop-p-test.true)

pub bounds-s-i : goal.bounds-s-i
bounds-s-i c = omega (arith, c.requires c.loop-p.p-index c.loop-p-test.true)

pub loop-p-preserved : goal.loop-p-preserved
loop-p-preserved c =
    let l = c.loop-p in
    let a = c.args in
    c.join-c.ensures
    ∙ point_more a.grows (start_by a.grows 255) a.s.now a.at.now a.i l.p-index _ _ l.invariant refl

pub returns : goal.returns
returns c =
    let a = c.args in
    let e : c.loop-p.p-index ≡ length a.at.now = omega arith in
    c.loop-p.invariant ∙ ap (at_places a.grows (start_by a.grows 255) a.s.now a.i a.at.now) e
