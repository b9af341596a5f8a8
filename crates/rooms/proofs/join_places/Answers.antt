use Rattle.rooms.specs.Steps.Lanes.{places_joined}
use Rattle.rooms.proofs.Lanes.{places_none, places_more, places_length}
use lib.ListN.{length}
use Prim.Native.Nat.{◌+◌}
use mathlib.Core.Path.{◌≡◌, ap, ◌∙◌}
use native.Mathlib.Omega.{arith}
use borrow.Author.Rules.{rules}
use Rattle.rooms.proofs.join_places.Goals as goal

pub loop-p-init : goal.loop-p-init
loop-p-init g c = (search rules, places_none _ _ _ _ _ _ (search rules))

pub join_place-next-requires : goal.join_place-next-requires
join_place-next-requires g c =
    omega (arith, c.requires c.loop-p.p-index c.loop-p-test.true, ap g.L.Lane.way.reach c.from.ensures)

pub loop-p-preserved : goal.loop-p-preserved
loop-p-preserved g c =
    let l = c.loop-p in
    let a = c.args in
    let e = places_more g.L.Lane.way a.grows a.c a.b.now a.i a.at.now l.acc c.join_place-next.result _
    l.p-index l.invariant.1 c.from.ensures c.join_place-next.ensures in
    (places_length g.L.Lane.way a.grows a.c a.b.now a.i a.at.now _ (l.p-index + 1) e, e)

pub returns : goal.returns
returns g c =
    let a = c.args in
    let e : c.loop-p.p-index ≡ length a.at.now = omega arith in
    c.loop-p.invariant.1 ∙ ap (places_joined g.L.Lane.way a.grows a.c a.b.now a.i a.at.now) e
