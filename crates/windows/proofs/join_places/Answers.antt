use Rattle.windows.proofs.Places.{places_none, places_more, places_length}
use Rattle.windows.specs.Steps.Places.{places_joined}
use lib.ListN.{length}
use Prim.Native.Nat.{◌+◌}
use mathlib.Core.Path.{◌≡◌, ap, ◌∙◌}
use native.Mathlib.Omega.{arith}
use borrow.Author.Rules.{rules}
use Rattle.windows.proofs.join_places.Goals as goal

pub loop-p-init : goal.loop-p-init
loop-p-init c = (search rules, search rules, places_none _ _ _ _ _ (search rules))

pub join_place-next-requires : goal.join_place-next-requires
join_place-next-requires c =
    let a = c.args in
    let f = c.requires c.loop-p.p-index
    (omega arith) in
    omega (arith, f, c.from.ensures)

pub loop-p-preserved : goal.loop-p-preserved
loop-p-preserved c =
    let l = c.loop-p in
    let a = c.args in
    let e = places_more a.grows a.c l.acc c.join_place-next.result a.b.now a.i _ a.at.now
    l.p-index l.invariant.2 c.from.ensures c.join_place-next.ensures in
    (search rules, places_length a.grows a.c _ a.b.now a.i a.at.now (l.p-index + 1) e, e)

pub returns : goal.returns
returns c =
    let a = c.args in
    let e : c.loop-p.p-index ≡ length a.at.now = omega arith in
    c.loop-p.invariant.2 ∙ ap (places_joined a.grows a.c a.b.now a.i a.at.now) e
