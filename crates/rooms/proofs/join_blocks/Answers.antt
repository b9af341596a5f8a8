use Rattle.rooms.proofs.Row.{row_at, blocks_more}
use Rattle.rooms.proofs.Lanes.{joined_all, all_again, blocks_none, blocks_next, blocks_all}
use Rattle.rooms.specs.Steps.Lanes.{row_joined, places_joined}
use Rattle.blocks.specs.Steps.Laid.{laid}
use Rattle.blocks.proofs.Laid.{laid_none}
use lib.ListN.{length}
use Prim.Native.Nat.{◌+◌, ◌-◌, ◌*◌, min}
use mathlib.Core.Path.{◌≡◌, refl, ap, ◌∙◌}
use native.Mathlib.Omega.{arith}
use Rattle.rooms.proofs.join_blocks.Goals as goal

pub loop-k-init : goal.loop-k-init
loop-k-init g c =
    let a = c.args in (
      refl,
      laid_none _ _ _
          ∙ ap (λ n. laid 0 n (row_at (joined_all g.L.Lane.way a.grows a.b.now a.at.now) a.t.now) a.t.now)
          (blocks_none (length a.t.now)),
    )

pub join_places-e-requires : goal.join_places-e-requires
join_places-e-requires g c = λ j h. omega (arith, c.requires.reached j h)

pub loop-k-preserved : goal.loop-k-preserved
unfolding places_joined
loop-k-preserved g c =
    let a = c.args in
    let l = c.loop-k in
    let p = c.put_block in
    let way = g.L.Lane.way in
    let i : c.min-i.result ≡ min (length a.t.now - 64) (64 * l.k) = omega (arith, c.min-i.ensures) in
    let last : c.min-i.result + 64 ≡ min (64 * (l.k + 1)) (length a.t.now) =
    blocks_next l.k _ _ i c.requires.in_bounds
    (omega (arith, c.loop-k-test.true, c.div_ceil-k-end.ensures)) in (
      p.auto.t ∙ l.invariant.0,
      blocks_more (joined_all way a.grows a.b.now a.at.now) a.t.now
          (all_again way g.met.L.Lane.joins a.grows a.b.now a.at.now) l.t _ _ p.new.t
          (min (64 * l.k) (length a.t.now)) _ (omega (arith, i))
          (omega (arith, i)) (omega (arith, i, c.requires.in_bounds))
          l.invariant.1
          c.block_at-c.ensures
          c.join_places-e.ensures p.ensures
          ∙ ap (λ n. laid 0 n (row_at (joined_all way a.grows a.b.now a.at.now) a.t.now) a.t.now) last,
    )

pub returns : goal.returns
unfolding row_joined
returns g c =
    let a = c.args in
    let l = c.loop-k in
    let e : min (64 * l.k) (length a.t.now) ≡ length a.t.now =
    blocks_all l.k _ (omega (arith, c.loop-k-test.false, c.div_ceil-k-end.ensures)) in
    l.invariant.1
    ∙ ap (λ n. laid 0 n (row_at (joined_all g.L.Lane.way a.grows a.b.now a.at.now) a.t.now) a.t.now) e
