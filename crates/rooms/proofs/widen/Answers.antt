use Rattle.rooms.proofs.Lanes.{blocks_none, blocks_some, blocks_next, blocks_all}
use Rattle.rooms.proofs.Windows.{widen_more}
use Rattle.rooms.specs.Steps.Lanes.{widened_to}
use Rattle.blocks.proofs.Laid.{laid_none}
use Rattle.std.specs.Int.{div_ceil}
use Prim.Native.Nat.{◌+◌, ◌-◌, ◌*◌, ◌≤◌, ◌<◌, min}
use mathlib.Core.Path.{◌≡◌, refl, ap, ◌∙◌}
use native.Mathlib.Omega.{arith}
use Rattle.rooms.proofs.widen.Goals as goal

pub loop-k-init : goal.loop-k-init
unfolding widened_to
loop-k-init g c =
    let a = c.args in (
      refl,
      laid_none _ _ _ ∙ ap (λ n. widened_to g.L.Lane.way a.grows a.from a.to n a.d a.e a.f a.b.now)
          (blocks_none a.n),
    )

pub widened-c-requires : goal.widened-c-requires
widened-c-requires g c =
    let n = c.args.n in
    let some : 64 ≤ n = blocks_some c.loop-k.k n c.requires.whole
    (omega (arith, c.loop-k-test.true, c.div_ceil-k-end.ensures)) in
    let i : c.min-i.result + 64 ≤ n = omega (arith, some, c.min-i.ensures, c.saturating_sub-last.ensures) in
    record {
      first = omega (arith, i, c.loop-k.invariant.0, c.requires.first.0);
      second = omega (arith, i, c.loop-k.invariant.0, c.requires.second.0);
      third = omega (arith, i, c.loop-k.invariant.0, c.requires.third.0);
    }

pub loop-k-preserved : goal.loop-k-preserved
loop-k-preserved g c =
    let a = c.args in
    let l = c.loop-k in
    let p = c.put_block in
    let way = g.L.Lane.way in
    let below : l.k < div_ceil a.n 64 = omega (arith, c.loop-k-test.true, c.div_ceil-k-end.ensures) in
    let some = blocks_some l.k a.n c.requires.whole below in
    let i : c.min-i.result ≡ min (a.n - 64) (64 * l.k) =
    omega (arith, c.min-i.ensures, c.saturating_sub-last.ensures) in
    let last : c.min-i.result + 64 ≡ min (64 * (l.k + 1)) a.n = blocks_next l.k _ a.n i some below in (
      p.auto.t ∙ l.invariant.0,
      widen_more way g.met.L.Lane.joins a.grows a.from a.to a.n a.d a.e a.f a.b.now c.requires l.b
          (min (64 * l.k) a.n) (omega arith) l.invariant.1 _ _ p.new.t
          (omega (arith, i)) (omega (arith, i)) (omega (arith, i, some)) c.widened-c.ensures p.ensures
          ∙ ap (λ m. widened_to way a.grows a.from a.to m a.d a.e a.f a.b.now) last,
    )

pub returns : goal.returns
returns g c =
    let a = c.args in
    let l = c.loop-k in
    let e : min (64 * l.k) a.n ≡ a.n =
    blocks_all l.k _ (omega (arith, c.loop-k-test.false, c.div_ceil-k-end.ensures)) in
    l.invariant.1 ∙ ap (λ m. widened_to g.L.Lane.way a.grows a.from a.to m a.d a.e a.f a.b.now) e
