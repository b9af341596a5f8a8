use Prim.Native.Nat.{◌+◌, ◌*◌, min}
use Rattle.columns.proofs.Rows.{also_block}
use Rattle.columns.specs.Steps.Down.{also_at}
use Rattle.blocks.specs.Steps.Laid.{laid}
use Rattle.blocks.proofs.Laid.{laid_none, laid_whole, laid_over}
use lib.ListN.{length}
use mathlib.Core.Path.{◌≡◌, refl, ap, ◌∙◌}
use native.Mathlib.Omega.{arith}
use borrow.Author.Rules.{rules}
use Rattle.columns.proofs.pair_blocks.Goals as goal

pub loop-k-init : goal.loop-k-init
loop-k-init c =
    let a = c.args in
    let m = length a.y.now in
    let e : 0 ≡ min (64 * 0) m = omega arith in (
      search rules,
      search rules,
      laid_none _ _ _ ∙ ap (λ n. laid 0 n (also_at a.packed a.grows a.s.now m a.lo a.count a.first) a.y.now)
          e,
      laid_none _ _ _ ∙ ap (λ n. laid 0 n (also_at a.packed a.grows a.s.now m a.lo a.count a.last) a.z.now) e,
    )

pub loop-k-preserved : goal.loop-k-preserved
loop-k-preserved c =
    let a = c.args in
    let m = length a.y.now in
    let l = c.loop-k in
    let least = c.min-i.ensures in
    let one = c.put_block in
    let other = c.put_block-in-loop-k in
    let d = c.down-c in
    let done : min (64 * l.k) m ≡ 64 * l.k = omega arith in
    let more : c.min-i.result + 64 ≡ min (64 * (l.k + 1)) m = omega (arith, least, c.requires.in_bounds) in (
      one.auto.t ∙ l.invariant.0,
      other.auto.t ∙ l.invariant.1,
      laid_over (also_at a.packed a.grows a.s.now m a.lo a.count a.first) (min (64 * l.k) m) _ 64
          a.y.now l.y one.new.t _ (omega (arith, least))
          (omega (arith, least, c.requires.in_bounds))
          (omega (arith, least, c.requires.in_bounds)) l.invariant.2
          (also_block a.packed a.grows a.s.now m a.lo a.count a.first
          _ d.result _ d.ensures
          c.join_block.ensures)
          one.ensures
          ∙ ap (λ n. laid 0 n (also_at a.packed a.grows a.s.now m a.lo a.count a.first) a.y.now) more,
      laid_over (also_at a.packed a.grows a.s.now m a.lo a.count a.last) (min (64 * l.k) m) _ 64
          a.z.now l.z other.new.t _ (omega (arith, least))
          (omega (arith, least, c.requires.in_bounds))
          (omega (arith, least, c.requires.in_bounds, c.requires.pair.same))
          l.invariant.3
          (also_block a.packed a.grows a.s.now m a.lo a.count a.last
          _ d.result _ d.ensures c.join_block-in-loop-k.ensures)
          other.ensures
          ∙ ap (λ n. laid 0 n (also_at a.packed a.grows a.s.now m a.lo a.count a.last) a.z.now) more,
    )

pub returns : goal.returns
returns c =
    let a = c.args in
    let m = length a.y.now in
    let l = c.loop-k in
    let e : min (64 * l.k) m ≡ m = omega arith in record {
      one = laid_whole m _ a.y.now l.y refl (l.invariant.2 ∙ ap (λ k. laid 0 k
          (also_at a.packed a.grows a.s.now m a.lo a.count a.first) a.y.now) e);
      other = laid_whole m _ a.z.now l.z c.requires.pair.same (l.invariant.3 ∙ ap (λ k. laid 0 k
          (also_at a.packed a.grows a.s.now m a.lo a.count a.last) a.z.now) e);
    }
