use Rattle.columns.proofs.Rows.{also_byte}
use Rattle.columns.specs.Steps.Down.{also_at}
use Rattle.blocks.proofs.Laid.{laid_none, block_more, block_done}
use lib.ListN.{length, length-set}
use mathlib.Core.Path.{refl}
use native.Mathlib.Omega.{arith}
use borrow.Author.Rules.{rules}
use Rattle.columns.proofs.pair_bytes.Goals as goal

pub loop-j-init : goal.loop-j-init
loop-j-init c = (search rules, search rules, search rules, laid_none _ _ _, laid_none _ _ _)

pub loop-j-preserved : goal.loop-j-preserved
loop-j-preserved c =
    let l = c.loop-j in
    let a = c.args in
    let n = length a.y.now in
    let d = c.byte_down-c in (
      search rules,
      simp length-set l.invariant.1,
      simp length-set l.invariant.2,
      block_more n (also_at a.packed a.grows a.s.now n a.lo a.count a.first) a.y.now
          l.y l.j refl l.invariant.3 _ (omega arith)
          (also_byte a.packed a.grows a.s.now n a.lo a.count a.first l.j d.result _
          d.ensures c.join.ensures),
      block_more n (also_at a.packed a.grows a.s.now n a.lo a.count a.last) a.z.now
          l.z l.j c.requires.same l.invariant.4 _ (omega arith)
          (also_byte a.packed a.grows a.s.now n a.lo a.count a.last l.j d.result _
          d.ensures c.join-in-loop-j.ensures),
    )

pub returns : goal.returns
returns c =
    let a = c.args in
    let l = c.loop-j in record {
      one = block_done (length a.y.now) _ a.y.now l.y l.j refl l.invariant.3 (omega arith);
      other = block_done (length a.y.now) _ a.z.now l.z l.j c.requires.same l.invariant.4 (omega arith);
    }
