use Rattle.freeblocks.proofs.Blocks.{free_none, free_any}
use mathlib.Core.Path.{◌≡◌, ◌∙◌}
use native.Mathlib.Omega.{arith}
use borrow.Author.Rules.{rules}
use Rattle.freeblocks.proofs.join_free.Goals as goal

pub loop-k-init : goal.loop-k-init
loop-k-init c = (search rules, search rules, free_none _ _ _ _ _)

pub returns-then-shows : goal.returns-then-shows
returns-then-shows c =
    let l = c.loop-k in record {
      few = l.invariant.0;
      bytes = l.invariant.2;
    }

pub loop-k-preserved : goal.loop-k-preserved
loop-k-preserved c =
    let a = c.args in
    let l = c.loop-k in
    let p = c.put_bytes in (
      search rules,
      p.auto.t ∙ l.invariant.1,
      free_any a.grows a.b.now a.rising.now a.others.now a.t.now a.sure a.limit a.n
          c.requires.sure.0 c.requires.sure.1 c.requires.under l.t _ _ _ p.new.t l.k
          (omega arith) (omega arith) l.invariant.2
          c.bytes_at-c.ensures
          c.join_cells-x.ensures
          c.join_cells-d.ensures
          (c.shows.ensures c.if-shows.false) p.ensures,
    )

pub returns : goal.returns
returns c =
    let a = c.args in
    let l = c.loop-k in
    let e : a.n ≡ l.k = omega arith in record {
      few = omega arith;
      bytes = rw e l.invariant.2;
    }
