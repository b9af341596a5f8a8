-- Of each call: the region is listed first, its line at its place, and then each region that lies in it.
-- A region that is listed leaves fewer, so the call inside gets a smaller number.
use mathlib.Core.Path.{◌≡◌, refl, ap, ◌∙◌}
use native.Mathlib.Omega.{arith}
use lib.ListN.{length}
use Rattle.regions.proofs.Counts.{count_le}
use Rattle.nesting.specs.Steps.Tree.{at}
use Rattle.nesting.proofs.Children.{orders, orders_none, lines_none, order_all, lines_all}
use Rattle.nesting.proofs.Children.{child_low, next_room, next_yes, order_yes, order_no, line_yes, line_no}
use Rattle.nesting.proofs.+list_region.Goals as goal
use Rattle.nesting.proofs.+list_region.Goals.{then-parent-r, else-parent-r}

pub note-requires : goal.note-requires
note-requires t c =
    let a = c.args in let q = c.requires in
    let k = next_room a.labels.now a.inner.now a.w a.n a.r a.d q.tree (length a.list.now) a.m q.next in (
      omega (arith, k, q.next.places),
      (
        omega (arith, k, q.next.depth, q.tree.few_regions),
        (
          omega (arith, c.count-points.ensures, count_le (at a.labels.now) a.r a.n, q.tree.few_points),
          omega (arith, k, q.tree.few_regions),
        ),
      ),
    )

pub loop-k-init : goal.loop-k-init
loop-k-init t c =
    let a = c.args in (
      omega arith,
      refl,
      omega (arith, orders_none a.labels.now a.inner.now a.w a.n a.r a.d),
      lines_none a.labels.now a.inner.now a.w a.n a.r a.d _ _,
    )

pub parent-requires : goal.parent-requires
parent-requires t c =
    let a = c.args in let tree = c.requires.tree in
    let k = child_low a.labels.now a.inner.now a.w a.n a.r a.d tree c.loop-k.k c.loop-k-test.true in (
      tree.some_pings,
      (omega (arith, k.0, c.node-child.ensures), omega (arith, k.1, c.node-child.ensures, tree.room)),
    )

pub list_region-next-requires : goal.list_region-next-requires
list_region-next-requires t c =
    let a = c.args in let q = c.requires in let l = c.loop-k in
    let k = next_room a.labels.now a.inner.now a.w a.n a.r a.d q.tree (length a.list.now) a.m q.next in (
      omega (arith, c.decreases, l.invariant.2, k),
      (
        q.tree,
        next_yes a.labels.now a.inner.now a.w a.n a.r a.d l.k _ _ c.node-child.ensures
            c.parent.ensures q.tree _ _ a.m l.next q.next (l.invariant.1 ∙ c.note.auto.list) l.invariant.2
            c.loop-k-test.true c.if-parent-r.true,
      ),
    )

pub loop-k-preserved : goal.loop-k-preserved
loop-k-preserved t c =
    let a = c.args in let l = c.loop-k in (
      omega (arith, c.loop-k-test.true),
      c.if-parent-r.auto.list ∙ l.invariant.1,
      elim c.if-parent-r.branch [
        | then-parent-r w ↦ order_yes a.labels.now a.inner.now a.w a.n a.r a.d l.k _ _
            c.node-child.ensures c.parent.ensures a.m l.next _ w.if-parent-r.true l.invariant.2
            (w.next-is ∙ w.list_region-next.ensures.value)
        | else-parent-r w ↦ w.next-is ∙ order_no a.labels.now a.inner.now a.w a.n a.r a.d l.k _ _
            c.node-child.ensures c.parent.ensures a.m l.next w.if-parent-r.false l.invariant.2
      ],
      elim c.if-parent-r.branch [
        | then-parent-r w ↦ line_yes a.labels.now a.inner.now a.w a.n a.r a.d l.k _ _
            c.node-child.ensures c.parent.ensures _ l.list _ a.m l.next w.if-parent-r.true l.invariant.2
            l.invariant.3 (w.list-is ∙ w.list_region-next.ensures.list_after)
        | else-parent-r w ↦ w.list-is ∙ line_no a.labels.now a.inner.now a.w a.n a.r a.d l.k _ _
            c.node-child.ensures c.parent.ensures _ l.list a.m w.if-parent-r.false l.invariant.3
      ],
    )

pub returns : goal.returns
returns t c =
    let a = c.args in let q = c.requires in let l = c.loop-k in
    let e : l.k ≡ length a.inner.now = omega (arith, c.loop-k-test.false, l.invariant.0) in
    record {
      value = omega (
        arith,
        l.invariant.2,
        ap (λ k. length (orders a.labels.now a.inner.now a.w a.n a.r a.d k)) e,
        order_all a.labels.now a.inner.now a.w a.n a.r a.d q.tree q.next.region,
      );
      list_after = lines_all a.labels.now a.inner.now a.w a.n a.r a.d q.tree _ _ l.list a.m _ l.k
          q.next.region c.count-points.ensures e c.note.ensures l.invariant.3;
    }
