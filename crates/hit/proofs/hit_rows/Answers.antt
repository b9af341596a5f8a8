use Rattle.rows.proofs.Written.{row_fits, written_none, written_more, written_all}
use Rattle.hit.specs.Steps.Rows.{hit_at, hit_row}
use Rattle.picture.specs.declared.Depth.TheVariants.{OneBit}
use Rattle.basics.proofs.Lists.{part_length}
use borrow.Rule.Slice.PartMut.{same_len_mid}
use lib.ListN.{length}
use Prim.Native.Nat.{◌+◌, ◌-◌, ◌*◌, ◌≤◌}
use mathlib.Core.Path.{refl, ◌∙◌}
use native.Mathlib.Omega.{arith}
use borrow.Author.Rules.{rules}
use Rattle.hit.proofs.hit_rows.Goals as goal
use Rattle.hit.proofs.hit_rows.Goals.{In-loop-y}

room : (c : In-loop-y)
    → c.loop-y.y * c.row_bytes-n.result + c.row_bytes-n.result
    ≤ length c.loop-y.t
room c = let l = row_fits c.row_bytes-n.result _ _ _ _ c.row_bytes-n.ensures
    c.loop-y-test.true c.requires.holds.long in
    omega (arith, c.loop-y.invariant.1)

pub loop-y-init : goal.loop-y-init
loop-y-init c =
    let a = c.args in (
      search rules,
      refl,
      written_none OneBit (hit_at a.s.now a.w a.h a.hit a.hits.now a.miss a.misses.now)
          a.w a.t.now,
    )

pub overflow_mul-a : goal.overflow_mul-a
overflow_mul-a c = omega (arith, room c)

pub overflow_add-z : goal.overflow_add-z
overflow_add-z c = omega (arith, room c)

pub slice_bounds-hit_row-end : goal.slice_bounds-hit_row-end
slice_bounds-hit_row-end c = room c

pub hit_row-requires : goal.hit_row-requires
hit_row-requires c =
    record {
      ready = c.requires.ready;
      ready_2 = c.requires.ready_2;
      t_len = (
        part_length c.loop-y.t _ _ (room (goal.at.hit_row-requires c).In-loop-y) ∙ c.row_bytes-n.ensures,
        search rules,
      );
    }

pub loop-y-preserved : goal.loop-y-preserved
unfolding hit_row
loop-y-preserved c =
    let a = c.args in
    let l = c.loop-y in
    let n = c.row_bytes-n.result in
    let r = c.hit_row in (
      search rules,
      same_len_mid (l.y * n) (l.y * n + n - l.y * n) l.t r.new.t r.auto.t ∙ l.invariant.1,
      written_more OneBit (hit_at a.s.now a.w a.h a.hit a.hits.now a.miss a.misses.now)
          a.w a.t.now n l.y l.t r.new.t
          c.row_bytes-n.ensures l.invariant.2 r.ensures,
    )

pub shape_of-t : goal.shape_of-t
shape_of-t c = c.loop-y.invariant.1

pub returns : goal.returns
returns c =
    let a = c.args in
    written_all OneBit (hit_at a.s.now a.w a.h a.hit a.hits.now a.miss a.misses.now)
    a.w a.t.now _ _ _
    c.loop-y.invariant.2 (omega arith)
