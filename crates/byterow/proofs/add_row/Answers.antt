-- Stands on `source_row`, which finds the source row or none, and on `fold_row`, which folds it in.
-- The heights of row r begin at r times the width; the last source row ends where the source does.
use Rattle.byterow.proofs.Row.{row_none, row_some}
use Rattle.picture.proofs.Sizes.{row_room}
use Rattle.element.specs.Descriptor.{most_cells}
use Rattle.basics.proofs.Lists.{part_length}
use lib.ListN.{length}
use Prim.Native.Nat.{◌+◌, ◌*◌, ◌≤◌}
use native.Mathlib.Nat.{mul-le-mul}
use native.Mathlib.Omega.{arith}
use Rattle.byterow.proofs.add_row.Goals as goal
use Rattle.byterow.proofs.add_row.Goals.{Then-v-h}

room : (c : Then-v-h) → let a = c.args in
    c.source_row-v.result * a.w + a.w ≤ length a.s.now
room c = omega (arith, c.requires.ready.source, row_room c.args.w c.if-v-h.true)

near : (c : Then-v-h) → let a = c.args in a.row.0 * a.o.w ≤ most_cells * most_cells
near c = let a = c.args in
    mul-le-mul {n₁ = a.row.0} {m₁ = a.o.w} {n₂ = most_cells} {m₂ = most_cells} (omega arith) (omega arith)

pub overflow_mul-a : goal.overflow_mul-a
overflow_mul-a c = omega (arith, room (goal.at.overflow_mul-a c).Then-v-h)

pub overflow_add-z : goal.overflow_add-z
overflow_add-z c = omega (arith, room (goal.at.overflow_add-z c).Then-v-h)

pub slice_bounds-fold_row-end : goal.slice_bounds-fold_row-end
slice_bounds-fold_row-end c = room (goal.at.slice_bounds-fold_row-end c).Then-v-h

pub overflow_mul-r : goal.overflow_mul-r
overflow_mul-r c = omega (arith, near (goal.at.overflow_mul-r c).Then-v-h)

pub fold_row-requires : goal.fold_row-requires
fold_row-requires c =
    record {
      few_pings = c.requires.ready.few_pings;
      target = c.requires.t_len.0;
      source = part_length c.args.s.now _ _ (room (goal.at.fold_row-requires c).Then-v-h);
      few_wide = c.requires.ready.few_wide;
      origin_in = c.requires.ready.column;
      near = near (goal.at.fold_row-requires c).Then-v-h;
    }

pub returns-then-v-h : goal.returns-then-v-h
returns-then-v-h c =
    let a = c.args in
    row_some a.grows a.s.now a.w a.h a.o
    a.words.now a.heights.now a.y.0 _ a.row.0 _
    c.source_row-v.ensures _ c.if-v-h.true c.fold_row.ensures

pub returns : goal.returns
returns c =
    let a = c.args in
    row_none a.grows a.s.now a.w a.h a.o
    a.words.now a.heights.now a.y.0 _ a.row.0 _
    c.source_row-v.ensures c.if-v-h.false
