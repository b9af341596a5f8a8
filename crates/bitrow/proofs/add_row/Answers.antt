-- Stands on `source_row`, which finds the source row or none, and on `line`, which folds it in packed.
-- The last source row ends where the source does. Both calls are one, each with the way that was tested.
use Rattle.bitrow.proofs.Row.{row_none, row_some}
use Rattle.rows.proofs.Written.{row_fits}
use Rattle.picture.specs.declared.Depth.TheVariants.{OneBit}
use Rattle.picture.specs.Frame.{row_bytes}
use lib.ListN.{length}
use Prim.Native.Nat.{◌+◌, ◌*◌, ◌≤◌}
use mathlib.Core.Path.{sym}
use Rattle.bitrow.proofs.add_row.Goals as goal
use Rattle.bitrow.proofs.add_row.Goals.{Then-v-h}

room : (c : Then-v-h) → let a = c.args in
    c.source_row-v.result * length a.t.now + length a.t.now ≤ length a.s.now
room c = row_fits (length c.args.t.now) (row_bytes OneBit c.args.w) _ c.args.h
    (length c.args.s.now) c.requires.t_len.0 c.if-v-h.true c.requires.ready.source

pub returns-then-k : goal.returns-then-k
returns-then-k c =
    let a = c.args in
    row_some a.k a.s.now a.w a.h a.o a.words.now a.y.0 a.t.now a.row.0 _
    c.source_row-v.ensures _ _ _ c.if-v-h.true
    c.masked-word.ensures
    (sym c.if-k.true) c.line.ensures

pub returns-then-v-h : goal.returns-then-v-h
returns-then-v-h c =
    let a = c.args in
    row_some a.k a.s.now a.w a.h a.o a.words.now a.y.0 a.t.now a.row.0 _
    c.source_row-v.ensures _ _ _ c.if-v-h.true
    c.masked-word.ensures
    (sym c.if-k.false) c.line-then-v-h.ensures

pub returns : goal.returns
returns c =
    let a = c.args in
    row_none a.k a.s.now a.w a.h a.o a.words.now a.y.0 a.t.now a.row.0 _
    c.source_row-v.ensures c.if-v-h.false
