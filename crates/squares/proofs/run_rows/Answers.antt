use Prim.Native.Nat.{◌+◌, ◌-◌, ◌*◌, ◌≤◌}
use mathlib.Core.Path.{refl, ◌∙◌}
use native.Mathlib.Omega.{arith}
use lib.ListN.{length}
use borrow.Author.Rules.{rules}
use borrow.Rule.Slice.PartMut.{same_len_mid}
use Rattle.basics.proofs.Lists.{part_length}
use Rattle.picture.specs.declared.Depth.TheVariants.{OneBit}
use Rattle.picture.specs.Frame.{frame}
use Rattle.picture.specs.Points.{value_at}
use Rattle.morphology.specs.Operations.{flat}
use Rattle.rows.specs.Steps.Ways.{swept_by}
use Rattle.rows.proofs.Written.{row_fits, written_none, written_more, written_all}
use Rattle.sizes.specs.Spectrum.{rect}
use Rattle.squares.proofs.Rows.{row_made}
use Rattle.squares.proofs.run_rows.Goals as goal
use Rattle.squares.proofs.run_rows.Goals.{In-loop-y}

room : (c : In-loop-y)
    → c.loop-y.y * c.row_bytes-n.result + c.row_bytes-n.result
    ≤ length c.loop-y.t
room c = let l = row_fits c.row_bytes-n.result _ _ _ _ c.row_bytes-n.ensures
    c.loop-y-test.true c.requires.long in
    omega (arith, c.loop-y.invariant.1)

pub loop-y-init : goal.loop-y-init
loop-y-init c =
    let a = c.args in (
      search rules,
      refl,
      written_none OneBit (swept_by a.grows flat 1 (frame a.w a.h) (rect a.k 1)
          (value_at OneBit a.t.now a.w)) a.w a.t.now,
    )

pub run_row-requires : goal.run_row-requires
run_row-requires c =
    let p = c.requires in
    record {
      some_pings = p.some_pings;
      few_pings = p.few_pings;
      some_cells = p.some_cells;
      few_cells = p.few_cells;
      row = part_length c.loop-y.t _ _ (room (goal.at.run_row-requires c).In-loop-y) ∙ c.row_bytes-n.ensures;
    }

pub loop-y-preserved : goal.loop-y-preserved
loop-y-preserved c =
    let a = c.args in
    let l = c.loop-y in
    let n = c.row_bytes-n.result in
    let r = c.run_row in (
      search rules,
      same_len_mid (l.y * n) (l.y * n + n - l.y * n) l.t r.new.t r.auto.t ∙ l.invariant.1,
      written_more OneBit (swept_by a.grows flat 1 (frame a.w a.h) (rect a.k 1)
          (value_at OneBit a.t.now a.w)) a.w a.t.now n l.y l.t r.new.t
          c.row_bytes-n.ensures l.invariant.2
          (row_made a.grows a.k a.w a.h a.t.now l.t n l.y
          c.row_bytes-n.ensures c.loop-y-test.true l.invariant.2 _ r.ensures),
    )

pub returns : goal.returns
returns c =
    let a = c.args in
    written_all OneBit (swept_by a.grows flat 1 (frame a.w a.h) (rect a.k 1)
    (value_at OneBit a.t.now a.w)) a.w a.t.now _ _ _ c.loop-y.invariant.2 (omega arith)
