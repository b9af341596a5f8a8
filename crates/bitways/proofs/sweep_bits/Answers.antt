use Rattle.rows.proofs.Written.{row_fits, written_none, written_more, written_all}
use Rattle.bitrow.specs.Steps.Row.{bit_row}
use Rattle.bitways.proofs.Ways.{rows_of_bits}
use Rattle.element.specs.Record.{shape_by}
use Rattle.morphology.specs.Operations.{flat}
use Rattle.rows.specs.Steps.Ready.{Ready}
use Rattle.rows.specs.Steps.Ways.{swept_by}
use Rattle.picture.specs.declared.Depth.TheVariants.{OneBit}
use Rattle.picture.specs.Frame.{frame}
use Rattle.picture.specs.Points.{value_at}
use Rattle.picture.specs.Bytes.{written}
use Rattle.basics.proofs.Lists.{part_length}
use borrow.Rule.Slice.PartMut.{same_len_mid}
use lib.ListN.{length}
use Prim.Native.Nat.{◌+◌, ◌-◌, ◌*◌, ◌≤◌}
use mathlib.Core.Path.{refl, sym, ap₂, ◌∙◌, subst}
use native.Mathlib.Omega.{arith}
use borrow.Author.Rules.{rules}
use Rattle.bitways.proofs.sweep_bits.Goals as goal
use Rattle.bitways.proofs.sweep_bits.Goals.{In-loop-y}

room : (c : In-loop-y)
    → c.loop-y.y * c.row_bytes-n.result + c.row_bytes-n.result
    ≤ length c.loop-y.t
room c = let l = row_fits c.row_bytes-n.result _ _ _ _ c.row_bytes-n.ensures
    c.loop-y-test.true c.requires.holds.long in
    omega (arith, c.loop-y.invariant.1)

pub loop-y-init : goal.loop-y-init
loop-y-init c =
    let a = c.args in (
      search rules,
      refl,
      written_none OneBit _ a.w a.t.now,
    )

pub overflow_mul-a : goal.overflow_mul-a
overflow_mul-a c = omega (arith, room c)

pub overflow_add-z : goal.overflow_add-z
overflow_add-z c = omega (arith, room c)

pub slice_bounds-any_row-end : goal.slice_bounds-any_row-end
slice_bounds-any_row-end c = room c

pub any_row-requires : goal.any_row-requires
any_row-requires c =
    let a = c.args in record {
      ready = subst (Ready OneBit (length a.s.now) (length a.words.now) a.w a.h)
          (sym c.outline_of-o.ensures) c.requires.ready;
      t_len = (
        part_length c.loop-y.t _ _ (room (goal.at.any_row-requires c).In-loop-y) ∙ c.row_bytes-n.ensures,
        c.loop-y-test.true,
      );
    }

pub loop-y-preserved : goal.loop-y-preserved
unfolding bit_row
loop-y-preserved c =
    let a = c.args in
    let l = c.loop-y in
    let n = c.row_bytes-n.result in
    let r = c.any_row in (
      search rules,
      same_len_mid (l.y * n) (l.y * n + n - l.y * n) l.t r.new.t r.auto.t ∙ l.invariant.1,
      written_more OneBit _ a.w a.t.now n l.y l.t r.new.t
          c.row_bytes-n.ensures l.invariant.2 r.ensures,
    )

pub shape_of-t : goal.shape_of-t
shape_of-t c = c.loop-y.invariant.1

pub returns : goal.returns
returns c =
    let a = c.args in
    let g = c.grows_of-grows in
    let o = c.outline_of-o in
    rows_of_bits a.w a.h o.result a.words.now a.s.now a.t.now _ g.result
    (written_all OneBit _ a.w a.t.now _ _ _ c.loop-y.invariant.2 (omega arith))
    ∙ ap₂ (λ g o. written OneBit (swept_by g flat 1 (frame a.w a.h) (shape_by o a.words.now)
    (value_at OneBit a.s.now a.w)) a.w a.h a.t.now) g.ensures o.ensures
