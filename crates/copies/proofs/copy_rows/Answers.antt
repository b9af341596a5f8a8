use Rattle.copies.proofs.Copies.{cleared_length}
use Rattle.copies.specs.Steps.Copy.{over_of, cleared_row, cleared_rows}
use Rattle.basics.proofs.Joined.{rows_none, rows_more, rows_all}
use Prim.Native.Nat.{◌-◌, ◌+◌, ◌*◌}
use mathlib.Core.Path.{refl, ◌∙◌}
use borrow.Rule.Slice.PartMut.{same_len_mid}
use borrow.Author.Rules.{rules}
use native.Mathlib.Omega.{arith}
use Rattle.copies.proofs.copy_rows.Goals as goal

pub loop-y-init : goal.loop-y-init
loop-y-init c =
    let a = c.args in (
      search rules,
      search rules,
      rows_none (cleared_row (over_of a.face) a.s.now a.n a.u) a.n (cleared_length _ _ _ _) _,
    )

pub loop-y-preserved : goal.loop-y-preserved
unfolding cleared_row
loop-y-preserved c =
    let a = c.args in
    let l = c.loop-y in
    let r = c.copy_row in (
      search rules,
      same_len_mid (l.y * a.n) (l.y * a.n + a.n - l.y * a.n)
          l.t r.new.t r.auto.t
          ∙ l.invariant.1,
      rows_more (cleared_row (over_of a.face) a.s.now a.n a.u) a.n (cleared_length _ _ _ _)
          a.n l.y _ l.t r.new.t refl l.invariant.2 r.ensures,
    )

pub returns : goal.returns
unfolding cleared_rows
returns c =
    let a = c.args in
    rows_all (cleared_row (over_of a.face) a.s.now a.n a.u) a.n (cleared_length _ _ _ _)
    c.loop-y.y a.h _ _ c.loop-y.invariant.2 (omega arith)
