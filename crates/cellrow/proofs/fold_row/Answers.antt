use Rattle.rows.proofs.Fold.{cells_none, cells_more, cells_all}
use Rattle.rows.specs.Steps.Row.{columns_of, cell_row}
use Rattle.rows.specs.Steps.Ways.{weigh_by}
use Rattle.rows.specs.Steps.Fold.{plus_by, minus_by}
use Rattle.element.specs.Record.{cell_on}
use Prim.Native.Nat.{◌+◌}
use mathlib.Core.Path.{ap, ◌∙◌}
use native.Mathlib.Omega.{arith}
use borrow.Author.Rules.{rules}
use Rattle.cellrow.proofs.fold_row.Goals as goal

pub loop-c-init : goal.loop-c-init
loop-c-init c =
    let a = c.args in (
      search rules,
      search rules,
      cells_none a.grows (weigh_by a.grows)
          (λ c. columns_of a.heights.now (a.at + c)) a.t.now a.s.now a.w
          (cell_on a.word) a.origin.0 c.requires.target,
    )

pub loop-c-preserved : goal.loop-c-preserved
loop-c-preserved c =
    let a = c.args in
    let l = c.loop-c in
    let r = c.fold_cell in (
      search rules,
      r.auto.t ∙ l.invariant.1,
      cells_more a.grows (weigh_by a.grows)
          (λ c. columns_of a.heights.now (a.at + c)) a.t.now a.s.now a.w
          (cell_on a.word) a.origin.0 l.c _ _ l.invariant.2
          (r.ensures
          ∙ ap (λ g. cell_row a.grows
          (weigh_by a.grows) g (cell_on a.word l.c) l.t a.s.now a.w
          (plus_by a.grows a.origin.0 l.c) (minus_by a.grows a.origin.0 l.c))
          c.height_at-g.ensures),
    )

pub returns : goal.returns
returns c =
    let a = c.args in
    cells_all a.grows (weigh_by a.grows)
    (λ c. columns_of a.heights.now (a.at + c)) a.t.now a.s.now a.w
    (cell_on a.word) a.origin.0 _ _ _ c.loop-c.invariant.2 (omega arith)
