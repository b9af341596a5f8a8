use Rattle.basics.proofs.Any.{any_none, any_more, any_stop, any_done}
use Rattle.overlap.specs.Steps.Shared.{cell_shared, row_shared}
use mathlib.Core.Path.{sym, ◌∙◌}
use mathlib.Core.Bool.{false}
use native.Mathlib.Omega.{arith}
use borrow.Author.Rules.{rules}
use Rattle.overlap.proofs.row_shared.Goals as goal

pub loop-c-init : goal.loop-c-init
loop-c-init c = (search rules, any_none _)

pub returns-then-cell_shared : goal.returns-then-cell_shared
unfolding row_shared
returns-then-cell_shared c =
    let a = c.args in
    sym (any_stop (cell_shared a.word a.beside a.first a.second)
    a.first.w c.loop-c.c (omega arith)
    (sym c.cell_shared.ensures ∙ c.if-cell_shared.true))

pub loop-c-preserved : goal.loop-c-preserved
loop-c-preserved c =
    let a = c.args in
    let l = c.loop-c in (
      search rules,
      any_more (cell_shared a.word a.beside a.first a.second) l.c l.invariant.1
          (sym c.cell_shared.ensures ∙ c.if-cell_shared.false),
    )

pub returns : goal.returns
unfolding row_shared
returns c =
    let a = c.args in
    let l = c.loop-c in
    sym (any_done (cell_shared a.word a.beside a.first a.second)
    l.c a.first.w (omega arith) l.invariant.1)
