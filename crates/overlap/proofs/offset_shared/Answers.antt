use Rattle.basics.proofs.Any.{any_none, any_more}
use Rattle.overlap.specs.Steps.Shared.{line_shared}
use Rattle.overlap.proofs.Shared.{shared_found, shared_never}
use mathlib.Core.Path.{sym, ◌∙◌}
use mathlib.Core.Bool.{false}
use native.Mathlib.Omega.{arith}
use borrow.Author.Rules.{rules}
use Rattle.overlap.proofs.offset_shared.Goals as goal

pub loop-r-init : goal.loop-r-init
loop-r-init c = (search rules, any_none _)

pub returns-then-line_shared : goal.returns-then-line_shared
returns-then-line_shared c =
    let a = c.args in
    shared_found a.first a.words.now a.second a.others.now
    c.loop-r.r (omega arith)
    (sym c.line_shared.ensures ∙ c.if-line_shared.true)

pub loop-r-preserved : goal.loop-r-preserved
loop-r-preserved c =
    let a = c.args in
    let l = c.loop-r in (
      search rules,
      any_more (line_shared a.first a.words.now a.second a.others.now) l.r l.invariant.1
          (sym c.line_shared.ensures ∙ c.if-line_shared.false),
    )

pub returns : goal.returns
returns c =
    let a = c.args in
    let l = c.loop-r in
    shared_never a.first a.words.now a.second a.others.now l.r (omega arith) l.invariant.1
