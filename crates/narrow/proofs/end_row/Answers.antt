-- Both arms are the definition's, by the test.
-- Held to the frame by the lesser of two.
use Prim.Native.Nat.{◌+◌, ◌-◌, min}
use mathlib.Core.Bool.{cond}
use mathlib.Core.Path.{sym, ap, ◌∙◌}
use Rattle.narrow.proofs.end_row.Goals as goal

pub returns-then-grows : goal.returns-then-grows
returns-then-grows c =
    let a = c.args in
    c.min.ensures ∙ ap (λ v. min v a.h) c.saturating_sub.ensures
    ∙ ap (λ b. min (cond b (a.y + a.o + 1 - a.r) (a.y + a.e - a.o)) a.h) (sym c.if-grows.true)

pub returns : goal.returns
returns c =
    let a = c.args in
    c.min-2.ensures ∙ ap (λ v. min v a.h) c.saturating_sub-2.ensures
    ∙ ap (λ b. min (cond b (a.y + a.o + 1 - a.r) (a.y + a.e - a.o)) a.h) (sym c.if-grows.false)
