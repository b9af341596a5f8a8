-- Both arms are the definition's, by the test.
-- Below 0 it is 0.
use Prim.Native.Nat.{◌+◌, ◌-◌}
use mathlib.Core.Bool.{cond}
use mathlib.Core.Path.{sym, ap, ◌∙◌}
use Rattle.narrow.proofs.first_row.Goals as goal

pub returns-then-grows : goal.returns-then-grows
returns-then-grows c =
    let a = c.args in
    c.saturating_sub.ensures ∙ ap (λ b. cond b (a.y + a.o + 1 - a.e) (a.y + a.r - a.o)) (sym c.if-grows.true)

pub returns : goal.returns
returns c =
    let a = c.args in
    c.saturating_sub-2.ensures
    ∙ ap (λ b. cond b (a.y + a.o + 1 - a.e) (a.y + a.r - a.o)) (sym c.if-grows.false)
