-- Stands on the number as it is kept: a longer one is kept as too large, before the digit and after it.
-- Each answer is the definition's where its test is the first that holds.
use Rattle.pnmheader.proofs.Scans.{kept_ignored, kept_grown, kept_other}
use mathlib.Core.Path.{sym, ◌∙◌}
use Rattle.pnmheader.proofs.number_after.Goals as goal

pub returns-then-is_ignored : goal.returns-then-is_ignored
returns-then-is_ignored c =
    let a = c.args in
    kept_ignored a.comment a.part a.own a.b a.n _ c.min-held.ensures
    (sym c.is_ignored.ensures ∙ c.if-is_ignored.true)

pub returns-then-part-own : goal.returns-then-part-own
returns-then-part-own c =
    let a = c.args in
    kept_grown a.comment a.part a.own a.b a.n _ c.min-held.ensures
    (sym c.is_ignored.ensures ∙ c.if-is_ignored.false) c.if-part-own.true _ _
    (c.from.ensures ∙ c.saturating_sub.ensures) c.min.ensures

pub returns : goal.returns
returns c =
    let a = c.args in
    kept_other a.comment a.part a.own a.b a.n _ c.min-held.ensures
    (sym c.is_ignored.ensures ∙ c.if-is_ignored.false) c.if-part-own.false
