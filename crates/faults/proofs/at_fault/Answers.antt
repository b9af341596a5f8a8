-- Whether the element has the offset and whether it is a sum decide which of the three
-- arms is the definition's: no path is looked for where it is no sum, since a path is one.
use mathlib.Core.Path.{sym, ◌∙◌}
use Rattle.faults.proofs.Fault.{by_path, no_sum, by_sum}
use Rattle.faults.proofs.at_fault.Goals as goal

pub returns-then-sum : goal.returns-then-sum
returns-then-sum c =
    by_path _ _ _ c.path.result (sym c.has.ensures ∙ c.if-has.true)
    (sym c.holds-sum.ensures ∙ c.if-sum.true) c.path.ensures

pub returns-then-has : goal.returns-then-has
returns-then-has c =
    no_sum _ _ _ (sym c.has.ensures ∙ c.if-has.true)
    (sym c.holds-sum.ensures ∙ c.if-sum.false)

pub returns : goal.returns
returns c = by_sum _ _ _ _ (sym c.has.ensures ∙ c.if-has.false) c.holds-sum.ensures
