-- One case of the definition for each return.
-- The test is the call before it.
use mathlib.Core.Path.{sym, ◌∙◌}
use Rattle.dividing.proofs.Least.{cond_no}
use Rattle.covering.specs.Quarter.{quarter_row}
use Rattle.covering.proofs.Sums.{quarter_in}
use Rattle.covering.proofs.quarter_row.Goals as goal

pub returns-then-beside : goal.returns-then-beside
returns-then-beside c =
    quarter_in _ _ _ _ _ _ _ _ c.beside.ensures c.if-beside.true
    c.side_of.ensures

pub returns : goal.returns
unfolding quarter_row
returns c = sym (cond_no _ _ _ (sym c.beside.ensures ∙ c.if-beside.false))
