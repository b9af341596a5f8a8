-- One link for the element's own cells, and else as many as the longer side needs.
-- That is never more than five.
use native.Mathlib.Omega.{arith}
use mathlib.Core.Path.{sym, ◌∙◌}
use Rattle.candidates.proofs.Numbers.{links_own, links_more}
use Rattle.candidates.proofs.links_of.Goals as goal

pub returns-then-c : goal.returns-then-c
returns-then-c c = (sym (links_own _ _ c.if-c.true), omega arith)

pub returns : goal.returns
returns c = (
  c.needed.ensures.0
      ∙ sym (links_more _ _ _ c.if-c.false
      c.max.ensures),
  c.needed.ensures.1,
)
