-- 1 where both tests hold: the cell is set, and its height is of the side.
-- Each return is one case of the definition.
use mathlib.Core.Path.{sym, ◌∙◌}
use Rattle.heightsigns.proofs.takes.Goals as goal

pub returns-then-on_side : goal.returns-then-on_side
returns-then-on_side c =
    simp (
      sym c.cell.ensures ∙ c.if-cell.true,
      sym
          c.on_side.ensures ∙ c.if-on_side.true,
    )

pub returns-else-on_side : goal.returns-else-on_side
returns-else-on_side c =
    simp (
      sym c.cell.ensures ∙ c.if-cell.true,
      sym
          c.on_side.ensures ∙ c.if-on_side.false,
    )
