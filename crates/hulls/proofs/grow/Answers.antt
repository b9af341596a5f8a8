-- Where the cell is set each end is the lesser or the greater of its own and the cell's; else nothing
-- moves.
-- Columns and rows are below 64, so that no sum wraps.
use mathlib.Core.Path.{sym, ◌∙◌}
use Rattle.hulls.specs.Extent.{with_cell}
use Rattle.hulls.proofs.Extents.{seen_on, seen_off}
use Rattle.hulls.proofs.grow.Goals as goal

pub returns-then-cell : goal.returns-then-cell
unfolding with_cell
returns-then-cell c =
    sym (seen_on _ _ _ _ (sym c.cell.ensures ∙ c.if-cell.true)
    ∙ λ i. record {
      left = sym c.min.ensures i;
      right = sym c.max.ensures i;
      top = sym c.min-then-cell.ensures i;
      bottom = sym c.max-then-cell.ensures i;
      nearest = sym c.min-then-cell-2.ensures i;
      farthest = sym c.max-then-cell-2.ensures i;
      lowest = sym c.min-then-cell-3.ensures i;
      highest = sym c.max-then-cell-3.ensures i;
    })

pub returns : goal.returns
returns c = sym (seen_off _ _ _ _ (sym c.cell.ensures ∙ c.if-cell.false))
