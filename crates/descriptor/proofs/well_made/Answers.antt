-- Well made cells have four bytes, so that w and h can be read.
-- What is left of the definition is the length.
use Rattle.std.proofs.Common.{arith, sym, ◌∙◌}
use Rattle.element.proofs.WellMade.{cells_tell}
use Rattle.descriptor.proofs.well_made.Goals as goal

pub bounds-d-0 : goal.bounds-d-0
bounds-d-0 c =
    let t = cells_tell _ (sym c.cells_made.ensures ∙ c.if-cells_made.true) in omega arith

pub bounds-d-1 : goal.bounds-d-1
bounds-d-1 c =
    let t = cells_tell _ (sym c.cells_made.ensures ∙ c.if-cells_made.true) in omega arith
