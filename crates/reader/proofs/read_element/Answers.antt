-- The test settles which of the two it is: an element that is made, or SHAPE.
-- What passes the test has well made cells, which is what the reading of them asks for.
use Rattle.element.proofs.WellMade.{made_cells}
use mathlib.Core.Path.{sym, ◌∙◌}
use Rattle.reader.proofs.read_element.Goals as goal

pub element_at-requires : goal.element_at-requires
element_at-requires c = made_cells c.args.d.now (sym c.well_made.ensures ∙ c.if-well_made.true)
