-- The first bytes are compared with the mark.
-- Nothing is written, so that nothing falls.
use mathlib.Core.Path.{◌∙◌}
use Rattle.book.proofs.Marks.{marked_is}
use Rattle.book.proofs.is_marked.Goals as goal

pub returns : goal.returns
returns c = c.starts_with.ensures.value ∙ marked_is _ c.requires
