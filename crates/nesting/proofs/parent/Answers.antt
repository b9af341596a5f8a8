-- The label of the node to the left, which is no later than the node itself.
-- So there is a place for it, and the definition has the same.
use Rattle.regions.specs.Listing.{parent_of}
use Rattle.nesting.specs.Steps.Tree.{at}
use mathlib.Core.Path.{ap, ◌∙◌}
use Rattle.nesting.proofs.parent.Goals as goal

pub returns : goal.returns
unfolding parent_of
returns c =
    c.node.ensures ∙ ap (at c.args.labels.now)
    c.left-l.ensures
