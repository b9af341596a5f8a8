-- Three steps, each what its function promises of the places that the one before left.
-- The definition has the same three.
use Rattle.mates.proofs.Steps.{label_steps}
use Rattle.labels.proofs.label.Goals as goal

pub returns : goal.returns
returns c =
    label_steps _ _ _ _
    c.part.new.up
    c.unite_points.new.up
    c.flatten.new.up
    c.part.ensures
    c.unite_points.ensures
    c.flatten.ensures
