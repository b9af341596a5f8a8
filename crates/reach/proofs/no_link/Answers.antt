-- It stands on nothing: the record that is made is the definition's, part by part.
-- So both sides are one and the same.
use Rattle.reach.specs.Steps.Links.{no_link}
use mathlib.Core.Path.{refl}
use Rattle.reach.proofs.no_link.Goals as goal

pub returns : goal.returns
unfolding no_link
returns c = refl
