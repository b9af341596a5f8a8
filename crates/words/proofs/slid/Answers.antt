-- The result is the definition's; point by point it is `slid_point`.
-- v is a word, so nothing of it stands above.
use mathlib.Core.Path.{refl}
use Rattle.words.specs.Steps.Words.{slid_of}
use Rattle.words.proofs.Points.{slid_point}
use Rattle.words.proofs.slid.Goals as goal

pub returns : goal.returns
unfolding slid_of
returns c =
    (refl, λ k h. slid_point c.args.u c.args.v c.args.d k c.ranges.v.fits c.requires h)
