-- Column by remainder and row by quotient are the definition's.
-- The number is below all offsets, so that each coordinate is a byte.
use mathlib.Core.Path.{refl}
use borrow.Author.Rules.{rules}
use Rattle.faults.proofs.offset_no.Goals as goal

pub returns : goal.returns
returns c = (refl, search rules)
