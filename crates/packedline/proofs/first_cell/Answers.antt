-- The kit's count of leading zeros: the word lies between the two powers of 2 around its highest digit.
-- It has a digit, so that the count is below 64.
use Rattle.packedline.proofs.Words.{first_is}
use mathlib.Core.Path.{refl}
use Rattle.packedline.proofs.first_cell.Goals as goal

pub returns : goal.returns
returns c =
    let f = first_is c.args.word c.requires c.ranges.word.fits in (f.0, (f.1.0, (f.1.1, refl)))
