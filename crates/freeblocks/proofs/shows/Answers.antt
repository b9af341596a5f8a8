-- Where no cell raises, any value is far enough; else where the one nearest to the end is.
-- What `least_of` gives is no further than any value.
use native.Mathlib.Omega.{arith}
use borrow.Author.Tests.{ltb-false}
use Rattle.freeblocks.proofs.shows.Goals as goal

pub returns : goal.returns
returns c =
    λ e m h.
    omega (
      arith,
      ltb-false c.least_of.result c.args.limit e,
      c.least_of.ensures m h,
    )
