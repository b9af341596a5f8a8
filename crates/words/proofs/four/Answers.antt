-- Four bytes shifted in, one after another: `half_made`.
-- The last of them stands in the source.
use native.Mathlib.Omega.{arith}
use Rattle.words.proofs.Points.{half_made}
use Rattle.words.proofs.four.Goals as goal

pub returns : goal.returns
returns c =
    half_made c.args.s.now (λ i. omega (arith, c.type_inv.s i)) c.args.at _ _ _ _
    c.more.ensures c.more-2.ensures c.more-3.ensures c.more-4.ensures
