-- The mask 255 takes the lowest 8 digits, so the byte fits.
-- The shift is exact: `and_mask`.
use Rattle.words.specs.Steps.Words.{byte_of}
use lib.Bits.{and_mask}
use Prim.Native.Nat.{◌-◌, ◌*◌, ◌/◌, ◌^◌}
use Rattle.words.proofs.byte_of.Goals as goal

pub returns : goal.returns
unfolding byte_of
returns c = and_mask (c.args.v / 2 ^ (56 - 8 * c.args.i)) 8
