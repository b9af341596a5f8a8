-- Stands on the kit's copy into all that follows the place.
-- That part filled from its start is the bytes put at the place.
use Rattle.digits.proofs.Puts.{put_part}
use mathlib.Core.Path.{ap}
use Prim.Native.Nat.{◌+◌}
use Rattle.digits.proofs.put_bytes.Goals as goal

pub returns : goal.returns
returns c =
    record {
      value = ap (λ n. c.args.at + n) c.copy.ensures.value;
      t_after = put_part _ c.args.s.now c.args.t.now _ c.requires c.copy.ensures.bytes;
    }
