-- One store, which is one byte put at its place.
-- The place lies in the buffer: that is all that is asked.
use Rattle.digits.proofs.Puts.{put_set}
use mathlib.Core.Path.{refl}
use Rattle.digits.proofs.put_byte.Goals as goal

pub returns : goal.returns
returns c =
    record {
      value = refl;
      t_after = put_set _ _ _ c.requires;
    }
