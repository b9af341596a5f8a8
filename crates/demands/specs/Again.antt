-- Request (ix): doing a thing twice changes nothing, of the contracts.
-- A second call is given the picture that the first one wrote, and writes the same bytes.
use Rattle.std.specs.Prelude.{ℕ, ◌≡◌, List, take}
use Rattle.basics.specs.Bytes.{Bytes}
use Rattle.answer.specs.Refuse.{Test, NoneHolds}
use Rattle.picture.specs.Frame.{picture_bytes}
use Rattle.demands.specs.Calls.{Call, Twice}

-- the picture's own bytes in the target
abbrev pub made_bytes : Call → List ℕ
made_bytes c = take (picture_bytes c.depth c.w c.h) c.after

-- d is the call c again, on the picture that c has made; its buffers may be others
pub record OnItsResult (c d : Call) : Type 0 where
  pub depth : d.depth ≡ c.depth
  pub pings : d.w ≡ c.w
  pub bins : d.h ≡ c.h
  pub descriptor : d.descriptor ≡ c.descriptor
  pub source : d.source ≡ made_bytes c

-- neither is refused: the second makes the bytes that the first made
abbrev pub MadeAgain : (Twice → List Test) → Twice → Twice → Type 0
MadeAgain tests c d =
    Bytes c.to_target.source → NoneHolds (tests c) → NoneHolds (tests d)
    → OnItsResult c.to_target d.to_target → made_bytes d.to_target ≡ made_bytes c.to_target
