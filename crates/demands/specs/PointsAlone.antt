-- Request (iii): what a call gives depends on its source's points alone. Of two calls that are the same
-- but for what stands in the padding of their sources, the answer and every byte are the same.
use Rattle.std.specs.Prelude.{ℕ, ◌<◌, ◌≡◌, List, length}
use Rattle.answer.specs.declared.Told.{Told}
use Rattle.picture.specs.declared.Depth.{Depth}
use Rattle.picture.specs.declared.Depth.TheVariants.{OneBit}
use Rattle.picture.specs.Points.{value_at}
use Rattle.ech.specs.File.{depth_of}
use Rattle.demands.specs.Calls.{Call, Twice}
use Rattle.demands.specs.HitCalls.{HitCall}
use Rattle.demands.specs.RunCalls.{RunCall}
use Rattle.demands.specs.FileCalls.{WriteCall}
use Rattle.demands.specs.PnmCalls.{PnmWrite}

-- two sources of one length that are the same at every point of the frame
pub record SamePoints (depth : Depth) (w h : ℕ) (s t : List ℕ) : Type 0 where
  pub long : length s ≡ length t
  pub points : (x y : ℕ) → x < w → y < h → value_at depth s w x y ≡ value_at depth t w x y

-- two calls that are the same but for such sources
pub record Repadded (c d : Call) : Type 0 where
  pub depth : c.depth ≡ d.depth
  pub pings : c.w ≡ d.w
  pub bins : c.h ≡ d.h
  pub source : SamePoints c.depth c.w c.h c.source d.source
  pub descriptor : c.descriptor ≡ d.descriptor
  pub target : c.before ≡ d.before

pub record RepaddedTwice (c d : Twice) : Type 0 where
  pub once : Repadded c.to_target d.to_target
  pub scratch : c.before ≡ d.before

pub record RepaddedHit (c d : HitCall) : Type 0 where
  pub pings : c.w ≡ d.w
  pub bins : c.h ≡ d.h
  pub source : SamePoints OneBit c.w c.h c.source d.source
  pub hit : c.hit ≡ d.hit
  pub miss : c.miss ≡ d.miss
  pub target : c.before ≡ d.before

pub record RepaddedRun (c d : RunCall) : Type 0 where
  pub depth : c.depth ≡ d.depth
  pub pings : c.w ≡ d.w
  pub bins : c.h ≡ d.h
  pub source : SamePoints c.depth c.w c.h c.source d.source
  pub element : c.element ≡ d.element
  pub links : c.links ≡ d.links
  pub chain : c.chain ≡ d.chain
  pub first : c.first ≡ d.first
  pub second : c.second ≡ d.second

pub record RepaddedWrite (c d : WriteCall) : Type 0 where
  pub kind : c.kind ≡ d.kind
  pub pings : c.w ≡ d.w
  pub bins : c.h ≡ d.h
  pub source : SamePoints (depth_of c.kind) c.w c.h c.source d.source
  pub target : c.before ≡ d.before

pub record RepaddedPnm (depth : Depth) (c d : PnmWrite) : Type 0 where
  pub pings : c.w ≡ d.w
  pub bins : c.h ≡ d.h
  pub source : SamePoints depth c.w c.h c.source d.source
  pub target : c.before ≡ d.before

-- two outcomes that are the same: the answers, and each buffer
abbrev pub SameOnce : Call → Call → Told → Told → Type 0
SameOnce c d t u = (t ≡ u) × (c.after ≡ d.after)

abbrev pub SameTwice : Twice → Twice → Told → Told → Type 0
SameTwice c d t u = SameOnce c.to_target d.to_target t u × (c.after ≡ d.after)

abbrev pub SameRun : RunCall → RunCall → Told → Told → Type 0
SameRun c d t u = (t ≡ u) × ((c.first_after ≡ d.first_after) × (c.second_after ≡ d.second_after))
