-- Request (iv), of two calls: a run and a second run; an opening and a run with it as its marker;
-- runs that are the same but for what stands in the padding of marker and mask.
use Rattle.std.specs.Prelude.{◌≡◌, take, ◌≤◌, length}
use Rattle.picture.specs.declared.Depth.TheVariants.{OneBit}
use Rattle.picture.specs.Frame.{picture_bytes}
use Rattle.demands.specs.Calls.{Call}
use Rattle.demands.specs.GrowCalls.{GrowCall}
use Rattle.demands.specs.PointsAlone.{SamePoints}

-- the second run's marker is the picture that the first left, and there is room for it again
pub record Again (c d : GrowCall) : Type 0 where
  pub neighbours : d.neighbours ≡ c.neighbours
  pub pings : d.w ≡ c.w
  pub bins : d.h ≡ c.h
  pub mask : d.mask ≡ c.mask
  pub marker : d.marker ≡ take (picture_bytes OneBit c.w c.h) c.after
  pub room : picture_bytes OneBit c.w c.h ≤ length d.before

-- the marker is what a call of an operation left, and the mask that call's source
pub record GrownBack (c : Call) (d : GrowCall) : Type 0 where
  pub one_bit : c.depth ≡ OneBit
  pub pings : d.w ≡ c.w
  pub bins : d.h ≡ c.h
  pub mask : d.mask ≡ c.source
  pub marker : d.marker ≡ take (picture_bytes OneBit c.w c.h) c.after

pub record RepaddedGrow (c d : GrowCall) : Type 0 where
  pub neighbours : c.neighbours ≡ d.neighbours
  pub pings : c.w ≡ d.w
  pub bins : c.h ≡ d.h
  pub marker : SamePoints OneBit c.w c.h c.marker d.marker
  pub mask : SamePoints OneBit c.w c.h c.mask d.mask
  pub target : c.before ≡ d.before
