-- Request (iv): "12 MARKER when a marker point lies outside the mask".
use Rattle.std.specs.Prelude.{Bool, ltb}
use Rattle.basics.specs.Tests.{any}
use Rattle.picture.specs.Frame.{Frame}
use Rattle.picture.specs.Bytes.{Picture}

-- some point of the frame is set in the marker and not in the mask
unfoldable pub outside : Frame → Picture → Picture → Bool
outside F mask marker = any (λ y. any (λ x. ltb (mask x y) (marker x y)) F.pings) F.bins
