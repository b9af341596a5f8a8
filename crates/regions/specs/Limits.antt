-- Request (xiv): NEST is given for a picture of more points or more regions than these.
use Rattle.std.specs.Prelude.{ℕ}

abbrev pub most_points : ℕ
most_points = 16384

-- the outer region counted
abbrev pub most_regions : ℕ
most_regions = 255
