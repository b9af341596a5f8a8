-- Document 01, "Pictures and elements":
-- the sizes of a frame, and the bytes that a picture takes at each depth.
use Rattle.std.specs.Prelude.{ℕ, ◌+◌, ◌-◌, ◌*◌, ◌/◌, ◌≤◌, Bool, ◌&&◌, leb}
use Rattle.picture.specs.declared.Depth.{Depth}
use Rattle.picture.specs.declared.Depth.TheVariants.{OneBit, EightBit}

-- the limits: pings across, bins down
abbrev pub most_pings : ℕ
most_pings = 1024

abbrev pub most_bins : ℕ
most_bins = 256

-- a frame: W pings across, H range bins down
pub record Frame : Type 0 where
  pub pings : ℕ
  pub bins : ℕ

abbrev pub frame : ℕ → ℕ → Frame
frame w h = record { pings = w; bins = h }

-- W pings, 1 to 1,024, and H range bins, 1 to 256
unfoldable pub sized_frame : ℕ → ℕ → Bool
sized_frame w h = (leb 1 w && leb w most_pings) && (leb 1 h && leb h most_bins)

-- the greatest value of a point
abbrev pub top : Depth → ℕ
top OneBit = 1
top EightBit = 255

-- the bytes of a row of W pings: (W + 7) / 8, rounded down, or W
abbrev pub row_bytes : Depth → ℕ → ℕ
row_bytes OneBit w = (w + 7) / 8
row_bytes EightBit w = w

-- the bytes of a picture: row after row
abbrev pub picture_bytes : Depth → ℕ → ℕ → ℕ
picture_bytes depth w h = h * row_bytes depth w

-- the unused low bits of the last byte of a row
abbrev pub spare_bits : Depth → ℕ → ℕ
spare_bits OneBit w = (w + 7) / 8 * 8 - w
spare_bits EightBit w = 0

-- n bytes hold a picture of W pings and H bins
pub record Holds (depth : Depth) (n w h : ℕ) : Type 0 where
  pub some_pings : 1 ≤ w
  pub few_pings : w ≤ most_pings
  pub few_bins : h ≤ most_bins
  pub long : picture_bytes depth w h ≤ n
