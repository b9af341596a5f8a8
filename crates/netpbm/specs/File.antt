-- Request (i): what a raw PBM or PGM file holds, and the file that we write. Letters are their ASCII numbers.
use Rattle.std.specs.Prelude.{ℕ, Bool, true, ◌&&◌, List, [], ◌∷◌, ◌++◌, eqb}
use Rattle.digits.specs.Decimal.{decimal}
use Rattle.picture.specs.declared.Depth.{Depth}
use Rattle.picture.specs.declared.Depth.TheVariants.{OneBit, EightBit}
use Rattle.picture.specs.Points.{value_at}
use Rattle.picture.specs.Bytes.{bytes_of}
use Rattle.pnmheader.specs.Header.{magic_digit, header}

-- ---- a file that is read
-- a PGM maximum other than 255 breaks the header; PBM has none
abbrev pub maximum_right : Depth → ℕ → Bool
maximum_right OneBit most = true
maximum_right EightBit most = eqb most 255

-- the header is whole, and its maximum is right
unfoldable pub formed : Depth → List ℕ → Bool
formed depth f = (header depth f).whole && maximum_right depth (header depth f).most

abbrev pub pings_of : Depth → List ℕ → ℕ
pings_of depth f = (header depth f).w

abbrev pub bins_of : Depth → List ℕ → ℕ
bins_of depth f = (header depth f).h

-- the raster is the source
abbrev pub raster_of : Depth → List ℕ → List ℕ
raster_of depth f = (header depth f).raster

-- ---- a file that is written: P4 or P5, a line feed, W, a space,
-- H, a line feed, for P5 also 255 and a line feed, then the body
abbrev pub space : ℕ
space = 0x20

abbrev pub line_feed : ℕ
line_feed = 10

abbrev pub tail_of : Depth → List ℕ
tail_of OneBit = line_feed ∷ []
tail_of EightBit = line_feed ∷ 50 ∷ 53 ∷ 53 ∷ line_feed ∷ []

unfoldable pub head_of : Depth → ℕ → ℕ → List ℕ
head_of depth w h =
    (80 ∷ magic_digit depth ∷ line_feed ∷ []) ++ (decimal w ++ ((space ∷ []) ++ (decimal h ++ tail_of depth)))

-- of the picture in the bytes s
unfoldable pub file_of : Depth → ℕ → ℕ → List ℕ → List ℕ
file_of depth w h s = head_of depth w h ++ bytes_of depth (value_at depth s w) w h
