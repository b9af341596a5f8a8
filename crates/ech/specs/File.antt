-- Document 01, "ECH, version 1": which bytes are a file, and what it holds.
use Rattle.std.specs.Prelude.{ℕ, ◌+◌, ◌*◌, ◌/◌, ◌%◌, ◌^◌, Bool, cond, ◌&&◌, List, [], ◌∷◌, ◌++◌, leb, eqb}
use Rattle.std.specs.Prelude.{length, get_or, drop}
use Rattle.picture.specs.declared.Depth.{Depth}
use Rattle.picture.specs.declared.Depth.TheVariants.{OneBit, EightBit}
use Rattle.picture.specs.declared.Face.{Face}
use Rattle.picture.specs.declared.Face.TheVariants.{AsIs, TurnedOver}
use Rattle.picture.specs.Points.{value_at}
use Rattle.picture.specs.Bytes.{bytes_of}

-- the bytes before the body
abbrev pub head_bytes : ℕ
head_bytes = 10

-- two bytes, low byte first
abbrev pub two_bytes : ℕ → ℕ → ℕ
two_bytes low high = low + high * 2 ^ 8

-- kind 1 is one-bit, kind 2 is 8-bit, kind 3 is one-bit stored turned over
abbrev pub known_kind : ℕ → Bool
known_kind kind = leb 1 kind && leb kind 3

abbrev pub depth_of : ℕ → Depth
depth_of kind = cond (eqb kind 2) EightBit OneBit

abbrev pub face_of : ℕ → Face
face_of kind = cond (eqb kind 3) TurnedOver AsIs

-- the kind that a read reports: kind 3 is retired, and its picture is one of kind 1
abbrev pub reported : ℕ → ℕ
reported kind = cond (eqb kind 3) 1 kind

-- the three letters ECH; version 1; the kind; W and H; the body, nothing after
abbrev pub mark_of : List ℕ → Bool
mark_of f = eqb (get_or f 0 0) 69 && eqb (get_or f 1 0) 67 && eqb (get_or f 2 0) 72

abbrev pub version_of : List ℕ → ℕ
version_of f = two_bytes (get_or f 3 0) (get_or f 4 0)

abbrev pub kind_of : List ℕ → ℕ
kind_of f = get_or f 5 0

abbrev pub reported_kind : List ℕ → ℕ
reported_kind f = reported (kind_of f)

abbrev pub pings_of : List ℕ → ℕ
pings_of f = two_bytes (get_or f 6 0) (get_or f 7 0)

abbrev pub bins_of : List ℕ → ℕ
bins_of f = two_bytes (get_or f 8 0) (get_or f 9 0)

abbrev pub body_of : List ℕ → List ℕ
body_of f = drop head_bytes f

-- at least 10 bytes, the right mark, version and kind
unfoldable pub formed : List ℕ → Bool
formed f = leb head_bytes (length f) && mark_of f && eqb (version_of f) 1 && known_kind (kind_of f)

-- the ten bytes before the body, and the file of the picture in the bytes s, which is never turned over
unfoldable pub head_of : ℕ → ℕ → ℕ → List ℕ
head_of kind w h = 69 ∷ 67 ∷ 72 ∷ 1 ∷ 0 ∷ kind ∷ w % 2 ^ 8 ∷ w / 2 ^ 8 ∷ h % 2 ^ 8 ∷ h / 2 ^ 8 ∷ []

unfoldable pub file_of : ℕ → ℕ → ℕ → List ℕ → List ℕ
file_of kind w h s = head_of kind w h ++ bytes_of (depth_of kind) (value_at (depth_of kind) s w) w h
