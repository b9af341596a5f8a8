-- What two rooms show of a row of values, of either depth, and what the two depths have of their own.
use Rattle.std.specs.Prelude.{ℕ, ◌+◌, ◌*◌, ◌/◌, ◌≤◌, ◌<◌, ◌≡◌, Bool, List, length, get_or, replicate}
use Rattle.basics.specs.Bytes.{Bytes}
use Rattle.picture.specs.declared.Depth.{Depth}
use Rattle.picture.specs.Frame.{most_pings, row_bytes, top}
use Rattle.picture.specs.Points.{column_byte, value_in}
use Rattle.morphology.specs.Operations.{fold}
use Rattle.rows.specs.Steps.Fold.{join_by, start_by}
use Rattle.rooms.specs.Steps.Lanes.{Way, row_joined}
use Rattle.strokes.specs.Steps.Strokes.{room}
use Rattle.sourceparts.specs.Steps.Shown.{pad_at, Rooms}

-- the value at place p of bytes
abbrev pub value_of : Depth → List ℕ → ℕ → ℕ
value_of depth b p = value_in depth (get_or b (column_byte depth p) 0) p

-- the rooms in b of the row s of w values, as far as its windows were made
abbrev pub RoomsOf : Depth → Bool → ℕ → List ℕ → ℕ → ℕ → List ℕ → Type 0
RoomsOf depth grows kind s w far b =
    Rooms grows kind (pad_at grows (top depth) w (value_of depth s)) far (value_of depth b)

-- a row of w values in n bytes, and rooms of so many bytes that count as beyond the frame
pub record RoomsFit (depth : Depth) (grows : Bool) (rooms : ℕ) (b : List ℕ) (n w : ℕ) : Type 0 where
  pub some_points : 1 ≤ w
  pub few_points : w ≤ most_pings
  pub row : n ≡ row_bytes depth w
  pub long : length b ≡ rooms
  pub empty : b ≡ replicate rooms (start_by grows 255)

-- the windows of a row are made as far as its places reach, and 12 places more; what is read of the rooms is
-- there; and what is joined of the bytes is joined of their values
pub record Scans (depth : Depth) (way : Way) (rooms : ℕ) (far : ℕ → ℕ) : Type 0 where
  pub few : rooms ≤ 4096
  pub long : (w : ℕ) → w ≤ most_pings → w + 139 ≤ far w
  pub holds : (w p : ℕ) → w ≤ most_pings → p < room + 128
      → way.reach p + (row_bytes depth w + 63) / 64 * 64 ≤ rooms
  pub joins : (grows : Bool) (b at t : List ℕ) → Bytes b → (x : ℕ) → column_byte depth x < length t
      → value_of depth (row_joined way grows b at t) x
      ≡ fold (join_by grows) (value_of depth t x) (λ j. value_of depth b (x + get_or at j 0)) (length at)
