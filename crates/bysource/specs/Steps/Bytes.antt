-- Bytes as rooms: 19 blocks of windows at most, each byte a place.
use Rattle.std.specs.Prelude.{ℕ, zero, suc, ◌+◌, ◌*◌, ◌/◌, ◌<◌, ◌≡◌, Bool, false, List, length, get_or}
use Rattle.std.specs.Prelude.{replicate}
use Rattle.std.proofs.Common.{arith}
use Rattle.picture.specs.declared.Depth.TheVariants.{EightBit}
use Rattle.picture.specs.Points.{value_in}
use Rattle.morphology.specs.Operations.{fold}
use Rattle.rows.specs.Steps.Fold.{join_by, start_by}
use Rattle.blocks.specs.Steps.Laid.{laid}
use Rattle.blocks.proofs.Laid.{get_first}
use Rattle.packedline.specs.Steps.Padded.{faced_byte}
use Rattle.rooms.specs.Steps.Lanes.{bytes_way, widened_to, row_joined, byte_joined}
use Rattle.strokes.specs.Steps.Strokes.{room}
use Rattle.bysource.specs.Steps.Filled.{value_of, Scans}

abbrev pub byte_rooms : ℕ
byte_rooms = 2464

-- as many blocks as the last place of the row reaches, and 12 places more
abbrev pub bytes_far : ℕ → ℕ
bytes_far w = 64 * ((w + 202) / 64)

-- the bytes of a row a block past `base`, in rooms that count as beyond the frame
abbrev pub copied_in : Bool → ℕ → List ℕ → List ℕ
copied_in grows base s =
    laid (base + 64) (length s) (λ i. faced_byte false (get_or s i 0))
    (replicate byte_rooms (start_by grows 255))

-- both rooms of rows of single cells: the row, and its windows of two
unfoldable pub cells_in : Bool → List ℕ → List ℕ
cells_in grows s = widened_to bytes_way grows 0 room (bytes_far (length s)) 1 1 1 (copied_in grows 0 s)

-- and of runs: windows of 4, and of these those of 16
unfoldable pub runs_in : Bool → List ℕ → List ℕ
runs_in grows s =
    widened_to bytes_way grows 0 room (bytes_far (length s)) 4 8 12
    (widened_to bytes_way grows room 0 (bytes_far (length s)) 1 2 3 (copied_in grows room s))

-- of either kind
abbrev pub bytes_filled : Bool → ℕ → List ℕ → ℕ → List ℕ
bytes_filled grows zero s w = cells_in grows s
bytes_filled grows (suc k) s w = runs_in grows s

-- what is joined of bytes is joined of their values
pub bytes_value : (grows : Bool) (b at t : List ℕ) (x : ℕ) → x < length t
    → value_of EightBit (row_joined bytes_way grows b at t) x
    ≡ fold (join_by grows) (value_of EightBit t x) (λ j. value_of EightBit b (x + get_or at j 0)) (length at)
unfolding row_joined byte_joined value_in
bytes_value grows b at t x h = get_first (length t) _ t x (omega arith) h

pub bytes_scan : Scans EightBit bytes_way byte_rooms bytes_far
bytes_scan = record {
  few = omega arith;
  long = λ w h. omega (arith, h);
  holds = λ w p h l. omega (arith, h, l);
  joins = λ grows b at t bytes x h. bytes_value grows b at t x h;
}
