-- Packed points as rooms: three blocks of windows at most, each byte eight places.
use Rattle.std.specs.Prelude.{ℕ, ◌+◌, ◌*◌, ◌/◌, ◌<◌, ◌≡◌, Bool, List, length, get_or}
use Rattle.std.proofs.Common.{arith}
use Rattle.basics.specs.Bytes.{Bytes}
use Rattle.picture.specs.declared.Depth.TheVariants.{OneBit}
use Rattle.picture.specs.Points.{value_in}
use Rattle.morphology.specs.Operations.{fold}
use Rattle.rows.specs.Steps.Fold.{join_by}
use Rattle.blocks.specs.Steps.Points.{point_of}
use Rattle.windows.specs.Steps.Places as places
use Rattle.windows.proofs.Row.{row_point_lem}
use Rattle.rooms.specs.Steps.Lanes as lanes
use Rattle.bysource.specs.Steps.Filled.{value_of, Scans}
use Rattle.bitrooms.specs.Steps.Points.{bits_way, made_of}

abbrev pub bit_rooms : ℕ
bit_rooms = 308

-- as many bytes of windows as the last place of the row reaches, and 12 places more
abbrev pub windows_of : ℕ → ℕ
windows_of w = made_of ((w + 650) / 512)

abbrev pub bits_far : ℕ → ℕ
bits_far w = 8 * windows_of w

-- what is joined of packed bytes is joined of their points
pub bits_value : (grows : Bool) (b at t : List ℕ) → Bytes b → (x : ℕ) → x / 8 < length t
    → value_of OneBit (lanes.row_joined bits_way grows b at t) x
    ≡ fold (join_by grows) (value_of OneBit t x) (λ j. value_of OneBit b (x + get_or at j 0)) (length at)
unfolding lanes.row_joined lanes.byte_joined places.joined_row places.byte_joined value_in point_of
bits_value grows b at t bytes x h = row_point_lem grows b at t bytes x h

pub bits_scan : Scans OneBit bits_way bit_rooms bits_far
bits_scan = record {
  few = omega arith;
  long = λ w h. omega (arith, h);
  holds = λ w p h l. omega (arith, h, l);
  joins = bits_value;
}
