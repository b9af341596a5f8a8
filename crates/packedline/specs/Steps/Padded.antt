-- The padded row: a packed row, as it is or turned over, between what counts beyond the frame.
use Rattle.std.specs.Prelude.{ℕ, ◌+◌, ◌-◌, ◌/◌, ◌%◌, ◌^◌, Bool, cond, List, eqb, length, get_or, set}
use Rattle.std.specs.Prelude.{replicate}
use Rattle.std.specs.Int.Bits.{bit_or, bit_and}
use Rattle.rows.specs.Steps.Fold.{start_by}
use Rattle.blocks.specs.Steps.Laid.{laid}

abbrev pub faced_byte : Bool → ℕ → ℕ
faced_byte over v = cond over (255 - v) v

-- the digits of a last byte that are no points, where d = w % 8
unfoldable pub spare_of : ℕ → ℕ
spare_of d = cond (eqb d 0) 0 (255 / 2 ^ d)

-- the digits m of v as beyond the frame
abbrev pub blotted_by : Bool → ℕ → ℕ → ℕ
blotted_by grows v m = cond grows (bit_and v (255 - m)) (bit_or v m)

-- 8 bytes beyond the frame, the row of w points, and beyond the frame to 194 bytes
unfoldable pub copied_of : Bool → Bool → List ℕ → List ℕ
copied_of over grows s =
    laid 8 (length s) (λ i. faced_byte over (get_or s i 0)) (replicate 194 (start_by grows 255))

unfoldable pub padded_of : Bool → Bool → List ℕ → ℕ → List ℕ
padded_of over grows s w =
    set (copied_of over grows s) (8 + length s - 1)
    (blotted_by grows (get_or (copied_of over grows s) (8 + length s - 1) 0) (spare_of (w % 8)))
