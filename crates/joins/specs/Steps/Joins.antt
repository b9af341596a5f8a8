-- Two bytes joined at either depth, as dilation, which grows, or erosion takes them.
use Rattle.std.specs.Prelude.{ℕ, ◌+◌, Bool, true, false, List, get_or}
use Rattle.basics.specs.Lists.{firsts}
use Rattle.picture.specs.declared.Depth.{Depth}
use Rattle.picture.specs.declared.Depth.TheVariants.{OneBit, EightBit}
use Rattle.rows.specs.Steps.Fold.{join_by}
use Rattle.blocks.specs.Steps.Joins.{join_packed}

-- packed bytes have eight points, others one
abbrev pub depth_if : Bool → Depth
depth_if true = OneBit
depth_if false = EightBit

abbrev pub join_at : Bool → Bool → ℕ → ℕ → ℕ
join_at true = join_packed
join_at false = join_by

-- a block with the bytes of b from the place `at` on
unfoldable pub joined_at : Bool → Bool → List ℕ → List ℕ → ℕ → List ℕ
joined_at packed grows a b at = firsts (λ i. join_at packed grows (get_or a i 0) (get_or b (at + i) 0)) 64
