-- Blocks of 64 bytes: taken from a list, and joined with what stands at a place of one.
use Rattle.std.specs.Prelude.{ℕ, ◌+◌, Bool, List, get_or}
use Rattle.basics.specs.Lists.{firsts}
use Rattle.blocks.specs.Steps.Joins.{join_packed}
use Rattle.blocks.specs.Steps.Points.{eight_from}

unfoldable pub block_of : List ℕ → ℕ → List ℕ
block_of s at = firsts (λ i. get_or s (at + i) 0) 64

-- with the bytes from the place `at` on
unfoldable pub joined_block : Bool → List ℕ → List ℕ → ℕ → List ℕ
joined_block grows a b at = firsts (λ i. join_packed grows (get_or a i 0) (get_or b (at + i) 0)) 64

-- with the points from d points past those of the byte at `at` on
unfoldable pub joined_bits : Bool → List ℕ → List ℕ → ℕ → ℕ → List ℕ
joined_bits grows a b at d = firsts (λ i. join_packed grows (get_or a i 0) (eight_from b (at + i) d)) 64
