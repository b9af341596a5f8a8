-- A piece of a list: its bytes, each joined with the one s further on. Erosion stores in the place of the
-- former, dilation in that of the latter.
use Rattle.std.specs.Prelude.{ℕ, ◌+◌, ◌-◌, ◌*◌, ◌≤◌, Bool, cond, List, get_or}
use Rattle.picture.specs.Frame.{most_bins}
use Rattle.blocks.specs.Steps.Joins.{join_packed}
use Rattle.blocks.specs.Steps.Laid.{laid}

-- of n bytes, c of them done, where the next m begin
abbrev pub start_of : Bool → ℕ → ℕ → ℕ → ℕ
start_of grows n c m = cond grows (n - c - m) c

-- where what byte i and byte j give is put
abbrev pub put_of : Bool → ℕ → ℕ → ℕ
put_of grows i j = cond grows j i

-- m bytes from i on
unfoldable pub piece_of : Bool → ℕ → ℕ → ℕ → List ℕ → List ℕ
piece_of grows i s m t =
    laid (put_of grows i (i + s)) m (λ j. join_packed grows (get_or t (i + j) 0) (get_or t (i + s + j) 0)) t

-- h rows of n bytes within len bytes, and runs of k of them
pub record Rows (n h k len : ℕ) : Type 0 where
  pub some_bytes : 1 ≤ n
  pub few_bytes : n ≤ 128
  pub few_bins : h ≤ most_bins
  pub some_rows : 1 ≤ k
  pub few_rows : k ≤ 64
  pub long : h * n ≤ len
