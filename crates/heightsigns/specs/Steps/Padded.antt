-- A row of values between what counts beyond the frame.
use Rattle.std.specs.Prelude.{ℕ, ◌+◌, ◌≤◌, ◌<◌, ◌≡◌, Bool, List, length, get_or}
use Rattle.rows.specs.Steps.Fold.{start_by}

-- the row s stands in b from place 64 on, beyond the frame around it
pub record Padded (grows : Bool) (s b : List ℕ) : Type 0 where
  pub values : length b ≡ 1152
  pub inside : (i : ℕ) → i < length s → get_or b (64 + i) 0 ≡ get_or s i 0
  pub before : (q : ℕ) → q < 64 → get_or b q 0 ≡ start_by grows 255
  pub after : (q : ℕ) → 64 + length s ≤ q → q < 1152 → get_or b q 0 ≡ start_by grows 255
