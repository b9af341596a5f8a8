-- Erosion and dilation share one shape: dilation takes the greater of two values and moves back by an offset,
-- erosion takes the lesser and moves on by it.
use Rattle.std.specs.Prelude.{ℕ, zero, suc, min, max, Bool, true, false, cond, ◌&&◌}
use Rattle.morphology.specs.Operations.{Change, moved, within}

abbrev pub join_by : Bool → ℕ → ℕ → ℕ
join_by true = max
join_by false = min

-- a cell c of an element whose origin is o leads from the place p to p + (plus - minus)
abbrev pub plus_by : Bool → ℕ → ℕ → ℕ
plus_by grows o c = cond grows o c

abbrev pub minus_by : Bool → ℕ → ℕ → ℕ
minus_by grows o c = cond grows c o

-- what a fold starts from: 0, or the greatest value
abbrev pub start_by : Bool → ℕ → ℕ
start_by grows top = cond grows 0 top

-- a, and then each f i that p admits, joined in order
unfoldable pub fold_if : (ℕ → ℕ → ℕ) → ℕ → (ℕ → Bool) → (ℕ → ℕ) → ℕ → ℕ
fold_if join a p f zero = a
fold_if join a p f (suc n) = cond (p n) (join (fold_if join a p f n) (f n)) (fold_if join a p f n)

-- the value v of column x, joined with what one row of an element finds in a row of w columns:
-- at each of its set cells that leads inside, the value there as the cell changes it
unfoldable pub folded_at : Bool → Change → (ℕ → ℕ) → (ℕ → ℕ) → ℕ → (ℕ → Bool) → ℕ → ℕ → ℕ → ℕ → ℕ
folded_at grows change height source w has wide o v x =
    fold_if (join_by grows) v (λ c. has c && within w x (plus_by grows o c) (minus_by grows o c))
    (λ c. change (height c) (source (moved x (plus_by grows o c) (minus_by grows o c)))) wide
