-- Places found one after another: how many, and the list that begins with them.
use Rattle.std.specs.Prelude.{ℕ, zero, suc, ◌+◌, ◌-◌, ◌/◌, ◌^◌, Bool, cond, List, eqb, leb, ltb, set}
use Rattle.std.specs.Int.Count.{count_leading_zeros, ones}
use Rattle.packedline.specs.Steps.Cells.{place_of, end_cell}
use Rattle.strokes.specs.Steps.Strokes.{next_of, spot_of, base_of}

-- the digit of the cell that goes with cell c, the first of the word m, or 0; and where the two stand
abbrev pub mate_of : ℕ → ℕ → ℕ
mate_of m c = next_of (m - 2 ^ (63 - c)) (2 ^ (63 - c) / 2)

abbrev pub spot_at : Bool → ℕ → ℕ → ℕ → ℕ
spot_at grows o m c = spot_of grows (place_of grows o c) (mate_of m c)

-- at most n more places, for the cells of m
unfoldable pub cells_from : Bool → ℕ → ℕ → ℕ → ℕ → List ℕ → ℕ × List ℕ
cells_from grows o zero m count at = (count, at)
cells_from grows o (suc n) m count at =
    cond (eqb m 0) (count, at)
    (cells_from grows o n (m - 2 ^ (63 - count_leading_zeros 64 m) - mate_of m (count_leading_zeros 64 m))
    (count + 1)
    (set at count (spot_at grows o m (count_leading_zeros 64 m))))

-- at most k + 1 more windows of n, for the places of the run from c on
unfoldable pub run_from : ℕ → ℕ → ℕ → ℕ → ℕ → ℕ → List ℕ → ℕ × List ℕ
run_from n wide from zero c count at = (count + 1, set at count (from + wide - n))
run_from n wide from (suc k) c count at =
    cond (ltb (c + n) wide) (run_from n wide from k (c + n) (count + 1) (set at count (from + c)))
    (count + 1, set at count (from + wide - n))

-- of a word that wants windows of n
unfoldable pub places_from : Bool → ℕ → ℕ → ℕ → List ℕ → ℕ × List ℕ
places_from grows word o n at =
    cond (leb n 1) (cells_from grows o 64 word 0 at)
    (run_from n (ones word)
    (base_of n + place_of grows o (end_cell grows (count_leading_zeros 64 word) (ones word))) 64 0 0 at)
