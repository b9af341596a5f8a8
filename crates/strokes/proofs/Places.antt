-- Places found one after another, as the loops find them: one more, and all.
use Prim.Native.Nat.{ℕ, zero, suc, ◌+◌, ◌-◌, ◌/◌, ◌^◌, ◌≤◌, ◌<◌}
use mathlib.Core.Path.{◌≡◌, refl, sym, ap, ap₂, ◌∙◌}
use mathlib.Core.Bool.{Bool, true, false, cond}
use mathlib.Core.List.{List}
use native.Mathlib.Omega.{arith}
use lib.Count.{count_leading_zeros, ones}
use lib.Dec.{eqb, leb, ltb}
use lib.ListN.{set}
use borrow.Author.Tests.{eq-eqb, ne_eqb, lt-ltb, le-ltb, le-leb, lt-leb}
use Rattle.packedline.specs.Steps.Cells.{place_of, end_cell}
use Rattle.strokes.specs.Steps.Strokes.{next_of, spot_of, base_of}
use Rattle.strokes.specs.Steps.Places.{mate_of, spot_at, cells_from, run_from, places_from}

one_less : (n : ℕ) → n < 64 → 64 - n ≡ suc (64 - (n + 1))
one_less n h = omega arith

-- ---- the cells of a word
module _ (grows : Bool) (o m count : ℕ) (at : List ℕ) where
  pub cells_more : (c b rest next p v : ℕ) → (m ≡ 0 → ⊥) → count < 64 → c ≡ count_leading_zeros 64 m
      → b ≡ 2 ^ (63 - c) → rest ≡ m - b → next ≡ next_of rest (b / 2) → p ≡ place_of grows o c
      → v ≡ spot_of grows p next
      → cells_from grows o (64 - count) m count at
      ≡ cells_from grows o (64 - (count + 1)) (rest - next) (count + 1) (set at count v)
  unfolding cells_from
  cells_more c b rest next p v some small ec eb er en ep ev =
      ap (λ n. cells_from grows o n m count at) (one_less count small)
      ∙ ap (λ t. cond t (count, at) (cells_from grows o (64 - (count + 1)) (m - 2 ^ (63 - z) - mate_of m z)
      (count + 1) (set at count (spot_at grows o m z)))) (ne_eqb m 0 some)
      ∙ ap₂ (λ r w. cells_from grows o (64 - (count + 1)) r (count + 1) (set at count w))
      (sym (ap₂ (λ r n. r - n) rest_is next_is))
      (sym (ev ∙ ap₂ (spot_of grows) (ep ∙ ap (place_of grows o) ec) next_is))
    where
      z : ℕ
      z = count_leading_zeros 64 m

      digit_is : b ≡ 2 ^ (63 - z)
      digit_is = eb ∙ ap (λ n. 2 ^ (63 - n)) ec

      rest_is : rest ≡ m - 2 ^ (63 - z)
      rest_is = er ∙ ap (λ n. m - n) digit_is

      next_is : next ≡ mate_of m z
      next_is = en ∙ ap₂ (λ r n. next_of r (n / 2)) rest_is digit_is

  pub cells_all : (n : ℕ) → m ≡ 0 → cells_from grows o n m count at ≡ (count, at)
  unfolding cells_from
  cells_all zero e = refl
  cells_all (suc n) e =
      ap (λ t. cond t (count, at) (cells_from grows o n (m - 2 ^ (63 - count_leading_zeros 64 m)
      - mate_of m (count_leading_zeros 64 m)) (count + 1)
      (set at count (spot_at grows o m (count_leading_zeros 64 m)))))
      (eq-eqb m 0 e)

-- ---- the windows of a run
module _ (n wide from c count : ℕ) (at : List ℕ) where
  pub run_step : (v : ℕ) → count < 64 → c + n < wide → v ≡ from + c
      → run_from n wide from (64 - count) c count at
      ≡ run_from n wide from (64 - (count + 1)) (c + n) (count + 1) (set at count v)
  unfolding run_from
  run_step v small h e =
      ap (λ k. run_from n wide from k c count at) (one_less count small)
      ∙ ap (λ t. cond t (run_from n wide from (64 - (count + 1)) (c + n) (count + 1)
      (set at count (from + c)))
      (count + 1, set at count (from + wide - n))) (lt-ltb (c + n) wide h)
      ∙ ap (λ w. run_from n wide from (64 - (count + 1)) (c + n) (count + 1) (set at count w)) (sym e)

  pub run_end : (k v : ℕ) → wide ≤ c + n → v ≡ from + wide - n
      → run_from n wide from k c count at ≡ (count + 1, set at count v)
  unfolding run_from
  run_end zero v h e = ap (λ w. (count + 1, set at count w)) (sym e)
  run_end (suc k) v h e =
      ap (λ t. cond t (run_from n wide from k (c + n) (count + 1) (set at count (from + c)))
      (count + 1, set at count (from + wide - n))) (le-ltb (c + n) wide h)
      ∙ ap (λ w. (count + 1, set at count w)) (sym e)

-- ---- of a word, by what it wants
module _ (grows : Bool) (word o n : ℕ) (at : List ℕ) where
  pub from_cells : n ≤ 1 → places_from grows word o n at ≡ cells_from grows o 64 word 0 at
  unfolding places_from
  from_cells h =
      ap (λ t. cond t (cells_from grows o 64 word 0 at) (run_from n (ones word) (base_of n
      + place_of grows o (end_cell grows (count_leading_zeros 64 word) (ones word))) 64 0 0 at))
      (le-leb n 1 h)

  pub from_run : (c wide from : ℕ) → 1 < n → c ≡ count_leading_zeros 64 word → wide ≡ ones word
      → from ≡ base_of n + place_of grows o (end_cell grows c wide)
      → places_from grows word o n at ≡ run_from n wide from 64 0 0 at
  unfolding places_from
  from_run c wide from h ec ew ef =
      ap (λ t. cond t (cells_from grows o 64 word 0 at) (run_from n (ones word) (base_of n
      + place_of grows o (end_cell grows (count_leading_zeros 64 word) (ones word))) 64 0 0 at))
      (lt-leb n 1 h)
      ∙ ap₂ (λ w f. run_from n w f 64 0 0 at) (sym ew)
      (sym (ef ∙ ap₂ (λ c w. base_of n + place_of grows o (end_cell grows c w)) ec ew))
