-- Windows and rests, row by row and cell by cell.
use Prim.Native.Nat.{ℕ, ◌+◌, ◌-◌, ◌*◌, ◌/◌, ◌%◌, ◌^◌}
use mathlib.Core.Path.{◌≡◌, sym, ap, ap₂, ◌∙◌}
use mathlib.Core.List.{List}
use native.Mathlib.Numerals.{add-one}
use lib.Bits.{bit_or}
use lib.ListN.{get_or}
use Rattle.dividing.specs.Board.{turned, window}
use Rattle.dividing.specs.Divide.{met, rest_row}

module _ (rows : List ℕ) (x y r v : ℕ) where
  pub window_more : (w : ℕ) → v ≡ window rows x y r → w ≡ turned (get_or rows ((y % 64 + r) % 64) 0) x
      → bit_or (v * 2 ^ 8 % 2 ^ 64) (w / 2 ^ 56) ≡ window rows x y (r + 1)
  unfolding window
  window_more w ev ew =
      ap₂ (λ a b. bit_or (a * 2 ^ 8 % 2 ^ 64) (b / 2 ^ 56)) ev ew
      ∙ ap (window rows x y) (sym (add-one r))

  pub window_all : v ≡ window rows x y r → r ≡ 8 → v ≡ window rows x y 8
  window_all e q = e ∙ ap (window rows x y) q

module _ (rows : List ℕ) (link a y k v : ℕ) where
  pub rest_more : (w u : ℕ) → v ≡ rest_row rows link a y k
      → w ≡ turned (get_or rows ((y % 64 + k / 8) % 64) 0) (k % 8 + (64 - a % 8))
      → u ≡ met v link k w → u ≡ rest_row rows link a y (k + 1)
  unfolding rest_row
  rest_more w u ev ew eu =
      eu ∙ ap₂ (λ p q. met p link k q) ev ew ∙ ap (rest_row rows link a y) (sym (add-one k))

  pub rest_all : v ≡ rest_row rows link a y k → k ≡ 64 → v ≡ rest_row rows link a y 64
  rest_all e q = e ∙ ap (rest_row rows link a y) q
