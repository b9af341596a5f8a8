-- Sums cell by cell.
use Prim.Native.Nat.{ℕ, ◌+◌, ◌-◌, ◌/◌, ◌%◌}
use mathlib.Core.Path.{◌≡◌, sym, ap, ap₂, ◌∙◌}
use mathlib.Core.List.{List}
use mathlib.Core.Bool.{Bool, true, false, not}
use native.Mathlib.Numerals.{add-one}
use borrow.Author.Tests.{eq-eqb, ne_eqb}
use lib.Bits.{bit_and, bit_or}
use lib.Dec.{eqb}
use lib.ListN.{get_or}
use Rattle.dividing.specs.Board.{turned}
use Rattle.dividing.proofs.Least.{cond_yes, cond_no}
use Rattle.covering.specs.Cover.{added, sum_row, bare_by}
use Rattle.covering.specs.Quarter.{beside, side_of, quarter_row, link_columns, link_rows, link_quarter}

module _ (rest : List ℕ) (link a y k v : ℕ) where
  pub sum_more : (w u : ℕ) → v ≡ sum_row rest link a y k
      → w ≡ turned (get_or rest ((y % 64 + (64 - k / 8)) % 64) 0) (a % 8 + (64 - k % 8))
      → u ≡ added v link k w → u ≡ sum_row rest link a y (k + 1)
  unfolding sum_row
  sum_more w u ev ew eu =
      eu ∙ ap₂ (λ p q. added p link k q) ev ew ∙ ap (sum_row rest link a y) (sym (add-one k))

  pub sum_all : v ≡ sum_row rest link a y k → k ≡ 64 → v ≡ sum_row rest link a y 64
  sum_all e q = e ∙ ap (sum_row rest link a y) q

-- ---- a row that is left bare
module _ (w : ℕ) where
  pub bare_empty : (s : ℕ) → w ≡ 0 → false ≡ bare_by w s
  unfolding bare_by
  bare_empty s e = sym (cond_yes (eqb w 0) _ _ (eq-eqb w 0 e))

  pub bare_else : (s t : ℕ) → ¬ (w ≡ 0) → s ≡ t → not (eqb (bit_or w s) s) ≡ bare_by w t
  unfolding bare_by
  bare_else s t n e =
      ap (λ x. not (eqb (bit_or w x) x)) e ∙ sym (cond_no (eqb w 0) false _ (ne_eqb w 0 n))

-- ---- quarters
pub quarter_in : (w y column row : ℕ) (right lower b : Bool) (s : ℕ) → b ≡ beside y row lower → b ≡ true
    → s ≡ side_of column right → bit_and w s ≡ quarter_row w y column row right lower
unfolding quarter_row
quarter_in w y column row right lower b s eb t es =
    ap (bit_and w) es ∙ sym (cond_yes (beside y row lower) (bit_and w (side_of column right)) 0 (sym eb ∙ t))

pub link_quarter_is : (link o : ℕ) (right lower : Bool) (p q : ℕ) → p ≡ link_columns o right
    → q ≡ link_rows (o / 8) lower → bit_and (bit_and link p) q ≡ link_quarter link o right lower
unfolding link_quarter
link_quarter_is link o right lower p q ep eq = ap₂ (λ a b. bit_and (bit_and link a) b) ep eq
