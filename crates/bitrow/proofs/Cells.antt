-- The first cells of a row word, and folds over fewer cells.
use Prim.Native.Nat.{ℕ, zero, suc, ◌+◌, ◌-◌, ◌≤◌, ◌<◌, min}
use mathlib.Core.Path.{◌≡◌, refl, ap, ap₂, ◌∙◌}
use mathlib.Core.Bool.{Bool, false, cond, ◌&&◌}
use native.Mathlib.Omega.{arith}
use native.Mathlib.Nat.{add-suc, add-zero}
use lib.Dec.{eqb}
use Rattle.basics.specs.Bits.{bit}
use Rattle.basics.proofs.Bits.{bit_lt, bit_and_lem}
use Rattle.element.specs.Descriptor.{most_cells}
use Rattle.element.specs.Record.{cell_on}
use Rattle.morphology.specs.Operations.{Change, within}
use Rattle.rows.specs.Steps.Fold.{join_by, plus_by, minus_by, fold_if, folded_at}
use Rattle.packedline.specs.Steps.Cells.{cell_on64, run_word}
use Rattle.packedline.proofs.Covers.{run_on, run_off}
use Rattle.bitrow.specs.Steps.Added.{masked_of}

-- ---- no more than `wide` cells of a word
module _ (word wide c : ℕ) where
  pub masked_on : wide ≤ most_cells → c < wide → cell_on64 (masked_of word wide) c ≡ cell_on word c
  unfolding masked_of
  masked_on few h =
      ap (λ n. eqb n 1)
      (bit_and_lem word (run_word wide) (63 - c)
      ∙ ap (min (bit word (63 - c))) (run_on wide (63 - c) (omega arith) (omega arith))
      ∙ least (bit word (63 - c)) (bit_lt word (63 - c)))
    where
      least : (n : ℕ) → n < 2 → min n 1 ≡ n
      least n h = omega arith

  pub masked_off : wide ≤ c → c < 64 → cell_on64 (masked_of word wide) c ≡ false
  unfolding masked_of
  masked_off h k =
      ap (λ n. eqb n 1)
      (bit_and_lem word (run_word wide) (63 - c)
      ∙ ap (min (bit word (63 - c))) (run_off wide (63 - c) (omega arith) (omega arith))
      ∙ least (bit word (63 - c)))
    where
      least : (n : ℕ) → min n 0 ≡ 0
      least n = omega arith

-- ---- a fold over n cells and d further ones that are not set is one over n
module _ (join : ℕ → ℕ → ℕ) (v : ℕ) (p q : ℕ → Bool) (f : ℕ → ℕ) (n : ℕ) where
  same_cells : (m : ℕ) → ((c : ℕ) → c < m → p c ≡ q c) → fold_if join v p f m ≡ fold_if join v q f m
  unfolding fold_if
  same_cells zero same = refl
  same_cells (suc m) same =
      ap₂ (λ b k. cond b (join k (f m)) k) (same m (omega arith)) (same_cells m (λ c h. same c (omega arith)))

  none_further : (d : ℕ) → ((c : ℕ) → n ≤ c → c < n + d → p c ≡ false)
      → fold_if join v p f (n + d) ≡ fold_if join v p f n
  unfolding fold_if
  none_further zero off = ap (fold_if join v p f) (add-zero n)
  none_further (suc d) off =
      ap (fold_if join v p f) (add-suc n d)
      ∙ ap (λ b. cond b (join (fold_if join v p f (n + d)) (f (n + d))) (fold_if join v p f (n + d)))
      (off (n + d) (omega arith) (omega arith))
      ∙ none_further d (λ c h k. off c h (omega arith))

pub fewer_cells : (grows : Bool) (change : Change) (height source : ℕ → ℕ) (w : ℕ) (has had : ℕ → Bool)
    (wide d o v x : ℕ) → ((c : ℕ) → c < wide → has c ≡ had c)
    → ((c : ℕ) → wide ≤ c → c < wide + d → has c ≡ false)
    → folded_at grows change height source w has (wide + d) o v x
    ≡ folded_at grows change height source w had wide o v x
unfolding folded_at
fewer_cells grows change height source w has had wide d o v x same off =
    none_further (join_by grows) v _ (λ c. false) _ wide d (λ c h k. ap (reaches c) (off c h k))
    ∙ same_cells (join_by grows) v _ _ _ wide wide (λ c h. ap (reaches c) (same c h))
  where
    reaches : ℕ → Bool → Bool
    reaches c b = b && within w x (plus_by grows o c) (minus_by grows o c)
