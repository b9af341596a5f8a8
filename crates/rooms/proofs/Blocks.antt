-- A block of bytes joined with what stands at all places.
use Prim.Native.Nat.{ℕ, ◌+◌}
use mathlib.Core.Path.{◌≡◌, sym, ap, ap₂, ◌∙◌}
use mathlib.Core.Bool.{Bool, false}
use mathlib.Core.List.{List}
use native.Mathlib.Omega.{arith}
use native.Mathlib.Numerals.{add-one}
use lib.ListN.{length, get_or}
use Rattle.basics.specs.Lists.{firsts}
use Rattle.basics.proofs.Lists.{length_firsts, firsts_same}
use Rattle.morphology.specs.Operations.{fold}
use Rattle.rows.specs.Steps.Fold.{join_by}
use Rattle.joins.specs.Steps.Joins.{joined_at}
use Rattle.rooms.specs.Steps.Joined.{at_places}
use Rattle.rooms.proofs.Row.{got}

swap : (i d j : ℕ) → i + d + j ≡ i + j + d
swap i d j = omega arith

-- ---- a block joined with what stands at all places, one after another
module _ (grows : Bool) (c b : List ℕ) (i : ℕ) (at : List ℕ) where
  abbrev pub places_at : ℕ → List ℕ
  places_at k = firsts (λ m. at_places grows (get_or c m 0) b (i + m) at k) 64

  pub places_more : (acc next : List ℕ) (p j : ℕ) → acc ≡ places_at j → p ≡ get_or at j 0
      → next ≡ joined_at false grows acc b (i + p) → next ≡ places_at (j + 1)
  unfolding at_places fold joined_at
  places_more acc next p j so ep e =
      e ∙ firsts_same _ _ 64
      (λ m h. ap₂ (λ n q. join_by grows n (get_or b q 0)) (got _ acc so m h)
      (swap i p m ∙ ap (λ q. i + m + q) ep))
      ∙ ap places_at (sym (add-one j))

  pub places_length : (acc : List ℕ) (j : ℕ) → acc ≡ places_at j → length acc ≡ 64
  places_length acc j e = ap length e ∙ length_firsts _ 64
