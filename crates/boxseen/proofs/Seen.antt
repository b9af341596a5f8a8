-- A column of rows that were joined byte by byte, at either depth: bounded exactly where each row's point is.
use Prim.Native.Nat.{ℕ, zero, suc, ◌+◌, ◌-◌, ◌*◌, ◌≤◌, ◌<◌, min}
use mathlib.Core.Path.{◌≡◌, refl, sym, ap, ap₂, ◌∙◌, subst}
use mathlib.Core.Bool.{Bool, true, false}
use mathlib.Core.List.{List}
use mathlib.Core.Logic.{◌⊎◌, inl, inr, ⊎_elim}
use native.Mathlib.Omega.{arith}
use lib.ListN.{get_or}
use Rattle.basics.proofs.Bits.{bit_lt}
use Rattle.basics.proofs.SliceParts.{below_or_not}
use Rattle.picture.specs.Frame.{top, row_bytes}
use Rattle.picture.specs.Points.{column_byte, place, value_in, value_at}
use Rattle.morphology.specs.Operations.{fold}
use Rattle.rows.specs.Steps.Fold.{join_by, start_by}
use Rattle.packedline.proofs.Margins.{neutral_bit}
use Rattle.windows.specs.Steps.Bounds.{Bound}
use Rattle.windows.proofs.Bounds.{join_to, join_from, fold_to, fold_from}
use Rattle.joins.specs.Steps.Joins.{depth_if, join_at}
use Rattle.joins.proofs.Values.{value_join}
use Rattle.columns.specs.Steps.Down.{down_at, also_at}
use Rattle.boxseen.specs.Steps.Seen.{first_row, shared_from, shared_count, last_row}

-- ---- which rows two rows of a result see
-- the rows joined for row y: `row`, and count rows from lo on, are those that it sees
pub record Sees (h y above high lo count row : ℕ) : Type 0 where
  pub all : (b : ℕ) → b < h → y ≤ b + above → b + above < y + high → (b ≡ row) ⊎ ((lo ≤ b) × (b < lo + count))
  pub more : (row < h) × ((y ≤ row + above) × (row + above < y + high))
  pub only : (b : ℕ) → lo ≤ b → b < lo + count → (b < h) × ((y ≤ b + above) × (b + above < y + high))

pub in_first_lem : (above high h y z b : ℕ) → above < high → y ≤ z → z ≤ y + 1 → z < h → b < h
    → y ≤ b + above → b + above < y + high
    → (b ≡ first_row above y)
    ⊎ ((shared_from above z ≤ b) × (b < shared_from above z + shared_count above high h y z))
in_first_lem above high h y z b l m n hz hb p q =
    ⊎_elim (λ k. inl (omega arith)) (λ k. inr (k, omega arith)) (below_or_not b (z - above))

pub in_last : (above high h y z b : ℕ) → above < high → y ≤ z → z ≤ y + 1 → z < h → b < h
    → z ≤ b + above → b + above < z + high
    → (b ≡ last_row above high h z)
    ⊎ ((shared_from above z ≤ b) × (b < shared_from above z + shared_count above high h y z))
in_last above high h y z b l m n hz hb p q =
    ⊎_elim (λ k. inr (omega arith, omega arith)) (λ k. inl (omega arith))
    (below_or_not b (min (y + high - above) h))

-- ---- values within the depth
pub value_start : (packed grows : Bool) (x : ℕ) → value_in (depth_if packed) (start_by grows 255) x
    ≡ start_by grows (top (depth_if packed))
unfolding value_in
value_start true grows x = neutral_bit grows (place x) (omega arith)
value_start false grows x = refl

-- ---- the rows of one column
module _ (packed grows : Bool) (s : List ℕ) (w lo : ℕ) where
  abbrev n : ℕ
  n = row_bytes (depth_if packed) w

  abbrev A : ℕ → ℕ → ℕ
  A x y = value_at (depth_if packed) s w x y

  -- the value of column x in byte i of the rows that were joined
  abbrev start : ℕ
  start = start_by grows (top (depth_if packed))

  down_value : (count x : ℕ)
      → value_in (depth_if packed) (down_at packed grows s n lo count (column_byte (depth_if packed) x)) x
      ≡ fold (join_by grows) start (λ v. A x (lo + v)) count
  unfolding down_at fold value_at
  down_value zero x = value_start packed grows x
  down_value (suc count) x =
      value_join packed grows _ _ x
      ∙ ap (λ a. join_by grows a (A x (lo + count))) (down_value count x)

  pub also_value : (count row x : ℕ)
      → value_in (depth_if packed) (also_at packed grows s n lo count row (column_byte (depth_if packed) x)) x
      ≡ join_by grows (fold (join_by grows) start (λ v. A x (lo + v)) count) (A x row)
  unfolding also_at value_at
  also_value count row x =
      value_join packed grows _ _ x ∙ ap (λ a. join_by grows a (A x row)) (down_value count x)

  -- the joined value is bounded exactly where each of the rows is
  module _ (count row x v : ℕ) where
    abbrev value : ℕ
    value = value_in (depth_if packed)
        (also_at packed grows s n lo count row (column_byte (depth_if packed) x)) x

    pub also_to : Bound grows value v → (b : ℕ) → (b ≡ row) ⊎ ((lo ≤ b) × (b < lo + count)) → Bound grows
        (A x b) v
    also_to h b which =
        let k = join_to grows (fold (join_by grows) start (λ v. A x (lo + v)) count) (A x row) v
        (subst (λ a. Bound grows a v) (also_value count row x) h) in
        ⊎_elim (λ e. subst (λ b. Bound grows (A x b) v) (sym e) k.1)
        (λ e. subst (λ b. Bound grows (A x b) v) (on lo b e.0)
        ((fold_to grows start (λ v. A x (lo + v)) v count k.0).1 (b - lo) (omega (arith, e.0, e.1))))
        which
      where
        on : (lo b : ℕ) → lo ≤ b → lo + (b - lo) ≡ b
        on lo b h = omega arith

    pub also_from : Bound grows start v → Bound grows (A x row) v
        → ((b : ℕ) → lo ≤ b → b < lo + count → Bound grows (A x b) v) → Bound grows value v
    also_from h one each =
        subst (λ a. Bound grows a v) (sym (also_value count row x))
        (join_from grows (fold (join_by grows) start (λ v. A x (lo + v)) count) (A x row) v
        (fold_from grows start (λ v. A x (lo + v)) v count h (λ k l. each (lo + k) (omega arith) (omega
        arith)))
        one)

-- an eroded value is within the depth
pub fold_most : (z : ℕ) (f : ℕ → ℕ) (n : ℕ) → fold (join_by false) z f n ≤ z
unfolding fold
fold_most z f zero = omega arith
fold_most z f (suc n) = omega (arith, fold_most z f n)

pub also_most : (packed : Bool) (s : List ℕ) (w lo count row x : ℕ)
    → value_in (depth_if packed)
    (also_at packed false s (row_bytes (depth_if packed) w) lo count row (column_byte (depth_if packed) x)) x
    ≤ top (depth_if packed)
also_most packed s w lo count row x =
    omega (
      arith,
      also_value packed false s w lo count row x,
      fold_most (top (depth_if packed)) (λ v. value_at (depth_if packed) s w x (lo + v)) count,
    )

-- ---- what row y sees, and what row z sees
module _ (above high h y z : ℕ) (l : above < high) (up : y ≤ z) (next : z ≤ y + 1) (hz : z < h) where
  pub sees_first : Sees h y above high (shared_from above z) (shared_count above high h y z)
      (first_row above y)
  sees_first =
      record {
        all = λ b hb p q. in_first_lem above high h y z b l up next hz hb p q;
        more = (omega arith, (omega arith, omega arith));
        only = λ b p q. (omega arith, (omega arith, omega arith));
      }

  pub sees_last : Sees h z above high (shared_from above z) (shared_count above high h y z) (last_row above
      high h z)
  sees_last =
      record {
        all = λ b hb p q. in_last above high h y z b l up next hz hb p q;
        more = (omega arith, (omega arith, omega arith));
        only = λ b p q. (omega arith, (omega arith, omega arith));
      }
