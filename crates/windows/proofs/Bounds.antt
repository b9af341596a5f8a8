-- A fold is bounded exactly where its start and each of its values are; values with the same bounds
-- are the same. Order, grouping and repetition never matter.
use Prim.Native.Nat.{ℕ, zero, suc, ◌≤◌, ◌<◌}
use mathlib.Core.Path.{◌≡◌, refl, sym, ap, ◌∙◌, subst}
use mathlib.Core.Bool.{Bool, true, false, cond}
use mathlib.Core.Logic.{⊎_elim}
use native.Mathlib.Omega.{arith}
use native.Mathlib.Nat.{not-suc-le-zero, le_of_suc-le-suc, eq-or-lt_of_le}
use Rattle.rows.specs.Steps.Fold.{join_by, fold_if, start_by}
use Rattle.morphology.specs.Operations.{fold}
use Rattle.windows.specs.Steps.Bounds.{Bound}

pub join_to : (grows : Bool) (a b v : ℕ) → Bound grows (join_by grows a b) v → Bound grows a v
    × Bound grows b v
join_to true a b v h = (omega arith, omega arith)
join_to false a b v h = (omega arith, omega arith)

pub join_from : (grows : Bool) (a b v : ℕ) → Bound grows a v → Bound grows b v
    → Bound grows (join_by grows a b) v
join_from true a b v h k = omega arith
join_from false a b v h k = omega arith

pub start_bound : (grows : Bool) (v : ℕ) → v < 2 → Bound grows (start_by grows 1) v
start_bound true v h = omega arith
start_bound false v h = omega arith

pub join_lt : (grows : Bool) (a b : ℕ) → a < 2 → b < 2 → join_by grows a b < 2
join_lt true a b h k = omega arith
join_lt false a b h k = omega arith

-- equal bounds, equal values
pub bounds_same : (grows : Bool) (a b : ℕ) → a < 2 → b < 2
    → ((v : ℕ) → v < 2 → Bound grows a v → Bound grows b v)
    → ((v : ℕ) → v < 2 → Bound grows b v → Bound grows a v) → a ≡ b
bounds_same true a b ha hb to from =
    let x : b ≤ a = to a ha (omega arith) in let y : a ≤ b = from b hb (omega arith) in omega arith
bounds_same false a b ha hb to from =
    let x : a ≤ b = to a ha (omega arith) in let y : b ≤ a = from b hb (omega arith) in omega arith

-- ---- a fold over what p admits
module _ (grows : Bool) (a : ℕ) (p : ℕ → Bool) (f : ℕ → ℕ) (v : ℕ) where
  cond_to : (t : Bool) (x y : ℕ) → Bound grows (cond t (join_by grows x y) x) v → Bound grows x v
      × (t ≡ true → Bound grows y v)
  cond_to true x y h = let k = join_to grows x y v h in (k.0, λ e. k.1)
  cond_to false x y h = (h, λ e. let z : ◌≡◌ {A = ℕ} 0 1 = cc in absurd (omega arith))

  cond_from : (t : Bool) (x y : ℕ) → Bound grows x v → (t ≡ true → Bound grows y v)
      → Bound grows (cond t (join_by grows x y) x) v
  cond_from true x y h k = join_from grows x y v h (k refl)
  cond_from false x y h k = h

  pub fold_if_to : (n : ℕ) → Bound grows (fold_if (join_by grows) a p f n) v → Bound grows a v
      × ((i : ℕ) → i < n → p i ≡ true → Bound grows (f i) v)
  unfolding fold_if
  fold_if_to zero h = (h, λ i k. absurd (not-suc-le-zero k))
  fold_if_to (suc n) h =
      let k = cond_to (p n) (fold_if (join_by grows) a p f n) (f n) h in
      let r = fold_if_to n k.0 in (
        r.0,
        λ i l e. ⊎_elim (λ q. subst (λ j. Bound grows (f j) v) (sym q) (k.1 (ap p (sym q) ∙ e)))
            (λ q. r.1 i q e) (eq-or-lt_of_le (le_of_suc-le-suc l)),
      )

  pub fold_if_from : (n : ℕ) → Bound grows a v → ((i : ℕ) → i < n → p i ≡ true → Bound grows (f i) v)
      → Bound grows (fold_if (join_by grows) a p f n) v
  unfolding fold_if
  fold_if_from zero h each = h
  fold_if_from (suc n) h each =
      cond_from (p n) (fold_if (join_by grows) a p f n) (f n)
      (fold_if_from n h (λ i l e. each i (omega arith) e)) (λ e. each n (omega arith) e)

-- ---- a fold over all
module _ (grows : Bool) (a : ℕ) (f : ℕ → ℕ) (v : ℕ) where
  pub fold_to : (n : ℕ) → Bound grows (fold (join_by grows) a f n) v → Bound grows a v
      × ((i : ℕ) → i < n → Bound grows (f i) v)
  unfolding fold
  fold_to zero h = (h, λ i k. absurd (not-suc-le-zero k))
  fold_to (suc n) h =
      let k = join_to grows (fold (join_by grows) a f n) (f n) v h in
      let r = fold_to n k.0 in (
        r.0,
        λ i l. ⊎_elim (λ q. subst (λ j. Bound grows (f j) v) (sym q) k.1) (λ q. r.1 i q)
            (eq-or-lt_of_le (le_of_suc-le-suc l)),
      )

  pub fold_from : (n : ℕ) → Bound grows a v → ((i : ℕ) → i < n → Bound grows (f i) v)
      → Bound grows (fold (join_by grows) a f n) v
  unfolding fold
  fold_from zero h each = h
  fold_from (suc n) h each =
      join_from grows (fold (join_by grows) a f n) (f n) v (fold_from n h (λ i l. each i (omega arith)))
      (each n (omega arith))

-- ---- folds of values below 2 stay below 2
pub fold_if_lt : (grows : Bool) (a : ℕ) (p : ℕ → Bool) (f : ℕ → ℕ) (n : ℕ) → a < 2 → ((i : ℕ) → f i < 2)
    → fold_if (join_by grows) a p f n < 2
unfolding fold_if
fold_if_lt grows a p f zero h each = h
fold_if_lt grows a p f (suc n) h each = by (p n) (fold_if_lt grows a p f n h each)
  where
    by : (t : Bool) → fold_if (join_by grows) a p f n < 2
        → cond t (join_by grows (fold_if (join_by grows) a p f n) (f n)) (fold_if (join_by grows) a p f n) < 2
    by true k = join_lt grows (fold_if (join_by grows) a p f n) (f n) k (each n)
    by false k = k

pub fold_lt : (grows : Bool) (a : ℕ) (f : ℕ → ℕ) (n : ℕ) → a < 2 → ((i : ℕ) → f i < 2)
    → fold (join_by grows) a f n < 2
unfolding fold
fold_lt grows a f zero h each = h
fold_lt grows a f (suc n) h each =
    join_lt grows (fold (join_by grows) a f n) (f n) (fold_lt grows a f n h each) (each n)
