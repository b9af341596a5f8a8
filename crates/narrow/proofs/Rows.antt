-- The rows of an element from the source rows that they lead to.
use Prim.Native.Nat.{ℕ, ◌+◌, ◌-◌, ◌*◌, ◌≤◌, ◌<◌, max}
use mathlib.Core.Path.{◌≡◌, sym, ap, ◌∙◌, subst}
use mathlib.Core.Bool.{Bool, true, false}
use mathlib.Core.List.{List}
use mathlib.Core.Logic.{⊎_elim}
use native.Mathlib.Omega.{arith}
use native.Mathlib.Nat.{eq-or-lt_of_le, mul-le-mul}
use lib.ListN.{get_or}
use Rattle.basics.proofs.SliceParts.{below_or_not}
use Rattle.packedline.specs.Steps.Cells.{place_of}
use Rattle.rows.specs.Steps.Fold.{plus_by, minus_by}
use Rattle.narrow.specs.declared.Strip.{Strip}
use Rattle.narrow.specs.Steps.Strip.{place_at, row_place, OffWhere, Unmet}
use Rattle.narrow.specs.Steps.Row.{SameRows, first_row, end_row, NoRow, RowUnmet}
use Rattle.narrow.proofs.Strips.{both_off, off_both, none_there}

-- a row of a narrow picture lies near its beginning
pub row_near : (i n end : ℕ) → i < end → end ≤ 256 → n ≤ 16 → i * n ≤ 4096
row_near i n end h k l = mul-le-mul {n₁ = i} {m₁ = n} {n₂ = 256} {m₂ = 16} (omega arith) l

-- ---- source rows joined one after another
module _ (over : Bool) (s : List ℕ) (w n from : ℕ) where
  pub rows_none : OffWhere (record { a = 0; b = 0; c = 0 }) (NoRow over s w n from from)
  rows_none p = (λ z v h k. absurd (omega arith), λ f. none_there p)

  pub rows_more : (i : ℕ) (v x u : Strip) → from ≤ i → OffWhere v (NoRow over s w n from i)
      → ((p : ℕ) → place_at x p ≡ row_place over s (i * n) w p)
      → ((p : ℕ) → place_at u p ≡ max (place_at v p) (place_at x p))
      → OffWhere u (NoRow over s w n from (i + 1))
  rows_more i v x u hi so row joined p = (
    λ z j h k.
        let q = both_off (place_at v p) (place_at x p) (place_at u p) (joined p) z in
        ⊎_elim (λ e. ap (λ m. row_place over s (m * n) w p) e ∙ sym (row p) ∙ q.1)
        (λ l. (so p).0 q.0 j h l) (eq-or-lt_of_le (below_one j i k)),
    λ f. off_both (place_at v p) (place_at x p) (place_at u p) (joined p)
        ((so p).1 (λ j h k. f j h (omega arith))) (row p ∙ f i hi (omega arith)),
  )
    where
      below_one : (i n : ℕ) → i < n + 1 → i ≤ n
      below_one i n h = omega arith

-- ---- rows of an element that are the same
pub same_none : (words : List ℕ) (r h : ℕ) → r < h → SameRows words r h (r + 1)
same_none words r h l =
    record {
      some = omega arith;
      few = omega arith;
      same =
          λ i a b. ap (λ n. get_or words n 0) (only i r a b);
    }
  where
    only : (i r : ℕ) → r ≤ i → i < r + 1 → i ≡ r
    only i r a b = omega arith

pub same_more : (words : List ℕ) (r h e : ℕ) → e < h → get_or words e 0 ≡ get_or words r 0
    → SameRows words r h e
    → SameRows words r h (e + 1)
same_more words r h e l q so =
    record {
      some = omega (arith, so.some);
      few = omega arith;
      same = λ i a b. ⊎_elim (λ z. ap (λ n. get_or words n 0) z ∙ q) (λ z. so.same i a z)
          (eq-or-lt_of_le (below_one i e b));
    }
  where
    below_one : (i n : ℕ) → i < n + 1 → i ≤ n
    below_one i n h = omega arith

-- ---- which source rows they lead to
row_in : (grows : Bool) (h y o r e i v : ℕ) → r ≤ i → i < e → v < h → v + minus_by grows o i ≡ y + plus_by
    grows o i
    → (first_row grows y o r e ≤ v) × (v < end_row grows h y o r e)
row_in true h y o r e i v a b l q = (omega arith, omega arith)
row_in false h y o r e i v a b l q = (omega arith, omega arith)

row_from : (grows : Bool) (h y o r e v : ℕ) → first_row grows y o r e ≤ v → v < end_row grows h y o r e
    → (i : ℕ) × ((r ≤ i) × ((i < e) × ((v < h) × (v + minus_by grows o i ≡ y + plus_by grows o i))))
row_from true h y o r e v a b =
    (y + o - v, (omega arith, (omega arith, (omega arith, omega arith))))
row_from false h y o r e v a b =
    (v + o - y, (omega arith, (omega arith, (omega arith, omega arith))))

-- ---- rows r to e - 1 of an element, all with one row word, joined into v
module _ (grows over : Bool) (s : List ℕ) (w n h y column bin word r e : ℕ) (v : Strip) where
  abbrev Added : Strip → Type 0
  Added u =
      OffWhere u (λ p. (place_at v p ≡ 0) × ((i : ℕ) → r ≤ i → i < e
      → RowUnmet grows over s w n h y column bin word i p))

  -- the source rows from `a` on, before `z`
  module _ (a z : ℕ) (ea : a ≡ first_row grows y bin r e) (ez : z ≡ end_row grows h y bin r e) where
    within : (i j : ℕ) → r ≤ i → i < e → j < h → j + minus_by grows bin i ≡ y + plus_by grows bin i
        → (a ≤ j) × (j < z)
    within i j hi hk hj q =
        let k = row_in grows h y bin r e i j hi hk hj q in
        (subst (λ m. m ≤ j) (sym ea) k.0, subst (λ m. j < m) (sym ez) k.1)

    pub added_none : z ≤ a → Added v
    added_none l p = (
      λ q. (
        q,
        λ i hi hk j d hj e hd on.
            let k = within i j hi hk hj e in absurd (omega (arith, k.0, k.1)),
      ),
      λ f. f.0,
    )

    pub added_some : (x u : Strip) → OffWhere x (NoRow over s w n a z)
        → OffWhere u (λ p. (place_at v p ≡ 0) × Unmet x grows word column 64 p) → Added u
    added_some x u rows through p = (
      λ q.
          let t = (through p).0 q in (
            t.0,
            λ i hi hk j d hj e hd on.
                let k = within i j hi hk hj e in
                (rows (p + place_of grows column d)).0 (t.1 d hd on) j k.0 k.1,
          ),
      λ f. (through p).1 (
        f.0,
        λ d hd on. (rows (p + place_of grows column d)).1 (λ j hj hk.
            let k = row_from grows h y bin r e j (subst (λ m. m ≤ j) ea hj) (subst (λ m. j < m) ez hk) in
            f.1 k.0 k.1.0 k.1.1.0 j d k.1.1.1.0 k.1.1.1.1 hd on),
      ),
    )

-- ---- the first rows of an element
module _ (grows over : Bool) (s : List ℕ) (w n h y column bin : ℕ) (word : ℕ → ℕ) where
  abbrev pub Found : ℕ → Strip → Type 0
  Found r v =
      OffWhere v (λ p. (i : ℕ) → i < r → RowUnmet grows over s w n h y column bin (word i) i p)

  pub found_none : Found 0 (record { a = 0; b = 0; c = 0 })
  found_none p = (λ z i h. absurd (omega arith), λ f. none_there p)

  pub found_more : (r e W : ℕ) (v u : Strip) → r < e → ((i : ℕ) → r ≤ i → i < e → word i ≡ W) → Found r v
      → OffWhere u (λ p. (place_at v p ≡ 0) × ((i : ℕ) → r ≤ i → i < e
      → RowUnmet grows over s w n h y column bin W i p)) → Found e u
  found_more r e W v u l same so added p = (
    λ z.
        let q = (added p).0 z in
        λ i k. ⊎_elim (λ a. (so p).0 q.0 i a)
        (λ a. subst (λ m. RowUnmet grows over s w n h y column bin m i p) (sym (same i a k)) (q.1 i a k))
        (below_or_not i r),
    λ f. (added p).1 (
      (so p).1 (λ i k. f i (omega arith)),
      λ i a k.
          subst (λ m. RowUnmet grows over s w n h y column bin m i p) (same i a k) (f i k),
    ),
  )
