-- The check finds the first offset at fault.
use Prim.Native.Nat.{ℕ, zero, suc, ◌+◌, ◌-◌, ◌≤◌, ◌<◌, max}
use mathlib.Core.Path.{◌≡◌, sym, subst}
use mathlib.Core.Bool.{Bool, true, false}
use mathlib.Core.Logic.{◌⊎◌, inl, inr, ⊎_elim}
use mathlib.Core.List.{List, [], ◌∷◌}
use native.Mathlib.Nat.{eq-or-lt_of_le}
use native.Mathlib.Omega.{arith}
use lib.Dec.{T, leb, leb→le, nleb→lt, not_T}
use Rattle.answer.specs.Answer.{centre}
use Rattle.element.specs.Shape.{Shape}
use Rattle.morphology.specs.Step.{Place}
use Rattle.morphology.specs.Chain.{AllFit, Chained}
use Rattle.morphology.specs.Check.{still, Verdict, Taken, Split, fault_test, scan_row, scan}
use Rattle.morphology.specs.Check.{total, back_x, forth_x, back_y, forth_y, scan_reach, check_of}
use Rattle.basics.proofs.Truth.{decided}
use Rattle.morphology.proofs.Places.{same_place, Walk, FaultAt, missed_at, extra_at, BeforeAt, SaysAt}
use Rattle.morphology.proofs.Tests.{fault_sound, fault_complete}

-- ---- the scan

-- the answer of a scan over a region
abbrev Found : (Place → Bool) → (Place → Type 0) → Verdict → Type 0
Found test R Taken = (d : Place) → R d → ¬ T (test d)
Found test R (Split x y) =
    T (test (record { x = x; y = y }))
    × ((d : Place) → R d → BeforeAt d (record { x = x; y = y }) → ¬ T (test d))

-- places that do not pass may be added to the region
found_more : (test : Place → Bool) (R R' : Place → Type 0)
    → ((d : Place) → R' d → R d ⊎ (T (test d) → ⊥)) → (a : Verdict) → Found test R a → Found test R' a
found_more test R R' f Taken h = λ d r t. ⊎_elim (λ i. h d i t) (λ n. n t) (f d r)
found_more test R R' f (Split x y) h = (h.0, λ d r b t. ⊎_elim (λ i. h.1 d i b t) (λ n. n t) (f d r))

-- a row's part, or a place of the region after it
abbrev RowPart : (Place → Type 0) → ℕ → ℕ → ℕ → Place → Type 0
RowPart R y x n d = R d ⊎ ((d.y ≡ y) × (x ≤ d.x) × (d.x < x + n))

row_found : (test : Place → Bool) (R : Place → Type 0) (y : ℕ)
    → ((d : Place) → R d → y < d.y) → (after : Verdict) → Found test R after
    → (n x : ℕ) → Found test (RowPart R y x n) (scan_row test y x n after)
unfolding scan_row
row_found test R y low after h zero x =
    found_more test R (RowPart R y x 0) (λ d r. ⊎_elim inl (λ i. inr (λ t. omega arith)) r) after h
row_found test R y low after h (suc n) x =
    by (test (record { x = x; y = y })) (λ t. t) (λ t. t) (row_found test R y low after h n (suc x))
  where
    by : (b : Bool) → (T b → T (test (record { x = x; y = y }))) → (T (test (record { x = x; y = y })) → T b)
        → Found test (RowPart R y (suc x) n) (scan_row test y (suc x) n after)
        → Found test (RowPart R y x (suc n))
        (elim b [ true ↦ Split x y | false ↦ scan_row test y (suc x) n after ])
    by true to from rest = (
      to tt,
      λ d r b t. ⊎_elim (λ i. let l = low d i in ⊎_elim (λ k. omega arith) (λ k. omega arith) b)
          (λ i. ⊎_elim (λ k. omega arith) (λ k. omega arith) b) r,
    )
    by false to from rest =
        found_more test (RowPart R y (suc x) n) (RowPart R y x (suc n))
        (λ d r. ⊎_elim (λ i. inl (inl i)) (λ i. ⊎_elim
        (λ e. inr (λ t. from (subst (λ (z : Place). T (test z)) (same_place (sym e) i.0) t)))
        (λ l. inl (inr (i.0, l, omega arith)))
        (eq-or-lt_of_le i.1)) r)
        (scan_row test y (suc x) n after) rest

-- n rows from y on, of k columns from x on
pub record Box (x k y n : ℕ) (d : Place) : Type 0 where
  pub left : x ≤ d.x
  pub right : d.x < x + k
  pub upper : y ≤ d.y
  pub lower : d.y < y + n

scan_found : (test : Place → Bool) (x k n y : ℕ) → Found test (Box x k y n) (scan test x k y n)
unfolding scan
scan_found test x k zero y = λ d b t. omega arith
scan_found test x k (suc n) y =
    found_more test (RowPart (Box x k (suc y) n) y x k) (Box x k y (suc n))
    (λ d b. inl (⊎_elim (λ e. inr (sym e, b.left, b.right))
    (λ l. inl (record { left = b.left; right = b.right; upper = l; lower = omega arith }))
    (eq-or-lt_of_le b.upper)))
    (scan_row test y x k (scan test x k (suc y) n))
    (row_found test (Box x k (suc y) n) y (λ d b. omega arith)
    (scan test x k (suc y) n) (scan_found test x k n (suc y)) k x)

-- ---- the range of the scan

-- how far a walk leads at the most
pub walk_range : (P : Place → Type 0) (m : ℕ) (Bs : List Shape) (p q : Place) → AllFit m Bs → Walk P Bs p q
    → (p.x ≤ q.x + back_x Bs) × (q.x ≤ p.x + forth_x Bs)
    × (p.y ≤ q.y + back_y Bs) × (q.y ≤ p.y + forth_y Bs)
unfolding total
walk_range P m [] p q f w = omega arith
walk_range P m (B ∷ Bs) p q f w =
    let s = w.1 in
    let g = f.0 in
    let r = walk_range P m Bs w.0 q f.1 w.3 in
    (omega arith, omega arith, omega arith, omega arith)

-- the box of the check holds every offset at fault
fault_in : (E : Shape) (Bs : List Shape) (C : Chained E Bs) (d : Place) → FaultAt E Bs d
    → Box (centre - max E.origin_column (back_x Bs))
    (max E.origin_column (back_x Bs) + max (E.wide - 1 - E.origin_column) (forth_x Bs) + 1)
    (centre - max E.origin_row (back_y Bs))
    (max E.origin_row (back_y Bs) + max (E.high - 1 - E.origin_row) (forth_y Bs) + 1) d
fault_in E Bs C d (missed_at s np) =
    let f = C.element in
    record { left = omega arith; right = omega arith; upper = omega arith; lower = omega arith }
fault_in E Bs C d (extra_at nh w) =
    let r = walk_range (λ s. Unit {0}) 8 Bs still d C.links w in
    record { left = omega arith; right = omega arith; upper = omega arith; lower = omega arith }

-- ---- what the check says

found_says : (E : Shape) (Bs : List Shape) (R : Place → Type 0) → ((d : Place) → FaultAt E Bs d → R d)
    → (a : Verdict) → Found (fault_test E Bs) R a → SaysAt E Bs a
found_says E Bs R f Taken h = λ d x. h d (f d x) (fault_complete E Bs d x)
found_says E Bs R f (Split x y) h =
    record {
      holds = fault_sound E Bs _ h.0;
      none_before = λ d b z. h.1 d (f d z) b (fault_complete E Bs d z);
    }

-- a scan of any box that holds every fault
pub scan_says : (E : Shape) (Bs : List Shape) (x k y n : ℕ) → ((d : Place) → FaultAt E Bs d → Box x k y n d)
    → SaysAt E Bs (scan (fault_test E Bs) x k y n)
scan_says E Bs x k y n f =
    found_says E Bs (Box x k y n) f (scan (fault_test E Bs) x k y n) (scan_found (fault_test E Bs) x k n y)

pub check_says_at : (E : Shape) (Bs : List Shape) → Chained E Bs → SaysAt E Bs (check_of E Bs)
unfolding check_of scan_reach
check_says_at E Bs C = scan_says E Bs _ _ _ _ (fault_in E Bs C)

-- ---- two numbers in order

pub compared : (m n : ℕ) → (m < n) ⊎ ((m ≡ n) ⊎ (n < m))
compared m n =
    ⊎_elim (λ t. ⊎_elim (λ e. inr (inl e)) (λ l. inl l) (eq-or-lt_of_le (leb→le m n t)))
    (λ t. inr (inr (nleb→lt m n (not_T (leb m n) t)))) (decided (leb m n))
