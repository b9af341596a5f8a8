-- The check asks an element only of the cells within its size:
-- cells that a description has beyond it change nothing.
use Prim.Native.Nat.{ℕ, zero, suc, ◌+◌, ◌-◌, ◌<◌, max}
use mathlib.Core.Path.{◌≡◌, refl, sym, ap, ap₂, ◌∙◌}
use mathlib.Core.Bool.{Bool, true, false, not, ◌&&◌}
use mathlib.Core.List.{List, [], ◌∷◌, map}
use borrow.Author.Tests.{lt-ltb, ltb-true}
use lib.Dec.{leb, ltb}
use Rattle.answer.specs.Answer.{centre}
use Rattle.element.specs.Shape.{Shape}
use Rattle.morphology.specs.Step.{Place}
use Rattle.morphology.specs.Check.{still, step_test, moved_by, can_move, walk_test, between_test}
use Rattle.morphology.specs.Check.{has_test, sum_test, path_test, fault_test, Verdict, Split, scan_row}
use Rattle.morphology.specs.Check.{scan, total, back_x, forth_x, back_y, forth_y, scan_reach, check_of}
use Rattle.basics.proofs.Any.{any_same}

-- an element whose cells beyond its size are unset
pub trim : Shape → Shape
trim B =
    record {
      wide = B.wide;
      high = B.high;
      origin_column = B.origin_column;
      origin_row = B.origin_row;
      has = λ c r. ltb c B.wide && (ltb r B.high && B.has c r);
      height = B.height;
    }

-- two elements of one size, origin and heights are the same when trimmed, where their cells within it are
pub trim_same : (B : Shape) (has : ℕ → ℕ → Bool)
    → ((c r : ℕ) → c < B.wide → r < B.high → B.has c r ≡ has c r)
    → trim B ≡ trim (record {
      wide = B.wide;
      high = B.high;
      origin_column = B.origin_column;
      origin_row = B.origin_row;
      has = has;
      height = B.height;
    })
unfolding trim
trim_same B has each =
    λ i. record {
      wide = B.wide;
      high = B.high;
      origin_column = B.origin_column;
      origin_row = B.origin_row;
      has =
          λ c r. both (ltb c B.wide) (ltb r B.high) (B.has c r) (has c r)
          (λ x y. each c r (ltb-true c B.wide x) (ltb-true r B.high y)) i;
      height = B.height;
    }
  where
    both : (x y h k : Bool) → (x ≡ true → y ≡ true → h ≡ k) → (x && (y && h)) ≡ (x && (y && k))
    both true true h k e = e refl refl
    both true false h k e = refl
    both false y h k e = refl

-- ---- tests that agree on every place give one verdict
row_same : (f g : Place → Bool) → ((p : Place) → f p ≡ g p) → (y n x : ℕ) (u v : Verdict) → u ≡ v
    → scan_row f y x n u ≡ scan_row g y x n v
unfolding scan_row
row_same f g same y zero x u v e = e
row_same f g same y (suc n) x u v e =
    ap₂ (λ b a. elim b [ true ↦ Split x y | false ↦ a ])
    (same (record { x = x; y = y })) (row_same f g same y n (suc x) u v e)

pub scan_same : (f g : Place → Bool) → ((p : Place) → f p ≡ g p) → (x k n y : ℕ)
    → scan f x k y n ≡ scan g x k y n
unfolding scan
scan_same f g same x k zero y = refl
scan_same f g same x k (suc n) y = row_same f g same y k x _ _ (scan_same f g same x k n (suc y))

-- ---- the tests of the check
step_trim : (B : Shape) (p q : Place) → step_test B p q ≡ step_test (trim B) p q
unfolding step_test trim
step_trim B p q =
    asked (B.has _ _) (leb p.x (q.x + B.origin_column))
    (ltb _ B.wide) (leb p.y (q.y + B.origin_row)) (ltb _ B.high)
  where
    asked : (h l x m y : Bool) → (h && ((l && x) && (m && y))) ≡ ((x && (y && h)) && ((l && x) && (m && y)))
    asked true l true m true = refl
    asked true true true true false = refl
    asked true true true false false = refl
    asked true true false m y = refl
    asked true false true m false = refl
    asked true false false m y = refl
    asked false l true m true = refl
    asked false l true m false = refl
    asked false l false m y = refl

walk_trim : (inside : Place → Bool) (Bs : List Shape) (p q : Place)
    → walk_test inside Bs p q ≡ walk_test inside (map trim Bs) p q
unfolding walk_test can_move moved_by trim
walk_trim inside [] p q = refl
walk_trim inside (B ∷ Bs) p q =
    any_same _ _ B.high (λ r hr. any_same _ _ B.wide (λ c hc.
    ap₂ (λ h w. (h && (leb B.origin_column (p.x + c) && leb B.origin_row (p.y + r)))
    && (inside (moved_by B p c r) && w))
    (sym (ap₂ (λ s t. s && (t && B.has c r)) (lt-ltb c B.wide hc) (lt-ltb r B.high hr)))
    (walk_trim inside Bs (moved_by B p c r) q)))

fault_trim : (E : Shape) (Bs : List Shape) (e : Place) → fault_test E Bs e
    ≡ fault_test (trim E) (map trim Bs) e
unfolding fault_test has_test sum_test path_test
fault_trim E Bs e =
    ap₂ (λ h p. elim h [ true ↦ not p | false ↦ walk_test (λ s. true) Bs still e ])
    (step_trim E still e) (walk_trim (between_test e) Bs still e)
    ∙ ap (λ s. elim (step_test (trim E) still
    e) [ true ↦ not (walk_test (between_test e) (map trim Bs) still e) | false ↦ s ])
    (walk_trim (λ s. true) Bs still e)

total_trim : (f : Shape → ℕ) → ((B : Shape) → f B ≡ f (trim B)) → (Bs : List Shape)
    → total f Bs ≡ total f (map trim Bs)
unfolding total
total_trim f same [] = refl
total_trim f same (B ∷ Bs) = ap₂ (λ a b. a + b) (same B) (total_trim f same Bs)

pub check_trim : (E : Shape) (Bs : List Shape) → check_of E Bs ≡ check_of (trim E) (map trim Bs)
unfolding check_of scan_reach trim
check_trim E Bs =
    scan_same (fault_test E Bs) (fault_test (trim E) (map trim Bs)) (fault_trim E Bs) _ _ _ _
    ∙ ap₂ (λ l r. boxed l r (back_y Bs) (forth_y Bs)) (total_trim (λ B. B.origin_column) (λ B. refl) Bs)
    (total_trim (λ B. B.wide - 1 - B.origin_column) (λ B. refl) Bs)
    ∙ ap₂ (λ u d. boxed (back_x (map trim Bs)) (forth_x (map trim Bs)) u d)
    (total_trim (λ B. B.origin_row) (λ B. refl) Bs)
    (total_trim (λ B. B.high - 1 - B.origin_row) (λ B. refl) Bs)
  where
    boxed : ℕ → ℕ → ℕ → ℕ → Verdict
    boxed l r u d =
        scan (fault_test (trim E) (map trim Bs)) (centre - max E.origin_column l)
        (max E.origin_column l + max (E.wide - 1 - E.origin_column) r + 1)
        (centre - max E.origin_row u) (max E.origin_row u + max (E.high - 1 - E.origin_row) d + 1)
