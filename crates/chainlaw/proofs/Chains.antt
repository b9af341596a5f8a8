-- Links one after another in bytes, read back: none is refused, and they are the links.
use Prim.Native.Nat.{ℕ, zero, suc, ◌+◌}
use mathlib.Core.Path.{◌≡◌, refl, sym, ap, ap₂, ◌∙◌, subst}
use mathlib.Core.Bool.{true, not}
use mathlib.Core.List.{List, [], ◌∷◌, ◌++◌, append_assoc, append-nil}
use native.Mathlib.Omega.{arith}
use lib.ListN.{length, take, drop}
use lib.Seq.{take_at, drop_at}
use Rattle.answer.specs.declared.Told.{Told}
use Rattle.answer.specs.Refuse.{refuse}
use Rattle.basics.specs.Lists.{joined}
use Rattle.element.specs.Shape.{Shape}
use Rattle.element.specs.Descriptor.{wide_of, high_of, well_made, shape_in}
use Rattle.element.proofs.Cells.{ends_there}
use Rattle.chain.specs.Reading.{first_of, rest_of, small, link_tests, links_in}
use Rattle.hulls.specs.declared.Side.{Side}
use Rattle.chainlaw.proofs.Walks.{PartOf, PartsFrom, end_of}

-- the elements of descriptors
abbrev pub shapes_from : (ℕ → List ℕ) → ℕ → List Shape
shapes_from R zero = []
shapes_from R (suc k) = shape_in (R 0) ∷ shapes_from (λ i. R (suc i)) k

joined_front : (R : ℕ → List ℕ) (k : ℕ) → joined R (suc k) ≡ R 0 ++ joined (λ i. R (suc i)) k
unfolding joined
joined_front R zero = sym (append-nil (R 0))
joined_front R (suc k) =
    ap (λ l. l ++ R (suc k)) (joined_front R k) ∙ append_assoc (R 0) (joined (λ i. R (suc i)) k) (R (suc k))

module _ (d rest : List ℕ) (made : well_made d ≡ true) where
  pub first_is : first_of (d ++ rest) ≡ d
  unfolding first_of
  first_is = ap (λ n. take n (d ++ rest)) (ends_there d rest made) ∙ take_at d rest (length d) refl

  pub rest_is : rest_of (d ++ rest) ≡ rest
  unfolding rest_of
  rest_is = ap (λ n. drop n (d ++ rest)) (ends_there d rest made) ∙ drop_at d rest (length d) refl

pub none_refused : (k : ℕ) (R : ℕ → List ℕ) → ((i : ℕ) → well_made (R i) ≡ true)
    → ((i : ℕ) → small (wide_of (R i)) (high_of (R i)) ≡ true) → (after : Told)
    → refuse (link_tests k (joined R k)) after ≡ after
unfolding link_tests joined
none_refused zero R made few after = refl
none_refused (suc k) R made few after =
    ap (λ l. refuse (link_tests (suc k) l) after) (joined_front R k)
    ∙ ap₂ (λ (f r : List ℕ). refuse ((not (well_made f), 4) ∷ (
      not (small (wide_of f)
          (high_of f)),
      6,
    ) ∷ link_tests k r) after)
    (first_is (R 0) (joined (λ i. R (suc i)) k) (made 0)) (rest_is (R 0) (joined (λ i. R (suc i)) k)
    (made 0))
    ∙ ap₂ (λ a b. refuse ((not a, 4) ∷ (not b, 6) ∷ link_tests k (joined (λ i. R (suc i)) k)) after)
    (made 0) (few 0)
    ∙ none_refused k (λ i. R (suc i)) (λ i. made (suc i)) (λ i. few (suc i)) after

pub links_are : (k : ℕ) (R : ℕ → List ℕ) → ((i : ℕ) → well_made (R i) ≡ true)
    → links_in k (joined R k) ≡ shapes_from R k
unfolding links_in joined
links_are zero R made = refl
links_are (suc k) R made =
    ap (links_in (suc k)) (joined_front R k)
    ∙ ap₂ (λ (f r : List ℕ). shape_in f ∷ links_in k r)
    (first_is (R 0) (joined (λ i. R (suc i)) k) (made 0)) (rest_is (R 0) (joined (λ i. R (suc i)) k)
    (made 0))
    ∙ ap (λ (l : List Shape). shape_in (R 0) ∷ l) (links_are k (λ i. R (suc i)) (λ i. made (suc i)))

-- ---- the parts of a box, link after link
module _ (X Y : Side) where
  pub parts_are : (k i : ℕ) (R : ℕ → List ℕ) → ((n : ℕ) → PartOf X Y (i + n) (shape_in (R n)))
      → PartsFrom X Y i (shapes_from R k)
  parts_are zero i R each = tt
  parts_are (suc k) i R each = (
    subst (λ n. PartOf X Y n (shape_in (R 0))) (none i) (each 0),
    parts_are k (suc i) (λ n. R (suc n)) (λ n. subst (λ m. PartOf X Y m (shape_in (R (suc n))))
        (more i n) (each (suc n))),
  )
    where
      none : (i : ℕ) → i + 0 ≡ i
      none i = omega arith

      more : (i n : ℕ) → i + suc n ≡ suc i + n
      more i n = omega arith

  pub end_is : (k i : ℕ) (R : ℕ → List ℕ) → end_of X Y i (shapes_from R k) ≡ i + k
  end_is zero i R = omega arith
  end_is (suc k) i R = end_is k (suc i) (λ n. R (suc n)) ∙ more i k
    where
      more : (i k : ℕ) → suc i + k ≡ i + suc k
      more i k = omega arith
