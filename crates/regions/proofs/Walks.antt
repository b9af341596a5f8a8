-- Walks: enough levels are enough, the same by the list of regions, and how long they are.
use Prim.Native.Nat.{ℕ, zero, suc, ◌+◌, ◌-◌, ◌*◌, ◌%◌, ◌≤◌, ◌<◌}
use mathlib.Core.Path.{◌≡◌, refl, sym, ap, ap₂, ◌∙◌, subst}
use mathlib.Core.Bool.{Bool, true, false, cond}
use mathlib.Core.List.{List, [], ◌∷◌, ◌++◌, append-nil}
use mathlib.Core.Logic.{◌⊎◌, ⊎_elim}
use native.Mathlib.Omega.{arith}
use native.Mathlib.Numerals.{add-one}
use borrow.Author.Tests.{eqb-true}
use lib.Dec.{eqb}
use lib.ListN.{length, get_or, length-append, get_or-append}
use lib.Seq.{get_or-append_seam}
use Rattle.basics.specs.Lists.{joined}
use Rattle.basics.proofs.Tests.{cond_same}
use Rattle.regions.proofs.Cases.{less_or, same_or}
use Rattle.regions.specs.Listing.{left_of, parent_of, where_in, walk, itself, line, inner_of}

pub joined_same : (F G : ℕ → List ℕ) (n : ℕ) → ((i : ℕ) → i < n → F i ≡ G i) → joined F n ≡ joined G n
unfolding joined
joined_same F G zero e = refl
joined_same F G (suc n) e = ap₂ ◌++◌ (joined_same F G n (λ i h. e i (omega arith))) (e n (omega arith))

pub joined_more : (F : ℕ → List ℕ) (n : ℕ) → joined F (n + 1) ≡ joined F n ++ F n
unfolding joined
joined_more F n = rw (add-one n) refl

pub length_joined_le : (F : ℕ → List ℕ) (k n : ℕ) → k ≤ n → length (joined F k) ≤ length (joined F n)
unfolding joined
length_joined_le F k zero h = let e : k ≡ 0 = omega arith in
    subst (λ k. length (joined F k) ≤ 0) (sym e) (omega arith)
length_joined_le F k (suc n) h =
    ⊎_elim (λ e. subst (λ k. length (joined F k) ≤ length (joined F n ++ F n)) (sym e) (omega arith))
    (λ ne. omega (arith, length_joined_le F k n (omega arith), length-append (joined F n) (F n)))
    (same_or k (suc n))

-- the node to the left is earlier
pub left_less : (w c : ℕ) → 1 ≤ c → left_of w c < c
left_less w c h = by (eqb ((c - 1) % w) 0)
  where
    by : (t : Bool) → cond t 0 (c - 1) < c
    by true = omega arith
    by false = omega arith

module _ (R : ℕ → ℕ) (w n : ℕ) (low : (a : ℕ) → a ≤ n → R a ≤ a) where
  -- a region lies in an earlier one
  pub parent_less : (c : ℕ) → 1 ≤ c → c ≤ n → parent_of R w c < c
  unfolding parent_of
  parent_less c h k = let l = left_less w c h in omega (arith, l, low (left_of w c) (omega arith))

  module _ (note : ℕ → ℕ → List ℕ) where
    where_same : (r c : ℕ) (X Y : List ℕ) → (parent_of R w c ≡ r → X ≡ Y)
        → where_in R w r c X ≡ where_in R w r c Y
    where_same r c X Y e =
        cond_same (eqb (R c) c) _ _ _ _ (λ _. cond_same (eqb (parent_of R w c) r) _ _ _ _
        (λ t. e (eqb-true (parent_of R w c) r t)) (λ _. refl)) (λ _. refl)

    pub walk_enough : (f g r d : ℕ) → n + 1 ≤ f + r → n + 1 ≤ g + r → r ≤ n
        → walk note R w n f r d ≡ walk note R w n g r d
    unfolding walk
    walk_enough zero g r d h k l = absurd (omega arith)
    walk_enough (suc f) zero r d h k l = absurd (omega arith)
    walk_enough (suc f) (suc g) r d h k l =
        ap (λ X. note r d ++ X)
        (joined_same _ _ n
        (λ i t.
        where_same r (i + 1) _ _
        (λ p.
        let q : r < i + 1 = subst (λ p. p < i + 1) p (parent_less (i + 1) (omega arith) (omega arith)) in
        walk_enough f g (i + 1) (d + 1) (omega arith) (omega arith) (omega arith))))

-- ---- by the list of regions
inner_step : (F : ℕ → List ℕ) (I : List ℕ) (x : ℕ) (t : Bool)
    → joined (λ k. F (get_or I k 0)) (length I) ++ cond t (F x) [] ≡ joined
    (λ k. F (get_or (I ++ cond t (x ∷ []) []) k 0)) (length (I ++ cond t (x ∷ []) []))
inner_step F I x true =
    ap₂ ◌++◌ (joined_same _ _ (length I) (λ k h. ap F (sym (get_or-append I (x ∷ []) 0 k h))))
    (ap F (sym (get_or-append_seam I x [] 0)))
    ∙ sym (joined_more (λ k. F (get_or (I ++ (x ∷ [])) k 0)) (length I))
    ∙ ap (joined (λ k. F (get_or (I ++ (x ∷ [])) k 0))) (sym (length-append I (x ∷ [])))
inner_step F I x false = append-nil _
    ∙ ap (λ J. joined (λ k. F (get_or J k 0)) (length J)) (sym (append-nil I))

pub inner_joined : (R : ℕ → ℕ) (F : ℕ → List ℕ) (n : ℕ)
    → joined (λ i. cond (eqb (R (i + 1)) (i + 1)) (F (i + 1)) []) n
    ≡ joined (λ k. F (get_or (inner_of R n) k 0))
    (length (inner_of R n))
unfolding joined inner_of
inner_joined R F zero = refl
inner_joined R F (suc n) =
    ap (λ X. X ++ cond (eqb (R (n + 1)) (n + 1)) (F (n + 1)) []) (inner_joined R F n)
    ∙ inner_step F (inner_of R n) (n + 1) (eqb (R (n + 1)) (n + 1))

-- each of them lies among the n
pub inner_low : (R : ℕ → ℕ) (n k : ℕ) → k < length (inner_of R n)
    → (1 ≤ get_or (inner_of R n) k 0) × (get_or (inner_of R n) k 0 ≤ n)
unfolding inner_of
inner_low R zero k h = absurd (omega arith)
inner_low R (suc n) k h = by (eqb (R (n + 1)) (n + 1)) h (λ l. inner_low R n k l)
  where
    by : (t : Bool) → k < length (inner_of R n ++ cond t ((n + 1) ∷ []) [])
        → (k < length (inner_of R n) → (1 ≤ get_or (inner_of R n) k 0) × (get_or (inner_of R n) k 0 ≤ n))
        → (1 ≤ get_or (inner_of R n ++ cond t ((n + 1) ∷ []) []) k 0)
        × (get_or (inner_of R n ++ cond t ((n + 1) ∷ []) []) k 0 ≤ suc n)
    by true h rec =
        ⊎_elim
        (λ l.
        let e = get_or-append (inner_of R n) ((n + 1) ∷ []) 0 k l in
        let r = rec l in (omega (arith, e, r.0), omega (arith, e, r.1)))
        (λ l.
        let q : k ≡ length (inner_of R n) =
        omega (arith, l, h, length-append (inner_of R n) ((n + 1) ∷ [])) in
        let e = ap (λ k. get_or (inner_of R n ++ ((n + 1) ∷ [])) k 0) q
        ∙ get_or-append_seam (inner_of R n) (n + 1) [] 0 in
        (omega (arith, e), omega (arith, e)))
        (less_or k (length (inner_of R n)))
    by false h rec =
        let e = ap (λ J. get_or J k 0) (append-nil (inner_of R n)) in
        let r = rec (subst (λ J. k < length J) (append-nil (inner_of R n)) h) in
        (omega (arith, e, r.0), omega (arith, e, r.1))

-- what the k-th region of I adds to region r at depth d
abbrev pub child : (ℕ → ℕ → List ℕ) → (ℕ → ℕ) → ℕ → ℕ → List ℕ → ℕ → ℕ → ℕ → List ℕ
child note R w n I r d k =
    cond (eqb (parent_of R w (get_or I k 0)) r) (walk note R w n (n + 1) (get_or I k 0) (d + 1)) []

-- a region, then what each region adds
module _ (note : ℕ → ℕ → List ℕ) (R : ℕ → ℕ) (w n : ℕ) (low : (a : ℕ) → a ≤ n → R a ≤ a) (I : List ℕ)
    (inner : I ≡ inner_of R n) where
  abbrev whole : ℕ → ℕ → ℕ → List ℕ
  whole r d c = cond (eqb (parent_of R w c) r) (walk note R w n (n + 1) c (d + 1)) []

  opened : (r d : ℕ) → walk note R w n (suc n) r d ≡ note r d ++ joined (child note R w n I r d) (length I)
  unfolding walk
  opened r d =
      ap (λ X. note r d ++ X)
      (joined_same _ (λ i. cond (eqb (R (i + 1)) (i + 1)) (whole r d (i + 1)) []) n
      (λ i t. where_same R w n low note r (i + 1) _ _ (λ p. walk_enough R w n low note n (n + 1) (i + 1)
      (d + 1) (omega arith) (omega arith) (omega arith)))
      ∙ inner_joined R (whole r d) n
      ∙ ap (λ I. joined (λ k. whole r d (get_or I k 0)) (length I)) (sym inner))

  pub walk_children : (r d : ℕ) → r ≤ n → walk note R w n (n + 1) r d ≡ note r d ++ joined
      (child note R w n I r d) (length I)
  walk_children r d h = ap (λ f. walk note R w n f r d) (add-one n) ∙ opened r d

-- ---- lengths: two numbers for each region
pub length_joined_twice : (F G : ℕ → List ℕ) (n : ℕ) → ((i : ℕ) → i < n → length (F i) ≡ 2 * length (G i))
    → length (joined F n) ≡ 2 * length (joined G n)
unfolding joined
length_joined_twice F G zero e = refl
length_joined_twice F G (suc n) e =
    omega (
      arith,
      length-append (joined F n) (F n),
      length-append (joined G n) (G n),
      length_joined_twice F G
          n (λ i h. e i (omega arith)),
      e n (omega arith),
    )

pub length_lines : (R : ℕ → ℕ) (w n f r d : ℕ) → length (walk (line R n) R w n f r d) ≡ 2 * length
    (walk itself R w n f r d)
unfolding walk
length_lines R w n zero r d = refl
length_lines R w n (suc f) r d =
    let e = length_joined_twice (λ i. where_in R w r (i + 1) (walk (line R n) R w n f (i + 1) (d + 1)))
    (λ i. where_in R w r (i + 1) (walk itself R w n f (i + 1) (d + 1))) n
    (λ i h. by (eqb (R (i + 1)) (i + 1)) (eqb (parent_of R w (i + 1)) r) _ _ (length_lines R w n f (i + 1)
    (d + 1))) in
    omega (arith, e)
  where
    by : (s t : Bool) (X Y : List ℕ) → length X ≡ 2 * length Y
        → length (cond s (cond t X []) []) ≡ 2 * length (cond s (cond t Y []) [])
    by true true X Y e = e
    by true false X Y e = refl
    by false t X Y e = refl
