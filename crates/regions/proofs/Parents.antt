-- Each region comes after its parent, and a region and its parent are of different kinds.
use Prim.Native.Nat.{ℕ, zero, suc, ◌+◌, ◌-◌, ◌≤◌, ◌<◌}
use mathlib.Core.Path.{◌≡◌, refl, sym, ap, ◌∙◌, subst}
use mathlib.Core.Bool.{Bool, true, false, cond}
use mathlib.Core.List.{List, [], ◌∷◌, ◌++◌, append_assoc}
use mathlib.Core.Logic.{◌⊎◌, inl, inr, ⊎_elim}
use native.Mathlib.Omega.{arith}
use borrow.Author.Tests.{eqb-true}
use lib.Dec.{eqb}
use Rattle.basics.specs.Lists.{joined}
use Rattle.regions.proofs.Cases.{less_or, same_or}
use Rattle.regions.specs.Listing.{parent_of, where_in, walk, itself, order}
use Rattle.regions.specs.Once.{times, After}
use Rattle.regions.proofs.Sums.{is_no, times_append, times_one, times_none}
use Rattle.regions.proofs.Once.{once}

-- it comes in the first of two lists, or in the second
in_either : (c : ℕ) (l m : List ℕ) → (times c (l ++ m) ≡ 0 → ⊥) → ((times c l ≡ 0 → ⊥) ⊎ (times c m ≡ 0 → ⊥))
in_either c l m h = ⊎_elim (λ e. inr (λ z. h (omega (arith, times_append c l m, e, z)))) (λ ne. inl ne)
    (same_or (times c l) 0)

-- it comes in one of the lists that are joined
pub record InPart (c : ℕ) (F : ℕ → List ℕ) (n : ℕ) : Type 0 where
  pub part : ℕ
  pub low : part < n
  pub there : times c (F part) ≡ 0 → ⊥

in_part : (c : ℕ) (F : ℕ → List ℕ) (n : ℕ) → (times c (joined F n) ≡ 0 → ⊥) → InPart c F n
unfolding joined
in_part c F zero h = absurd (h (times_none c))
in_part c F (suc n) h =
    ⊎_elim (λ l. let r = in_part c F n l in
    record { part = r.part; low = omega (arith, r.low); there = r.there })
    (λ l. record { part = n; low = omega arith; there = l })
    (in_either c (joined F n) (F n) h)

-- what comes after stays after in a longer list
after_more : (p c : ℕ) (l m : List ℕ) → After p c l → After p c (l ++ m)
after_more p c l m a =
    record {
      front = a.front;
      rest = a.rest ++ m;
      split = ap (λ l. l ++ m) a.split ∙ append_assoc a.front (p ∷ a.rest) m;
      later = λ z. a.later (omega (arith, z, times_append c a.rest m));
    }

after_front : (p c : ℕ) (k l : List ℕ) → After p c l → After p c (k ++ l)
after_front p c k l a =
    record {
      front = k ++ a.front;
      rest = a.rest;
      split = ap (λ l. k ++ l) a.split
          ∙ sym (append_assoc k a.front (p ∷ a.rest));
      later = a.later;
    }

after_part : (p c : ℕ) (F : ℕ → List ℕ) (n i : ℕ) → i < n → After p c (F i) → After p c (joined F n)
unfolding joined
after_part p c F zero i h a = absurd (omega arith)
after_part p c F (suc n) i h a =
    ⊎_elim (λ t. after_more p c (joined F n) (F n) (after_part p c F n i t a))
    (λ t. after_front p c (joined F n) (F n) (subst (λ i. After p c (F i)) (equal i n h t) a))
    (less_or i n)
  where
    equal : (i n : ℕ) → i < suc n → n ≤ i → i ≡ n
    equal i n h t = omega arith

module _ (R : ℕ → ℕ) (w n : ℕ) (c : ℕ) where
  abbrev F : ℕ → ℕ → ℕ → ℕ → List ℕ
  F f r d i = where_in R w r (i + 1) (walk itself R w n f (i + 1) (d + 1))

  -- a list that is there, and what its first node's parent is
  opened : (r i : ℕ) (X : List ℕ) → (times c (where_in R w r i X) ≡ 0 → ⊥)
      → (where_in R w r i X ≡ X) × (parent_of R w i ≡ r)
  opened r i X h = by (eqb (R i) i) (eqb (parent_of R w i) r) h (λ t. eqb-true (parent_of R w i) r t)
    where
      by : (s t : Bool) → (times c (cond s (cond t X []) []) ≡ 0 → ⊥) → (t ≡ true → parent_of R w i ≡ r)
          → (cond s (cond t X []) [] ≡ X) × (parent_of R w i ≡ r)
      by true true h k = (refl, k refl)
      by true false h k = absurd (h (times_none c))
      by false t h k = absurd (h (times_none c))

  after_walk : (f r d : ℕ) → (times c (walk itself R w n f r d) ≡ 0 → ⊥) → (c ≡ r → ⊥)
      → After (parent_of R w c) c (walk itself R w n f r d)
  unfolding walk
  after_walk zero r d h ne = absurd (h (times_none c))
  after_walk (suc f) r d h ne =
      let inside : times c (joined (F f r d) n) ≡ 0 → ⊥ = λ z. h (times_append c (r ∷ []) (joined (F f r d) n)
      ∙ omega (arith, times_one c r, is_no c r ne, z)) in
      let q = in_part c (F f r d) n inside in
      let o = opened r (q.part + 1) (walk itself R w n f (q.part + 1) (d + 1)) q.there in
      ⊎_elim
      (λ e. record {
        front = [];
        rest = joined (F f r d) n;
        split = ap (λ p. p ∷ joined (F f r d) n)
            (sym o.1 ∙ ap (parent_of R w) (sym e));
        later = inside;
      })
      (λ ne'.
      after_front (parent_of R w c) c (r ∷ []) (joined (F f r d) n)
      (after_part (parent_of R w c) c (F f r d) n q.part q.low
      (subst (After (parent_of R w c) c) (sym o.0)
      (after_walk f (q.part + 1) (d + 1) (subst (λ X. times c X ≡ 0 → ⊥) o.0 q.there) ne'))))
      (same_or c (q.part + 1))

  -- EACH REGION AFTER ITS PARENT
  pub after_parent : (low : (a : ℕ) → a ≤ n → R a ≤ a) → (twice : (a : ℕ) → a ≤ n → R (R a) ≡ R a) → 1 ≤ c
      → c ≤ n → R c ≡ c → After (parent_of R w c) c (order R w n)
  unfolding order
  after_parent low twice h k e =
      after_walk (n + 1) 0 0 (λ z. absurd (omega (arith, once R w n low twice c k e, z)))
      (λ z. absurd (omega (arith, h, z)))
