-- Each region comes once in the listing, so that it has as many lines as there are regions, and the counts
-- sum to the points.
use Prim.Native.Nat.{ℕ, zero, suc, ◌+◌, ◌-◌, ◌*◌, ◌≤◌, ◌<◌}
use mathlib.Core.Path.{◌≡◌, refl, sym, ap, ap₂, ◌∙◌, subst}
use mathlib.Core.Bool.{Bool, true, false, cond}
use mathlib.Core.List.{List, [], ◌∷◌}
use mathlib.Core.Logic.{◌⊎◌, ⊎_elim}
use native.Mathlib.Omega.{arith}
use native.Mathlib.Numerals.{add-one}
use native.Mathlib.Nat.{mul-one, mul-zero, mul-add}
use borrow.Author.Tests.{eqb-true, eq-eqb, ne_eqb}
use lib.Dec.{eqb}
use lib.ListN.{length}
use Rattle.regions.proofs.Cases.{same_or}
use Rattle.regions.specs.Listing.{left_of, parent_of, count_of, where_in, walk, itself, order, inner_of}
use Rattle.regions.specs.Listing.{regions_of}
use Rattle.regions.specs.Once.{times}
use Rattle.regions.proofs.Walks.{left_less, parent_less}
use Rattle.regions.proofs.Counts.{inner_none, inner_more}
use Rattle.regions.proofs.Sums.{sum_to, total, is, is_yes, is_no, sum_same, sum_add, sum_zero, sum_only}
use Rattle.regions.proofs.Sums.{sum_shift, times_append, times_joined, times_one, times_none}
use Rattle.regions.proofs.Sums.{total_times, length_total}

-- how often r is met on the way from c outwards, at most f steps
unfoldable met : (ℕ → ℕ) → ℕ → ℕ → ℕ → ℕ → ℕ
met R w zero c r = is c r
met R w (suc f) c r = is c r + cond (eqb c 0) 0 (met R w f (parent_of R w c) r)

-- a region that lies in r counts for k, any other node for nothing
abbrev counted : (ℕ → ℕ) → ℕ → ℕ → ℕ → ℕ → ℕ
counted R w r c k = cond (eqb (R c) c) (cond (eqb (parent_of R w c) r) k 0) 0

module _ (R : ℕ → ℕ) (w n : ℕ) (low : (a : ℕ) → a ≤ n → R a ≤ a) (twice : (a : ℕ) → a ≤ n
    → R (R a) ≡ R a) where
  abbrev P : ℕ → ℕ
  P c = parent_of R w c

  P-less : (c : ℕ) → 1 ≤ c → c ≤ n → P c < c
  P-less = parent_less R w n low

  P-first : (c : ℕ) → 1 ≤ c → c ≤ n → R (P c) ≡ P c
  unfolding parent_of
  P-first c h k = twice (left_of w c) (omega (arith, left_less w c h))

  met_zero : (f r : ℕ) → met R w f 0 r ≡ is 0 r
  unfolding met
  met_zero zero r = refl
  met_zero (suc f) r = omega arith

  met_suc : (f c r : ℕ) → 1 ≤ c → met R w (suc f) c r ≡ is c r + met R w f (P c) r
  unfolding met
  met_suc f c r h = ap (λ t. is c r + cond t 0 (met R w f (P c) r)) (ne_eqb c 0 (λ z. absurd (omega arith)))

  met_enough : (f g c r : ℕ) → c ≤ f → c ≤ g → c ≤ n → met R w f c r ≡ met R w g c r
  met_enough zero g c r h k l = let e : c ≡ 0 = omega arith in
      subst (λ c. met R w 0 c r ≡ met R w g c r) (sym e) (met_zero 0 r ∙ sym (met_zero g r))
  met_enough (suc f) zero c r h k l = let e : c ≡ 0 = omega arith in
      subst (λ c. met R w (suc f) c r ≡ met R w 0 c r) (sym e) (met_zero (suc f) r ∙ sym (met_zero 0 r))
  met_enough (suc f) (suc g) c r h k l =
      ⊎_elim (λ e. subst (λ c. met R w (suc f) c r ≡ met R w (suc g) c r) (sym e) (met_zero (suc f) r
      ∙ sym (met_zero (suc g) r)))
      (λ ne.
      let p = P-less c (omega arith) l in
      met_suc f c r (omega arith)
      ∙ ap (λ k. is c r + k) (met_enough f g (P c) r (omega arith) (omega arith) (omega arith))
      ∙ sym (met_suc g c r (omega arith)))
      (same_or c 0)

  -- enough steps for every node
  abbrev M : ℕ → ℕ → ℕ
  M c r = met R w n c r

  M-suc : (c r : ℕ) → 1 ≤ c → c ≤ n → M c r ≡ is c r + M (P c) r
  M-suc c r h k =
      let p = P-less c h k in
      met_enough n (suc n) c r k (omega arith) k ∙ met_suc n c r h

  counted_add : (r c j k : ℕ) → counted R w r c (j + k) ≡ counted R w r c j + counted R w r c k
  counted_add r c j k = by (eqb (R c) c) (eqb (P c) r)
    where
      by : (s t : Bool) → cond s (cond t (j + k) 0) 0 ≡ cond s (cond t j 0) 0 + cond s (cond t k 0) 0
      by true true = refl
      by true false = refl
      by false t = refl

  counted_zero : (r c : ℕ) → counted R w r c 0 ≡ 0
  counted_zero r c = by (eqb (R c) c) (eqb (P c) r)
    where
      by : (s t : Bool) → ◌≡◌ {A = ℕ} (cond s (cond t 0 0) 0) 0
      by true true = refl
      by true false = refl
      by false t = refl

  -- what is inside r is met through the regions that lie in it
  through_none : (r : ℕ) → is 0 r + sum_to (λ i. counted R w r (i + 1) (M 0 (i + 1))) n ≡ M 0 r
  through_none r =
      let z = sum_zero (λ i. counted R w r (i + 1) (M 0 (i + 1))) n
      (λ i h. ap (counted R w r (i + 1)) (met_zero n (i + 1) ∙ is_no 0 (i + 1) (λ q. absurd (omega arith)))
      ∙ counted_zero r (i + 1)) in
      omega (arith, z, met_zero n r)

  -- the region c itself, among those in r
  through_self : (c r : ℕ) → 1 ≤ c → c ≤ n → R c ≡ c → sum_to (λ i. counted R w r (i + 1) (is c (i + 1))) n
      ≡ is (P c) r
  through_self c r h k e =
      sum_only (λ i. counted R w r (i + 1) (is c (i + 1))) n (c - 1) (omega arith)
      (λ i t ne. ap (counted R w r (i + 1)) (is_no c (i + 1) (λ q. ne (omega arith)))
      ∙ counted_zero r (i + 1))
      ∙ ap (λ i. counted R w r i (is c i)) (back c h) ∙ ap (counted R w r c) (is_yes c c refl)
      ∙ ap (λ t. cond t (cond (eqb (P c) r) 1 0) 0) (eq-eqb (R c) c e)
    where
      back : (c : ℕ) → 1 ≤ c → c - 1 + 1 ≡ c
      back c h = omega arith

  through : (f c r : ℕ) → c ≤ f → c ≤ n → R c ≡ c → is c r + sum_to (λ i. counted R w r (i + 1) (M c (i + 1)))
      n ≡ M c r
  through zero c r h k e = let z : c ≡ 0 = omega arith in
      subst (λ c. is c r + sum_to (λ i. counted R w r (i + 1) (M c (i + 1))) n ≡ M c r) (sym z)
      (through_none r)
  through (suc f) c r h k e =
      ⊎_elim (λ z. subst (λ c. is c r + sum_to (λ i. counted R w r (i + 1) (M c (i + 1))) n ≡ M c r) (sym z)
      (through_none r))
      (λ nz.
      let pos : 1 ≤ c = omega arith in
      let p = P-less c pos k in
      let split = sum_same (λ i. counted R w r (i + 1) (M c (i + 1)))
      (λ i. counted R w r (i + 1) (is c (i + 1)) + counted R w r (i + 1) (M (P c) (i + 1))) n
      (λ i t. ap (counted R w r (i + 1)) (M-suc c (i + 1) pos k)
      ∙ counted_add r (i + 1) (is c (i + 1)) (M (P c) (i + 1))) in
      let add = sum_add (λ i. counted R w r (i + 1) (is c (i + 1)))
      (λ i. counted R w r (i + 1) (M (P c) (i + 1))) n in
      let self = through_self c r pos k e in
      let more = through f (P c) r (omega arith) (omega arith) (P-first c pos k) in
      omega (arith, split, add, self, more, M-suc c r pos k))
      (same_or c 0)

  times_where : (c r i : ℕ) (X : List ℕ) (k : ℕ) → (P i ≡ r → times c X ≡ k)
      → times c (where_in R w r i X) ≡ counted R w r i k
  times_where c r i X k e = by (eqb (R i) i) (eqb (P i) r) (λ t. e (eqb-true (P i) r t))
    where
      by : (s t : Bool) → (t ≡ true → times c X ≡ k) → times c (cond s (cond t X []) []) ≡ cond s (cond t k 0)
          0
      by true true f = f refl
      by true false f = times_none c
      by false t f = times_none c

  times_walk : (c : ℕ) → c ≤ n → R c ≡ c → (f r d : ℕ) → n + 1 ≤ f + r → r ≤ n
      → times c (walk itself R w n f r d) ≡ M c r
  unfolding walk
  times_walk c k e zero r d h l = absurd (omega arith)
  times_walk c k e (suc f) r d h l =
      times_append c (r ∷ []) _ ∙ ap₂ ◌+◌ (times_one c r)
      (times_joined c _ n
      ∙ sum_same _ (λ i. counted R w r (i + 1) (M c (i + 1))) n
      (λ i t.
      times_where c r (i + 1) _ (M c (i + 1))
      (λ p.
      let q : r < i + 1 = subst (λ p. p < i + 1) p (P-less (i + 1) (omega arith) (omega arith)) in
      times_walk c k e f (i + 1) (d + 1) (omega arith) (omega arith))))
      ∙ through n c r k k e

  -- from every region the way outwards meets the outer one once
  met_outer : (f c : ℕ) → c ≤ f → c ≤ n → M c 0 ≡ 1
  met_outer zero c h k = let z : c ≡ 0 = omega arith in subst (λ c. M c 0 ≡ 1) (sym z) (met_zero n 0)
  met_outer (suc f) c h k =
      ⊎_elim (λ z. subst (λ c. M c 0 ≡ 1) (sym z) (met_zero n 0))
      (λ nz. let p = P-less c (omega arith) k in
      omega (
        arith,
        M-suc c 0 (omega arith) k,
        is_no c 0 nz,
        met_outer f (P c) (omega arith)
            (omega arith),
      ))
      (same_or c 0)

  -- EACH REGION ONCE
  pub once : (c : ℕ) → c ≤ n → R c ≡ c → times c (order R w n) ≡ 1
  unfolding order
  once c k e = times_walk c k e (n + 1) 0 0 (omega arith) (omega arith) ∙ met_outer n c k k

  -- and nothing else
  absent : (c : ℕ) → ((i : ℕ) → i < n → R (i + 1) ≡ i + 1 → c ≡ i + 1 → ⊥) → (f r d : ℕ) → (c ≡ r → ⊥)
      → times c (walk itself R w n f r d) ≡ 0
  unfolding walk
  absent c not_one zero r d ne = times_none c
  absent c not_one (suc f) r d ne =
      let z = sum_zero (λ i. times c (where_in R w r (i + 1) (walk itself R w n f (i + 1) (d + 1)))) n
      (λ i t. by (eqb (R (i + 1)) (i + 1)) (eqb (P (i + 1)) r) _ (λ q. absent c not_one f (i + 1) (d + 1)
      (not_one i t (eqb-true (R (i + 1)) (i + 1) q)))) in
      times_append c (r ∷ []) _
      ∙ omega (
        arith,
        times_one c r,
        is_no c r ne,
        times_joined c
            (λ i. where_in R w r (i + 1) (walk itself R w n f (i + 1) (d + 1))) n,
        z,
      )
    where
      by : (s t : Bool) (X : List ℕ) → (s ≡ true → times c X ≡ 0) → times c (cond s (cond t X []) []) ≡ 0
      by true true X f = f refl
      by true false X f = times_none c
      by false t X f = times_none c

  pub never : (c : ℕ) → (c ≤ n → R c ≡ c → ⊥) → (c ≡ 0 → ⊥) → times c (order R w n) ≡ 0
  unfolding order
  never c not_one nz = absent c (λ i t e q. not_one (omega arith) (subst (λ c. R c ≡ c) (sym q) e)) (n + 1) 0
      0 nz

  beyond : (c : ℕ) → n + 1 ≤ c → times c (order R w n) ≡ 0
  beyond c h = never c (λ k _. absurd (omega arith)) (λ z. absurd (omega arith))

  -- how often: 1 for a first node, 0 for any other
  times_order : (c : ℕ) → c ≤ n → times c (order R w n) ≡ is (R c) c
  times_order c k =
      ⊎_elim (λ e. once c k e ∙ sym (is_yes (R c) c e))
      (λ ne. never c (λ _ e. ne e) (λ z. ne (subst (λ c. R c ≡ c) (sym z) (outer z)))
      ∙ sym (is_no (R c) c ne)) (same_or (R c) c)
    where
      outer : c ≡ 0 → R 0 ≡ 0
      outer z = omega (arith, low 0 (omega arith))

  inner_sum : (m : ℕ) → sum_to (λ i. is (R (i + 1)) (i + 1)) m ≡ length (inner_of R m)
  unfolding sum_to
  inner_sum zero = inner_none R
  inner_sum (suc m) = inner_more R (sum_to (λ i. is (R (i + 1)) (i + 1)) m) _ m (inner_sum m) refl
      ∙ ap (λ k. length (inner_of R k)) (add-one m)

  -- AS MANY LINES AS REGIONS
  pub order_length : length (order R w n) ≡ regions_of R n
  unfolding regions_of
  order_length =
      length_total (order R w n) ∙ total_times (λ _. 1) (n + 1) (order R w n) beyond
      ∙ sum_same _ (λ c. is (R c) c) (n + 1) (λ c h. mul-one (times c (order R w n))
      ∙ times_order c (omega arith)) ∙ sum_shift (λ c. is (R c) c) n
      ∙ omega (arith, is_yes (R 0) 0 (omega (arith, low 0 (omega arith))), inner_sum n)

  -- THE COUNTS SUM TO THE POINTS
  counts_to : (m : ℕ) → m ≤ n → sum_to (λ c. is (R c) c * count_of R c m) (n + 1) ≡ m
  unfolding count_of
  counts_to zero h = sum_zero _ (n + 1) (λ c _. mul-zero (is (R c) c))
  counts_to (suc m) h =
      sum_same _ (λ c. is (R c) c * count_of R c m + is (R c) c * is (R (m + 1)) c) (n + 1)
      (λ c _. mul-add (is (R c) c) (count_of R c m) (is (R (m + 1)) c))
      ∙ sum_add (λ c. is (R c) c * count_of R c m) (λ c. is (R c) c * is (R (m + 1)) c) (n + 1)
      ∙ omega (arith, counts_to m (omega arith), one)
    where
      one : sum_to (λ c. is (R c) c * is (R (m + 1)) c) (n + 1) ≡ 1
      one =
          sum_only (λ c. is (R c) c * is (R (m + 1)) c) (n + 1) (R (m + 1))
          (omega (arith, low (m + 1) (omega arith)))
          (λ c t ne. ap (λ k. is (R c) c * k) (is_no (R (m + 1)) c (λ q. ne (sym q))) ∙ mul-zero (is (R c) c))
          ∙ ap₂ ◌*◌ (is_yes (R (R (m + 1))) (R (m + 1)) (twice (m + 1) (omega arith)))
          (is_yes (R (m + 1)) (R (m + 1)) refl)

  pub counts_sum : total (λ r. count_of R r n) (order R w n) ≡ n
  counts_sum =
      total_times (λ r. count_of R r n) (n + 1) (order R w n) beyond
      ∙ sum_same _ (λ c. is (R c) c * count_of R c n) (n + 1) (λ c h. ap (λ k. k * count_of R c n)
      (times_order c (omega arith)))
      ∙ counts_to n (omega arith)
