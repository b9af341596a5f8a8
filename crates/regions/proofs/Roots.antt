-- Roots: what a node's root is, and what a store does to all roots.
use Prim.Native.Nat.{ℕ, zero, suc, ◌-◌, ◌≤◌, ◌<◌}
use mathlib.Core.Path.{◌≡◌, refl, sym, ap, ◌∙◌, subst}
use mathlib.Core.Bool.{cond}
use mathlib.Core.List.{List}
use mathlib.Core.Logic.{◌⊎◌, ⊎_elim}
use native.Mathlib.Omega.{arith}
use borrow.Author.Tests.{lt-ltb, le-ltb, eq-eqb, ne_eqb}
use lib.Dec.{eqb}
use lib.ListN.{length, get_or, set, length-set}
use lib.Seq.{get_or-set_same, get_or-set_other}
use Rattle.regions.specs.Steps.Union.{down_from, root_of, flat_to}
use Rattle.regions.proofs.Cases.{less_or, same_or}

module _ (l : List ℕ) where
  down_turn : (n i : ℕ) → get_or l i 0 < i → down_from l (suc n) i ≡ down_from l n (get_or l i 0)
  unfolding down_from
  down_turn n i h = simp (lt-ltb (get_or l i 0) i h)

  down_stop : (n i : ℕ) → i ≤ get_or l i 0 → down_from l n i ≡ i
  unfolding down_from
  down_stop zero i h = refl
  down_stop (suc n) i h = simp (le-ltb (get_or l i 0) i h)

  -- enough is enough
  down_enough : (n m i : ℕ) → i ≤ n → i ≤ m → down_from l n i ≡ down_from l m i
  down_enough zero m i h k = let e : i ≡ 0 = omega arith in
      down_stop 0 i (omega arith) ∙ sym (down_stop m i (omega arith))
  down_enough (suc n) zero i h k = down_stop (suc n) i (omega arith) ∙ sym (down_stop 0 i (omega arith))
  down_enough (suc n) (suc m) i h k =
      ⊎_elim (λ t. down_turn n i t ∙ down_enough n m (get_or l i 0) (omega arith) (omega arith)
      ∙ sym (down_turn m i t))
      (λ t. down_stop (suc n) i t ∙ sym (down_stop (suc m) i t)) (less_or (get_or l i 0) i)

  pub root_turn : (i : ℕ) → get_or l i 0 < i → root_of l i ≡ root_of l (get_or l i 0)
  unfolding root_of
  root_turn zero h = absurd (omega arith)
  root_turn (suc i) h = down_turn i (suc i) h ∙ down_enough i (get_or l (suc i) 0) (get_or l (suc i) 0)
      (omega arith) (omega arith)

  pub root_stop : (i : ℕ) → i ≤ get_or l i 0 → root_of l i ≡ i
  unfolding root_of
  root_stop i h = down_stop i i h

  -- a root is no later, and a root itself
  down_le : (n i : ℕ) → down_from l n i ≤ i
  unfolding down_from
  down_le zero i = omega arith
  down_le (suc n) i =
      ⊎_elim (λ t. subst (λ r. r ≤ i) (sym (down_turn n i t)) (omega (arith, down_le n (get_or l i 0))))
      (λ t. subst (λ r. r ≤ i) (sym (down_stop (suc n) i t)) (omega arith))
      (less_or (get_or l i 0) i)

  pub root_le : (i : ℕ) → root_of l i ≤ i
  unfolding root_of
  root_le i = down_le i i

  down_root : (n i : ℕ) → i ≤ n → down_from l n i ≤ get_or l (down_from l n i) 0
  unfolding down_from
  down_root zero i h = omega arith
  down_root (suc n) i h =
      ⊎_elim (λ t. subst (λ r. r ≤ get_or l r 0) (sym (down_turn n i t))
      (down_root n (get_or l i 0) (omega arith)))
      (λ t. subst (λ r. r ≤ get_or l r 0) (sym (down_stop (suc n) i t)) t) (less_or (get_or l i 0) i)

  pub root_root : (i : ℕ) → root_of l i ≤ get_or l (root_of l i) 0
  unfolding root_of
  root_root i = down_root i i (omega arith)

  pub root_twice : (i : ℕ) → root_of l (root_of l i) ≡ root_of l i
  root_twice i = root_stop (root_of l i) (root_root i)

-- the root r, or m where r is g
abbrev pub moved : ℕ → ℕ → ℕ → ℕ
moved g m r = cond (eqb r g) m r

-- a root m put under a root g that is not less
module _ (l : List ℕ) (g m : ℕ) (le : m ≤ g) (in_List : g < length l) (g-root : g ≤ get_or l g 0)
    (m-root : m ≤ get_or l m 0) where
  at_g : root_of (set l g m) g ≡ m
  at_g =
      ⊎_elim
      (λ e. root_stop (set l g m) g (subst (λ v. g ≤ v) (sym (get_or-set_same l g m 0 in_List)) (omega arith))
      ∙ sym e)
      (λ ne.
      root_turn (set l g m) g (subst (λ v. v < g) (sym (get_or-set_same l g m 0 in_List)) (omega arith))
      ∙ ap (root_of (set l g m)) (get_or-set_same l g m 0 in_List)
      ∙ root_stop (set l g m) m (subst (λ v. m ≤ v) (sym (get_or-set_other l g m m 0 ne)) m-root))
      (same_or m g)

  at_same : (i : ℕ) → i ≡ g → root_of (set l g m) i ≡ moved g m (root_of l i)
  at_same i e =
      subst (λ i. root_of (set l g m) i ≡ moved g m (root_of l i)) (sym e)
      (at_g ∙ sym (ap (λ t. cond t m (root_of l g)) (eq-eqb (root_of l g) g (root_stop l g g-root))))

  at_stop : (i : ℕ) → (i ≡ g → ⊥) → i ≤ get_or l i 0 → root_of (set l g m) i ≡ moved g m (root_of l i)
  at_stop i ne t =
      root_stop (set l g m) i (subst (λ v. i ≤ v) (sym (get_or-set_other l g i m 0 ne)) t)
      ∙ sym (ap (moved g m) (root_stop l i t) ∙ ap (λ t. cond t m i) (ne_eqb i g ne))

  put_root_to : (n i : ℕ) → i ≤ n → root_of (set l g m) i ≡ moved g m (root_of l i)
  put_root_to zero i h = ⊎_elim (at_same i) (λ ne. at_stop i ne (omega arith)) (same_or i g)
  put_root_to (suc n) i h =
      ⊎_elim (at_same i)
      (λ ne.
      ⊎_elim
      (λ t.
      root_turn (set l g m) i (subst (λ v. v < i) (sym (get_or-set_other l g i m 0 ne)) t)
      ∙ ap (root_of (set l g m)) (get_or-set_other l g i m 0 ne)
      ∙ put_root_to n (get_or l i 0) (omega arith) ∙ sym (ap (moved g m) (root_turn l i t)))
      (at_stop i ne) (less_or (get_or l i 0) i))
      (same_or i g)

  pub put_root : (i : ℕ) → root_of (set l g m) i ≡ moved g m (root_of l i)
  put_root i = put_root_to i i (omega arith)

-- a node's own root put under it: every root stays
module _ (l : List ℕ) (g : ℕ) (in_List : g < length l) where
  abbrev l' : List ℕ
  l' = set l g (root_of l g)

  flat_at : root_of l' g ≡ root_of l g
  flat_at =
      ⊎_elim
      (λ e. root_stop l' g (subst (λ v. g ≤ v) (sym (get_or-set_same l g (root_of l g) 0 in_List))
      (omega arith))
      ∙ sym e)
      (λ ne.
      root_turn l' g (subst (λ v. v < g) (sym (get_or-set_same l g (root_of l g) 0 in_List))
      (omega (arith, root_le l g))) ∙ ap (root_of l') (get_or-set_same l g (root_of l g) 0 in_List)
      ∙ root_stop l' (root_of l g) (subst (λ v. root_of l g ≤ v)
      (sym (get_or-set_other l g (root_of l g) (root_of l g) 0 ne)) (root_root l g)))
      (same_or (root_of l g) g)

  flat_stop : (i : ℕ) → (i ≡ g → ⊥) → i ≤ get_or l i 0 → root_of l' i ≡ root_of l i
  flat_stop i ne t = root_stop l' i (subst (λ v. i ≤ v) (sym (get_or-set_other l g i (root_of l g) 0 ne)) t)
      ∙ sym (root_stop l i t)

  flat_same : (i : ℕ) → i ≡ g → root_of l' i ≡ root_of l i
  flat_same i e = subst (λ i. root_of l' i ≡ root_of l i) (sym e) flat_at

  flat_root_to : (n i : ℕ) → i ≤ n → root_of l' i ≡ root_of l i
  flat_root_to zero i h = ⊎_elim (flat_same i) (λ ne. flat_stop i ne (omega arith)) (same_or i g)
  flat_root_to (suc n) i h =
      ⊎_elim (flat_same i)
      (λ ne.
      ⊎_elim
      (λ t.
      root_turn l' i (subst (λ v. v < i) (sym (get_or-set_other l g i (root_of l g) 0 ne)) t)
      ∙ ap (root_of l') (get_or-set_other l g i (root_of l g) 0 ne)
      ∙ flat_root_to n (get_or l i 0) (omega arith) ∙ sym (root_turn l i t))
      (flat_stop i ne) (less_or (get_or l i 0) i))
      (same_or i g)

  pub flat_root : (i : ℕ) → root_of l' i ≡ root_of l i
  flat_root i = flat_root_to i i (omega arith)

-- flattened to n: the roots stay, and the first n places hold them
pub length_flat : (l : List ℕ) (n : ℕ) → length (flat_to l n) ≡ length l
unfolding flat_to
length_flat l zero = refl
length_flat l (suc n) = length-set (flat_to l n) n (root_of (flat_to l n) n) ∙ length_flat l n

pub flat_roots : (l : List ℕ) (n : ℕ) → n ≤ length l → (i : ℕ) → root_of (flat_to l n) i ≡ root_of l i
unfolding flat_to
flat_roots l zero h i = refl
flat_roots l (suc n) h i = flat_root (flat_to l n) n (omega (arith, length_flat l n)) i
    ∙ flat_roots l n (omega arith) i

pub flat_holds : (l : List ℕ) (n : ℕ) → n ≤ length l → (i : ℕ) → i < n → get_or (flat_to l n) i 0
    ≡ root_of l i
unfolding flat_to
flat_holds l zero h i k = absurd (omega arith)
flat_holds l (suc n) h i k =
    ⊎_elim
    (λ e.
    subst (λ i. get_or (set (flat_to l n) n (root_of (flat_to l n) n)) i 0 ≡ root_of l i) (sym e)
    (get_or-set_same (flat_to l n) n (root_of (flat_to l n) n) 0 (omega (arith, length_flat l n))
    ∙ flat_roots l n (omega arith) n))
    (λ ne. get_or-set_other (flat_to l n) n i (root_of (flat_to l n) n) 0 ne
    ∙ flat_holds l n (omega arith) i (omega arith)) (same_or i n)
