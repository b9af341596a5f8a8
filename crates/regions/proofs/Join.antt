-- Joined nodes: an equivalence. Uniting joined nodes keeps every root joined to its node, and makes equal
-- roots.
use Prim.Native.Nat.{ℕ, ◌-◌, ◌*◌, ◌≤◌, ◌<◌, min, max}
use mathlib.Core.Path.{◌≡◌, sym, ap, ap₂, ◌∙◌, subst}
use mathlib.Core.Bool.{cond}
use mathlib.Core.List.{List}
use mathlib.Core.Logic.{◌⊎◌, ⊎_elim}
use native.Mathlib.Omega.{arith}
use borrow.Author.Tests.{eq-eqb, ne_eqb}
use lib.ListN.{length, get_or, set, length-set}
use Rattle.regions.specs.Regions.{Joined, here, onward, back}
use Rattle.regions.specs.Steps.Union.{root_of, united}
use Rattle.regions.proofs.Cases.{less_or, same_or}
use Rattle.regions.proofs.Roots.{root_le, root_root, moved, put_root}

module _ (w h : ℕ) (A : ℕ → ℕ) where
  pub join_trans : {a b c : ℕ} → Joined w h A a b → Joined w h A b c → Joined w h A a c
  join_trans j here = j
  join_trans j (onward k l) = onward (join_trans j k) l
  join_trans j (back k l) = back (join_trans j k) l

  pub join_sym : {a b : ℕ} → Joined w h A a b → Joined w h A b a
  join_sym here = here
  join_sym (onward k l) = join_trans (back here l) (join_sym k)
  join_sym (back k l) = join_trans (onward here l) (join_sym k)

  pub join_eq : {a b : ℕ} → a ≡ b → Joined w h A a b
  join_eq {a} e = subst (λ c. Joined w h A a c) e here

pub length_united : (l : List ℕ) (a b : ℕ) → length (united l a b) ≡ length l
unfolding united
length_united l a b = length-set l (max (root_of l a) (root_of l b)) (min (root_of l a) (root_of l b))

module _ (l : List ℕ) (a b : ℕ) (a_in : a < length l) (b-in : b < length l) where
  abbrev g : ℕ
  g = max (root_of l a) (root_of l b)

  abbrev m : ℕ
  m = min (root_of l a) (root_of l b)

  pick_root : (p q : ℕ) → p ≤ get_or l p 0 → q ≤ get_or l q 0
      → (max p q ≤ get_or l (max p q) 0) × (min p q ≤ get_or l (min p q) 0)
  pick_root p q hp hq =
      ⊎_elim
      (λ t. (subst (λ r. r ≤ get_or l r 0) (high p q t) hq, subst (λ r. r ≤ get_or l r 0) (low p q t) hp))
      (λ t. (subst (λ r. r ≤ get_or l r 0) (high' p q t) hp, subst (λ r. r ≤ get_or l r 0) (low' p q t) hq))
      (less_or p q)
    where
      high : (p q : ℕ) → p < q → q ≡ max p q
      high p q t = omega arith

      low : (p q : ℕ) → p < q → p ≡ min p q
      low p q t = omega arith

      high' : (p q : ℕ) → q ≤ p → p ≡ max p q
      high' p q t = omega arith

      low' : (p q : ℕ) → q ≤ p → q ≡ min p q
      low' p q t = omega arith

  pub united_root : (i : ℕ) → root_of (united l a b) i ≡ moved g m (root_of l i)
  unfolding united
  united_root i =
      let r = pick_root (root_of l a) (root_of l b) (root_root l a) (root_root l b) in
      put_root l g m (omega arith) (omega (arith, root_le l a, root_le l b)) r.0 r.1 i

  -- what was the same stays the same, and a and b become the same
  pub united_keeps : (i j : ℕ) → root_of l i ≡ root_of l j → root_of (united l a b) i
      ≡ root_of (united l a b) j
  united_keeps i j e = united_root i ∙ ap (moved g m) e ∙ sym (united_root j)

  moved_both : (p q : ℕ) → moved (max p q) (min p q) p ≡ min p q
  moved_both p q =
      ⊎_elim (λ e. ap (λ t. cond t (min p q) p) (eq-eqb p (max p q) e)) (λ ne. ap (λ t. cond t (min p q) p)
      (ne_eqb p (max p q) ne) ∙ low p q ne) (same_or p (max p q))
    where
      low : (p q : ℕ) → (p ≡ max p q → ⊥) → p ≡ min p q
      low p q ne = omega arith

  moved_other : (p q : ℕ) → moved (max p q) (min p q) q ≡ min p q
  moved_other p q =
      ⊎_elim (λ e. ap (λ t. cond t (min p q) q) (eq-eqb q (max p q) e)) (λ ne. ap (λ t. cond t (min p q) q)
      (ne_eqb q (max p q) ne) ∙ low p q ne) (same_or q (max p q))
    where
      low : (p q : ℕ) → (q ≡ max p q → ⊥) → q ≡ min p q
      low p q ne = omega arith

  pub united_makes : root_of (united l a b) a ≡ root_of (united l a b) b
  united_makes = united_root a ∙ moved_both (root_of l a) (root_of l b)
      ∙ sym (moved_other (root_of l a) (root_of l b)) ∙ sym (united_root b)

-- each node is joined to its root
abbrev pub Sound : ℕ → ℕ → (ℕ → ℕ) → List ℕ → Type 0
Sound w h A l = (i : ℕ) → i ≤ h * w → Joined w h A i (root_of l i)

module _ (w h : ℕ) (A : ℕ → ℕ) (l : List ℕ) (a b : ℕ) (a-low : a ≤ h * w) (b-low : b ≤ h * w)
    (long : h * w < length l) (sound : Sound w h A l) (j : Joined w h A a b) where
  roots_joined : (p q : ℕ) → Joined w h A p q → Joined w h A (max p q) (min p q)
  roots_joined p q k =
      ⊎_elim
      (λ t. subst (λ r. Joined w h A r (min p q)) (high p q t) (subst (λ r. Joined w h A q r) (low p q t)
      (join_sym w h A k)))
      (λ t. subst (λ r. Joined w h A r (min p q)) (high' p q t) (subst (λ r. Joined w h A p r) (low' p q t)
      k)) (less_or p q)
    where
      high : (p q : ℕ) → p < q → q ≡ max p q
      high p q t = omega arith

      low : (p q : ℕ) → p < q → p ≡ min p q
      low p q t = omega arith

      high' : (p q : ℕ) → q ≤ p → p ≡ max p q
      high' p q t = omega arith

      low' : (p q : ℕ) → q ≤ p → q ≡ min p q
      low' p q t = omega arith

  moved_joined : (g m r i : ℕ) → Joined w h A g m → Joined w h A i r → Joined w h A i (moved g m r)
  moved_joined g m r i k s =
      ⊎_elim
      (λ e. subst (λ t. Joined w h A i (cond t m r)) (sym (eq-eqb r g e))
      (join_trans w h A (subst (λ r. Joined w h A i r) e s) k))
      (λ ne. subst (λ t. Joined w h A i (cond t m r)) (sym (ne_eqb r g ne)) s) (same_or r g)

  pub united_sound : Sound w h A (united l a b)
  united_sound i i-low =
      subst (λ r. Joined w h A i r) (sym (united_root l a b (omega arith) (omega arith) i))
      (moved_joined (max (root_of l a) (root_of l b)) (min (root_of l a) (root_of l b)) (root_of l i) i
      (roots_joined (root_of l a) (root_of l b) (join_trans w h A (join_sym w h A (sound a a-low))
      (join_trans w h A j (sound b b-low)))) (sound i i-low))

-- as the code does it
pub unite_is : (l : List ℕ) (a b p q g m : ℕ) → p ≡ root_of l a → q ≡ root_of l b → g ≡ max p q → m ≡ min p q
    → set l g m ≡ united l a b
unfolding united
unite_is l a b p q g m ep eq eg em = ap₂ (λ g m. set l g m) (eg ∙ ap₂ max ep eq) (em ∙ ap₂ min ep eq)

pub root_low : (l : List ℕ) (a p : ℕ) → p ≡ root_of l a → p ≤ a
root_low l a p e = subst (λ r. r ≤ a) (sym e) (root_le l a)
