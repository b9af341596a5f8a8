-- The labels are the first nodes of the regions.
use Prim.Native.Nat.{ℕ, zero, suc, ◌+◌, ◌-◌, ◌*◌, ◌≤◌, ◌<◌}
use mathlib.Core.Path.{◌≡◌, refl, sym, ap, ◌∙◌, subst}
use mathlib.Core.Bool.{Bool, true, false, cond}
use mathlib.Core.List.{List, ◌++◌}
use mathlib.Core.Logic.{◌⊎◌, ⊎_elim}
use native.Mathlib.Omega.{arith}
use native.Mathlib.Nat.{le_antisymm}
use lib.Dec.{eqb, lit<}
use lib.ListN.{length, get_or, drop, length-append, length-drop, get_or-append}
use Rattle.basics.specs.Lists.{firsts}
use Rattle.basics.proofs.Lists.{length_firsts, get_d_firsts}
use Rattle.regions.specs.Regions.{point_of, Neighbours, Linked, beyond, beside, Joined, here, onward}
use Rattle.regions.specs.Regions.{back, Firsts}
use Rattle.regions.specs.Steps.Union.{root_of, united, mate_of, mates_united, point_united, united_to}
use Rattle.regions.specs.Steps.Union.{flat_to, alone, labelled}
use Rattle.regions.proofs.Cases.{less_or}
use Rattle.regions.proofs.Roots.{root_le, root_stop, flat_holds}
use Rattle.regions.proofs.Join.{join_eq, length_united, united_keeps, united_makes, united_sound}
use Rattle.regions.proofs.Join.{Sound}
use Rattle.regions.proofs.Mates.{outer_joined, left_joined, up_joined, up_left_joined, up_right_joined}
use Rattle.regions.proofs.Mates.{outer_le, left_le, up_le, up_left_le, up_right_le, Mate, by_outer}
use Rattle.regions.proofs.Mates.{by_left, by_up, by_up_left, by_up_right, neighbour_mate, edge_mate}
use Rattle.regions.proofs.Mates.{neighbours_back}

-- a list that is long enough, whose roots are joined to their nodes
pub record Good (w h : ℕ) (A : ℕ → ℕ) (l : List ℕ) : Type 0 where
  pub long : h * w < length l
  pub sound : Sound w h A l

-- a and b have one root
abbrev pub Same : List ℕ → ℕ → ℕ → Type 0
Same l a b = root_of l a ≡ root_of l b

-- what holds of every mate
mate_all : (P : ℕ → Type 0) (s t u v : Bool) {a b c d e : ℕ} → P a → P b → P c → P d → P e
    → P (cond s a (cond t b (cond u c (cond v d e))))
mate_all P true t u v a b c d e = a
mate_all P false true u v a b c d e = b
mate_all P false false true v a b c d e = c
mate_all P false false false true a b c d e = d
mate_all P false false false false a b c d e = e

module _ (w h : ℕ) (A : ℕ → ℕ) (some : 0 < w) (i : ℕ) (i-in : i < h * w) where
  -- one mate
  good_more : (l : List ℕ) (m : ℕ) → m ≤ i + 1 → Joined w h A (i + 1) m → Good w h A l
      → Good w h A (united l (i + 1) m)
  good_more l m le j g =
      record {
        long = subst (λ n. h * w < n) (sym (length_united l (i + 1) m)) g.long;
        sound = united_sound w h A l (i + 1) m (omega arith) (omega arith) g.long g.sound j;
      }

  keep_more : (l : List ℕ) (m : ℕ) → m ≤ i + 1 → Good w h A l → (a b : ℕ) → Same l a b
      → Same (united l (i + 1) m) a b
  keep_more l m le g a b e = united_keeps l (i + 1) m (omega (arith, g.long)) (omega (arith, g.long)) a b e

  make_more : (l : List ℕ) (m : ℕ) → m ≤ i + 1 → Good w h A l → Same (united l (i + 1) m) (i + 1) m
  make_more l m le g = united_makes l (i + 1) m (omega (arith, g.long)) (omega (arith, g.long))

  -- all of them
  pub mate_le : (k : ℕ) → mate_of A w h i k ≤ i + 1
  unfolding mate_of
  mate_le k =
      mate_all (λ m. m ≤ i + 1) (eqb k 0) (eqb k 1) (eqb k 2) (eqb k 3) (outer_le w h A some i i-in)
      (left_le w h A some i i-in) (up_le w h A some i i-in) (up_left_le w h A some i i-in)
      (up_right_le w h A some i i-in)

  mate_joined : (k : ℕ) → Joined w h A (i + 1) (mate_of A w h i k)
  unfolding mate_of
  mate_joined k =
      mate_all (Joined w h A (i + 1)) (eqb k 0) (eqb k 1) (eqb k 2) (eqb k 3)
      (outer_joined w h A some i i-in) (left_joined w h A some i i-in) (up_joined w h A some i i-in)
      (up_left_joined w h A some i i-in) (up_right_joined w h A some i i-in)

  module _ (l : List ℕ) (g : Good w h A l) where
    mates_good : (k : ℕ) → Good w h A (mates_united A w h i l k)
    unfolding mates_united
    mates_good zero = g
    mates_good (suc k) = good_more _ _ (mate_le k) (mate_joined k) (mates_good k)

    mates_keep : (k a b : ℕ) → Same l a b → Same (mates_united A w h i l k) a b
    unfolding mates_united
    mates_keep zero a b e = e
    mates_keep (suc k) a b e = keep_more _ _ (mate_le k) (mates_good k) a b (mates_keep k a b e)

    mates_make : (k j : ℕ) → j < k → Same (mates_united A w h i l k) (i + 1) (mate_of A w h i j)
    unfolding mates_united
    mates_make zero j t = absurd (omega arith)
    mates_make (suc k) j t =
        ⊎_elim (λ x. keep_more _ _ (mate_le k) (mates_good k) (i + 1) (mate_of A w h i j) (mates_make k j x))
        (λ x. last j (omega arith)) (less_or j k)
      where
        last : (j : ℕ) → k ≡ j → Same (united (mates_united A w h i l k) (i + 1) (mate_of A w h i k)) (i + 1)
            (mate_of A w h i j)
        last j e =
            subst (λ j. Same (united (mates_united A w h i l k) (i + 1) (mate_of A w h i k)) (i + 1)
            (mate_of A w h i j)) e
            (make_more (mates_united A w h i l k) (mate_of A w h i k) (mate_le k) (mates_good k))

    pub point_good : Good w h A (point_united A w h l i)
    unfolding point_united
    point_good = mates_good 5

    pub point_keeps : (a b : ℕ) → Same l a b → Same (point_united A w h l i) a b
    unfolding point_united
    point_keeps = mates_keep 5

    pub point_makes : (n : ℕ) → Mate w h A i n → Same (point_united A w h l i) (i + 1) n
    unfolding point_united mate_of
    point_makes n (by_outer e) = subst (Same (mates_united A w h i l 5) (i + 1)) e (mates_make 5 0 (lit< tt))
    point_makes n (by_left e) = subst (Same (mates_united A w h i l 5) (i + 1)) e (mates_make 5 1 (lit< tt))
    point_makes n (by_up e) = subst (Same (mates_united A w h i l 5) (i + 1)) e (mates_make 5 2 (lit< tt))
    point_makes n (by_up_left e) =
        subst (Same (mates_united A w h i l 5) (i + 1)) e (mates_make 5 3 (lit< tt))
    point_makes n (by_up_right e) =
        subst (Same (mates_united A w h i l 5) (i + 1)) e (mates_make 5 4 (lit< tt))

module _ (w h : ℕ) (A : ℕ → ℕ) (some : 0 < w) (l : List ℕ) (good : Good w h A l) where
  pub to_good : (n : ℕ) → n ≤ h * w → Good w h A (united_to A w h l n)
  unfolding united_to
  to_good zero k = good
  to_good (suc n) k = point_good w h A some n (omega arith) (united_to A w h l n) (to_good n (omega arith))

  to_makes : (n : ℕ) → n ≤ h * w → (q m : ℕ) → q < n → Mate w h A q m → Same (united_to A w h l n) (q + 1) m
  unfolding united_to
  to_makes zero k q m t e = absurd (omega arith)
  to_makes (suc n) k q m t e =
      ⊎_elim
      (λ x. point_keeps w h A some n (omega arith) (united_to A w h l n) (to_good n (omega arith)) (q + 1) m
      (to_makes n (omega arith) q m x e))
      (λ x. last q (omega arith) e) (less_or q n)
    where
      last : (q : ℕ) → n ≡ q → Mate w h A q m → Same (point_united A w h (united_to A w h l n) n) (q + 1) m
      last q e t =
          subst (λ q. Mate w h A q m → Same (point_united A w h (united_to A w h l n) n) (q + 1) m) e
          (λ t. point_makes w h A some n (omega arith) (united_to A w h l n) (to_good n (omega arith)) m t) t

  abbrev L : List ℕ
  L = united_to A w h l (h * w)

  le : h * w ≤ h * w
  le = omega arith

  mates_same : (q m : ℕ) → q < h * w → Mate w h A q m → Same L (q + 1) m
  mates_same q m t e = to_makes (h * w) le q m t e

  beside_same : (p q : ℕ) → p < h * w → q < h * w → Neighbours w A p q → Same L (p + 1) (q + 1)
  beside_same p q p-in q-in n =
      ⊎_elim (λ t. sym (mates_same q (p + 1) q-in (neighbour_mate w h A some p q n t)))
      (λ t. ⊎_elim (λ t'. mates_same p (q + 1) p-in (neighbour_mate w h A some q p (neighbours_back w A p q n)
      t')) (λ t'. ap (λ n. root_of L (n + 1)) (equal p q t t')) (less_or q p)) (less_or p q)
    where
      equal : (p q : ℕ) → q ≤ p → p ≤ q → p ≡ q
      equal p q a b = omega arith

  linked_same : (a b : ℕ) → Linked w h A a b → Same L a b
  linked_same a b (beyond p ea eb p-in z e) =
      ap (root_of L) ea ∙ sym (ap (root_of L) eb ∙ mates_same p 0 p-in (by_outer (edge_mate w h A p z e)))
  linked_same a b (beside p q ea eb p-in q-in n) = ap (root_of L) ea ∙ beside_same p q p-in q-in n
      ∙ sym (ap (root_of L) eb)

  pub joined_same : {a b : ℕ} → Joined w h A a b → Same L a b
  joined_same here = refl
  joined_same (onward {b} {c} j k) = joined_same j ∙ linked_same b c k
  joined_same (back {b} {c} j k) = joined_same j ∙ sym (linked_same c b k)

  -- the roots are the first nodes
  pub roots_first : Firsts w h A (root_of L)
  roots_first =
      record {
        joined = (to_good (h * w) le).sound;
        least = λ a b a_in j. subst (λ r. r ≤ b)
            (sym (joined_same j)) (root_le L b);
      }

-- each node alone is its own root
pub length_alone : (l : List ℕ) (n : ℕ) → n ≤ length l → length (alone l n) ≡ length l
unfolding alone
length_alone l n k = length-append (firsts (λ i. i) n) (drop n l)
    ∙ omega (arith, length_firsts (λ i. i) n, length-drop n l)

pub alone_good : (w h : ℕ) (A : ℕ → ℕ) (l : List ℕ) → h * w < length l → Good w h A (alone l (h * w + 1))
unfolding alone
alone_good w h A l k =
    record {
      long = subst (λ n. h * w < n) (sym (length_alone l (h * w + 1) (omega arith))) k;
      sound =
          λ i i-in. join_eq w h A (sym (own i (omega arith)));
    }
  where
    own : (i : ℕ) → i < h * w + 1 → root_of (firsts (λ i. i) (h * w + 1) ++ drop (h * w + 1) l) i ≡ i
    own i t =
        root_stop (firsts (λ i. i) (h * w + 1) ++ drop (h * w + 1) l) i
        (subst (λ v. i ≤ v)
        (sym (get_or-append (firsts (λ i. i) (h * w + 1)) (drop (h * w + 1) l) 0 i
        (subst (λ n. i < n) (sym (length_firsts (λ i. i) (h * w + 1))) t)
        ∙ get_d_firsts (λ i. i) (h * w + 1) i t))
        (omega arith))

-- there is only one way to give each node the first of its region
pub firsts_unique : (w h : ℕ) (A R Q : ℕ → ℕ) → Firsts w h A R → Firsts w h A Q → (a : ℕ) → a ≤ h * w
    → R a ≡ Q a
firsts_unique w h A R Q r q a t =
    le_antisymm (r.least a (Q a) t (q.joined a t)) (q.least a (R a) t (r.joined a t))

-- THE THEOREM of the labelling: the places hold the first node of each node's region
pub labels_first : (s : List ℕ) (w h : ℕ) (l : List ℕ) → 0 < w → h * w < length l
    → Firsts w h (point_of s w) (λ a. get_or (labelled s w h l) a 0)
unfolding labelled
labels_first s w h l some k =
    let r = roots_first w h (point_of s w) some (alone l (h * w + 1)) (alone_good w h (point_of s w) l k) in
    record {
      joined = λ a t. subst (Joined w h (point_of s w) a) (sym (holds a t)) (r.joined a t);
      least =
          λ a b t j. subst (λ r. r ≤ b) (sym (holds a t)) (r.least a b t j);
    }
  where
    holds : (a : ℕ) → a ≤ h * w
        → get_or (flat_to (united_to (point_of s w) w h (alone l (h * w + 1)) (h * w)) (h * w + 1)) a 0
        ≡ root_of
        (united_to (point_of s w) w h (alone l (h * w + 1)) (h * w)) a
    holds a t =
        let g = to_good w h (point_of s w) some (alone l (h * w + 1)) (alone_good w h (point_of s w) l k)
        (h * w) (omega arith) in
        flat_holds _ (h * w + 1) (omega (arith, g.long)) a (omega arith)
