-- The first nodes of the regions: there is one way to give them, and the listing hangs on them alone.
use Prim.Native.Nat.{ℕ, zero, suc, ◌+◌, ◌*◌, ◌≤◌, ◌<◌}
use mathlib.Core.Path.{◌≡◌, refl, sym, ap, ap₂, ◌∙◌, subst}
use mathlib.Core.Bool.{cond}
use mathlib.Core.List.{List, [], ◌∷◌, ◌++◌}
use native.Mathlib.Omega.{arith}
use native.Mathlib.Nat.{le_antisymm}
use lib.Dec.{eqb}
use lib.ListN.{length, get_or, replicate, length-replicate}
use Rattle.regions.specs.Regions.{point_of, Linked, beyond, beside, Joined, here, onward, back, Firsts}
use Rattle.regions.specs.Steps.Union.{labelled}
use Rattle.regions.specs.Listing.{left_of, parent_of, count_of, where_in, walk, line, listing, inner_of}
use Rattle.regions.specs.Listing.{regions_of}
use Rattle.regions.proofs.Join.{join_trans}
use Rattle.regions.proofs.Labels.{labels_first}
use Rattle.regions.proofs.Walks.{joined_same, left_less}

-- the first of a region is no later, and its own first
module _ (w h : ℕ) (A R : ℕ → ℕ) (f : Firsts w h A R) where
  pub first_low : (a : ℕ) → a ≤ h * w → R a ≤ a
  first_low a k = f.least a a k here

  pub first_twice : (a : ℕ) → a ≤ h * w → R (R a) ≡ R a
  first_twice a k =
      let l = first_low a k in
      let m : R a ≤ h * w = omega (arith, l) in
      le_antisymm (first_low (R a) m) (f.least a (R (R a)) k (join_trans w h A (f.joined a k)
      (f.joined (R a) m)))

-- there is a way to give them, whatever the frame
pub firsts_exist : (s : List ℕ) (w h : ℕ) → (R : ℕ → ℕ) × Firsts w h (point_of s w) R
firsts_exist s zero h =
    (λ a. 0, record { joined = λ a k. alone a (omega (arith, k)); least = λ a b k j. omega arith })
  where
    alone : (a : ℕ) → a ≡ 0 → Joined zero h (point_of s zero) a 0
    alone a e = subst (λ a. Joined zero h (point_of s zero) a 0) (sym e) here
firsts_exist s (suc w) h =
    let l : List ℕ = replicate (h * suc w + 1) 0 in (
      λ a. get_or (labelled s (suc w) h l) a 0,
      labels_first s (suc w) h l (omega arith) (omega (arith, length-replicate {A = ℕ} (h * suc w + 1) 0)),
    )

-- ---- the first nodes hang on the points of the frame alone
module _ (w h : ℕ) (A C : ℕ → ℕ) (e : (p : ℕ) → p < h * w → A p ≡ C p) where
  linked_alike : (a b : ℕ) → Linked w h A a b → Linked w h C a b
  linked_alike a b (beyond p ea eb p-in z on) = beyond p ea eb p-in (sym (e p p-in) ∙ z) on
  linked_alike a b (beside p q ea eb p-in q-in n) =
      beside p q ea eb p-in q-in
      (record {
        like = sym (e p p-in) ∙ n.like ∙ e q q-in;
        right = n.right;
        left = n.left;
        down = n.down;
        up = n.up;
        straight = λ z. n.straight (e p p-in ∙ z);
      })

  joined_alike : {a b : ℕ} → Joined w h A a b → Joined w h C a b
  joined_alike here = here
  joined_alike (onward {b} {c} j k) = onward (joined_alike j) (linked_alike b c k)
  joined_alike (back {b} {c} j k) = back (joined_alike j) (linked_alike c b k)

pub firsts_alike : (w h : ℕ) (A C R : ℕ → ℕ) → ((p : ℕ) → p < h * w → A p ≡ C p) → Firsts w h A R
    → Firsts w h C R
firsts_alike w h A C R e f =
    record {
      joined = λ a k. joined_alike w h A C e (f.joined a k);
      least = λ a b k j. f.least a b k (joined_alike w h C A (λ p i. sym (e p i)) j);
    }

-- ---- what hangs on the first nodes
module _ (R Q : ℕ → ℕ) (w n : ℕ) (e : (a : ℕ) → a ≤ n → R a ≡ Q a) where
  parent_same : (c : ℕ) → 1 ≤ c → c ≤ n → parent_of R w c ≡ parent_of Q w c
  unfolding parent_of
  parent_same c h k = e (left_of w c) (omega (arith, left_less w c h))

  count_same : (r m : ℕ) → m ≤ n → count_of R r m ≡ count_of Q r m
  unfolding count_of
  count_same r zero h = refl
  count_same r (suc m) h = ap₂ (λ k v. k + cond (eqb v r) 1 0) (count_same r m (omega arith))
      (e (m + 1) (omega arith))

  inner_same : (m : ℕ) → m ≤ n → inner_of R m ≡ inner_of Q m
  unfolding inner_of
  inner_same zero h = refl
  inner_same (suc m) h = ap₂ (λ l v. l ++ cond (eqb v (m + 1)) ((m + 1) ∷ []) []) (inner_same m (omega arith))
      (e (m + 1) (omega arith))

  pub regions_same : regions_of R n ≡ regions_of Q n
  unfolding regions_of
  regions_same = ap (λ l. length l + 1) (inner_same n (omega arith))

  walk_same : (f r d : ℕ) → walk (line R n) R w n f r d ≡ walk (line Q n) Q w n f r d
  unfolding walk
  walk_same zero r d = refl
  walk_same (suc f) r d =
      ap₂ (λ k l. (d ∷ k ∷ []) ++ l) (count_same r n (omega arith))
      (joined_same _ _ n
      (λ i t.
      ap₂ (λ a b. cond (eqb a (i + 1)) (cond (eqb b r) (walk (line R n) R w n f (i + 1) (d + 1)) []) [])
      (e (i + 1) (omega arith)) (parent_same (i + 1) (omega arith) (omega arith))
      ∙ ap (where_in Q w r (i + 1)) (walk_same f (i + 1) (d + 1))))

  pub listing_same : listing R w n ≡ listing Q w n
  unfolding listing
  listing_same = walk_same (n + 1) 0 0
