-- One region and all that is inside it, as the listing functions do it.
use Prim.Native.Nat.{ℕ, ◌+◌, ◌*◌, ◌≤◌, ◌<◌}
use mathlib.Core.Path.{◌≡◌, refl, sym, ap, ap₂, ◌∙◌, subst}
use mathlib.Core.Bool.{Bool, true, false, cond}
use mathlib.Core.List.{List, [], ◌∷◌, ◌++◌, append-nil}
use native.Mathlib.Omega.{arith}
use borrow.Author.Tests.{eq-eqb, ne_eqb}
use lib.Dec.{eqb}
use lib.ListN.{length, get_or, length-append}
use Rattle.basics.specs.Lists.{joined}
use Rattle.regions.specs.Listing.{parent_of, count_of, walk, itself, line, order_from, lines_from}
use Rattle.nesting.specs.Steps.Written.{put}
use Rattle.nesting.specs.Steps.Tree.{at, Tree, Next}
use Rattle.regions.proofs.Walks.{joined_more, length_joined_le, child, walk_children, length_joined_twice}
use Rattle.regions.proofs.Walks.{length_lines, inner_low}
use Rattle.nesting.proofs.Stores.{put_append, put_none}

module _ (L I : List ℕ) (w n : ℕ) (r d : ℕ) where
  abbrev R : ℕ → ℕ
  R = at L

  -- the regions and the lines that the first k regions add
  abbrev pub orders : ℕ → List ℕ
  orders k = joined (child itself R w n I r d) k

  abbrev pub lines : ℕ → List ℕ
  lines k = joined (child (line R n) R w n I r d) k

  pub lines_twice : (k : ℕ) → length (lines k) ≡ 2 * length (orders k)
  lines_twice k =
      length_joined_twice (child (line R n) R w n I r d) (child itself R w n I r d) k
      (λ i _. by (eqb (parent_of R w (get_or I i 0)) r) _ _
      (length_lines R w n (n + 1) (get_or I i 0) (d + 1)))
    where
      by : (t : Bool) (X Y : List ℕ) → length X ≡ 2 * length Y
          → length (cond t X []) ≡ 2 * length (cond t Y [])
      by true X Y e = e
      by false X Y e = refl

  pub orders_none : length (orders 0) ≡ 0
  unfolding joined
  orders_none = refl

  pub lines_none : (l : List ℕ) (a : ℕ) → l ≡ put l a (lines 0)
  unfolding joined
  lines_none l a = put_none l a

  module _ (k : ℕ) where
    -- region k lies in r
    module _ (p : parent_of R w (get_or I k 0) ≡ r) where
      child_yes : (note : ℕ → ℕ → List ℕ) → child note R w n I r d k ≡ walk note R w n (n + 1) (get_or I k 0)
          (d + 1)
      child_yes note = ap (λ t. cond t (walk note R w n (n + 1) (get_or I k 0) (d + 1)) [])
          (eq-eqb (parent_of R w (get_or I k 0)) r p)

      pub orders_yes : length (orders (k + 1)) ≡ length (orders k) + length (order_from R w n (get_or I k 0)
          (d + 1))
      orders_yes = ap length (joined_more _ k) ∙ length-append (orders k) (child itself R w n I r d k)
          ∙ ap (λ X. length (orders k) + length X) (child_yes itself)

      pub lines_yes : (l0 l l' : List ℕ) (a b : ℕ) → l ≡ put l0 a (lines k) → b ≡ a + length (lines k)
          → l' ≡ put l b (lines_from R w n (get_or I k 0) (d + 1)) → l' ≡ put l0 a (lines (k + 1))
      lines_yes l0 l l' a b e q f =
          f ∙ ap₂ (λ l X. put l b X) e (sym (child_yes (line R n)))
          ∙ sym (put_append l0 a b (lines k) (child (line R n) R w n I r d k) q)
          ∙ ap (put l0 a) (sym (joined_more (child (line R n) R w n I r d) k))

    -- region k does not
    module _ (p : parent_of R w (get_or I k 0) ≡ r → ⊥) where
      child_no : (note : ℕ → ℕ → List ℕ) → child note R w n I r d k ≡ []
      child_no note = ap (λ t. cond t (walk note R w n (n + 1) (get_or I k 0) (d + 1)) [])
          (ne_eqb (parent_of R w (get_or I k 0)) r p)

      same : (note : ℕ → ℕ → List ℕ) → joined (child note R w n I r d) (k + 1) ≡ joined
          (child note R w n I r d) k
      same note = joined_more _ k ∙ ap (λ X. joined (child note R w n I r d) k ++ X) (child_no note)
          ∙ append-nil _

      pub orders_no : length (orders (k + 1)) ≡ length (orders k)
      orders_no = ap length (same itself)

      pub lines_no : (l0 l : List ℕ) (a : ℕ) → l ≡ put l0 a (lines k) → l ≡ put l0 a (lines (k + 1))
      lines_no l0 l a e = e ∙ ap (put l0 a) (sym (same (line R n)))

  module _ (tree : Tree L I w n) where
    pub order_all : r ≤ n → length (order_from R w n r d) ≡ 1 + length (orders (length I))
    order_all h = ap length (walk_children itself R w n tree.low I tree.inner r d h) ∙ omega arith

    pub lines_all : (l l0 l' : List ℕ) (m c k : ℕ) → r ≤ n → c ≡ count_of R r n → k ≡ length I
        → l0 ≡ put l (2 * m) (d ∷ c ∷ []) → l' ≡ put l0 (2 * (m + 1)) (lines k)
        → l' ≡ put l (2 * m) (lines_from R w n r d)
    lines_all l l0 l' m c k h ec ek e0 e =
        e ∙ ap₂ (λ l0 k. put l0 (2 * (m + 1)) (lines k)) (e0 ∙ ap (λ c. put l (2 * m) (d ∷ c ∷ [])) ec) ek
        ∙ sym (put_append l (2 * m) (2 * (m + 1)) (line R n r d) (lines (length I)) (two m))
        ∙ ap (put l (2 * m)) (sym (walk_children (line R n) R w n tree.low I tree.inner r d h))
      where
        two : (m : ℕ) → 2 * (m + 1) ≡ 2 * m + 2
        two m = omega arith

    -- there are places for region k, which lies in r, and all that is inside it
    pub next_child : (len m next k : ℕ) → Next L I w n len m r d → next ≡ m + 1 + length (orders k)
        → k < length I → parent_of R w (get_or I k 0) ≡ r → Next L I w n len next (get_or I k 0) (d + 1)
    next_child len m next k x e h p =
        record {
          region = (node_low k h).1;
          depth = omega (arith, x.depth, e);
          left = omega (
            arith,
            x.left,
            e,
            order_all x.region,
            orders_yes k p,
            length_joined_le
                (child itself R w n I r d) (k + 1) (length I) (omega arith),
          );
          places = x.places;
        }
      where
        node_low : (k : ℕ) → k < length I → (1 ≤ get_or I k 0) × (get_or I k 0 ≤ n)
        node_low k h = subst (λ J. k < length J → (1 ≤ get_or J k 0) × (get_or J k 0 ≤ n)) (sym tree.inner)
            (inner_low R n k) h

    pub child_low : (k : ℕ) → k < length I → (1 ≤ get_or I k 0) × (get_or I k 0 ≤ n)
    child_low k h = subst (λ J. k < length J → (1 ≤ get_or J k 0) × (get_or J k 0 ≤ n)) (sym tree.inner)
        (inner_low R n k) h

    -- region r itself comes next, so that fewer are left once it is listed
    pub next_room : (len m : ℕ) → Next L I w n len m r d → m < length I + 1
    next_room len m x = omega (arith, x.left, order_all x.region)

  -- as the code has them: the k-th region is c, and q its parent
  module _ (k c q : ℕ) (ec : c ≡ get_or I k 0) (eq : q ≡ parent_of R w c) where
    abbrev in_r : q ≡ r → parent_of R w (get_or I k 0) ≡ r
    in_r e = ap (parent_of R w) (sym ec) ∙ sym eq ∙ e

    abbrev not_in_r : (q ≡ r → ⊥) → parent_of R w (get_or I k 0) ≡ r → ⊥
    not_in_r ne e = ne (eq ∙ ap (parent_of R w) ec ∙ e)

    pub next_yes : Tree L I w n → (len len' m next : ℕ) → Next L I w n len m r d → len' ≡ len
        → next ≡ m + 1 + length (orders k) → k < length I → q ≡ r → Next L I w n len' next c (d + 1)
    next_yes tree len len' m next x el e h p =
        subst (λ c. Next L I w n len' next c (d + 1)) (sym ec)
        (subst (λ len. Next L I w n len next (get_or I k 0) (d + 1)) (sym el) (next_child tree len m next k
        x e h (in_r p)))

    pub order_yes : (m next next' : ℕ) → q ≡ r → next ≡ m + 1 + length (orders k)
        → next' ≡ next + length (order_from R w n c (d + 1)) → next' ≡ m + 1 + length (orders (k + 1))
    order_yes m next next' p e f =
        let g : length (order_from R w n c (d + 1)) ≡ length (order_from R w n (get_or I k 0) (d + 1)) = ap
        (λ c. length (order_from R w n c (d + 1))) ec in
        omega (arith, e, f, g, orders_yes k (in_r p))

    pub order_no : (m next : ℕ) → (q ≡ r → ⊥) → next ≡ m + 1 + length (orders k)
        → next ≡ m + 1 + length (orders (k + 1))
    order_no m next p e = omega (arith, e, orders_no k (not_in_r p))

    pub line_yes : (l0 l l' : List ℕ) (m next : ℕ) → q ≡ r → next ≡ m + 1 + length (orders k)
        → l ≡ put l0 (2 * (m + 1)) (lines k) → l' ≡ put l (2 * next) (lines_from R w n c (d + 1))
        → l' ≡ put l0 (2 * (m + 1)) (lines (k + 1))
    line_yes l0 l l' m next p e el f =
        lines_yes k (in_r p) l0 l l' (2 * (m + 1)) (2 * next) el (omega (arith, e, lines_twice k)) (f
        ∙ ap (λ c. put l (2 * next) (lines_from R w n c (d + 1))) ec)

    pub line_no : (l0 l : List ℕ) (m : ℕ) → (q ≡ r → ⊥) → l ≡ put l0 (2 * (m + 1)) (lines k)
        → l ≡ put l0 (2 * (m + 1)) (lines (k + 1))
    line_no l0 l m p e = lines_no k (not_in_r p) l0 l (2 * (m + 1)) e
