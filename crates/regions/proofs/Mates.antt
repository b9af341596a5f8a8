-- The mates of a point: each is joined to it, and of two neighbours the earlier is a mate of the later.
use Prim.Native.Nat.{ℕ, zero, suc, ◌+◌, ◌-◌, ◌*◌, ◌/◌, ◌%◌, ◌≤◌, ◌<◌}
use mathlib.Core.Path.{◌≡◌, refl, sym, ap, ◌∙◌}
use mathlib.Core.Bool.{Bool, true, false, cond}
use mathlib.Core.Logic.{◌⊎◌, ⊎_elim}
use native.Mathlib.Omega.{arith}
use native.Mathlib.Nat.{mod-lt, div-add-mod', mul-le-mul_right}
use borrow.Author.Tests.{eqb-true, eqb-false, eq-eqb, ne_eqb}
use lib.Dec.{eqb}
use lib.Arith.{digits_div, digits_mod}
use Rattle.regions.specs.Regions.{Edge, first_column, last_column, first_row, last_row, Straight}
use Rattle.regions.specs.Regions.{one_column, one_row, Neighbours, beyond, beside, Joined, here, back}
use Rattle.regions.specs.Steps.Union.{edge_at, outer_mate, left_mate, up_mate, up_left_mate, up_right_mate}
use Rattle.regions.proofs.Cases.{less_or}

pub cond_both : (P : ℕ → Type 0) (t : Bool) (x y : ℕ) → (t ≡ true → P x) → (t ≡ false → P y) → P (cond t x y)
cond_both P true x y f g = f refl
cond_both P false x y f g = g refl

pub cond_true : {X : Type 0} (t : Bool) (x y : X) → t ≡ true → cond t x y ≡ x
cond_true t x y e = ap (λ t. cond t x y) e

pub cond_false : {X : Type 0} (t : Bool) (x y : X) → t ≡ false → cond t x y ≡ y
cond_false t x y e = ap (λ t. cond t x y) e

pred_mul : (y w : ℕ) → 1 ≤ y → y * w ≡ (y - 1) * w + w
pred_mul zero w h = absurd (omega arith)
pred_mul (suc y) w h = step y w
  where
    pred : (y : ℕ) → suc y - 1 ≡ y
    pred y = omega arith

    step : (y w : ℕ) → suc y * w ≡ (suc y - 1) * w + w
    step y w = let e : suc y * w ≡ y * w + w = omega arith in e ∙ ap (λ n. n * w + w) (sym (pred y))

module _ (w h : ℕ) (A : ℕ → ℕ) (some : 0 < w) where
  -- column and row of a number
  decode : (i q x : ℕ) → x < w → i ≡ q * w + x → (i % w ≡ x) × (i / w ≡ q)
  decode i q x k e = (ap (λ n. n % w) e ∙ digits_mod q k, ap (λ n. n / w) e ∙ digits_div q k)

  x< : (i : ℕ) → i % w < w
  x< i = mod-lt i some

  is : (i : ℕ) → i / w * w + i % w ≡ i
  is i = div-add-mod' i w

  left_at : (i : ℕ) → 1 ≤ i % w → ((i - 1) % w ≡ i % w - 1) × ((i - 1) / w ≡ i / w)
  left_at i k = decode (i - 1) (i / w) (i % w - 1) (omega (arith, x< i)) (omega (arith, is i))

  up_at : (i : ℕ) → 1 ≤ i / w → ((i - w) % w ≡ i % w) × ((i - w) / w ≡ i / w - 1)
  up_at i k = decode (i - w) (i / w - 1) (i % w) (x< i) (omega (arith, is i, pred_mul (i / w) w k))

  up_left_at : (i : ℕ) → 1 ≤ i / w → 1 ≤ i % w → ((i - w - 1) % w ≡ i % w - 1) × ((i - w - 1) / w ≡ i / w - 1)
  up_left_at i k k' = decode (i - w - 1) (i / w - 1) (i % w - 1) (omega (arith, x< i))
      (omega (arith, is i, pred_mul (i / w) w k))

  up_right_at : (i : ℕ) → 1 ≤ i / w → i % w + 1 < w
      → ((i - w + 1) % w ≡ i % w + 1) × ((i - w + 1) / w ≡ i / w - 1)
  up_right_at i k k' =
      decode (i - w + 1) (i / w - 1) (i % w + 1) k' (omega (arith, is i, pred_mul (i / w) w k))

  w≤ : (i : ℕ) → 1 ≤ i / w → w ≤ i
  w≤ i k = omega (arith, is i, pred_mul (i / w) w k)

  -- the mates are joined to the point
  module _ (i : ℕ) (i-in : i < h * w) where
    abbrev P : ℕ → Type 0
    P n = Joined w h A (i + 1) n

    -- a neighbour p, node b
    near : (p b : ℕ) → b ≡ p + 1 → p < h * w → Neighbours w A p i → P b
    near p b e k n = back here (beside p i e refl k i-in n)

    neq : (a : ℕ) → eqb a 0 ≡ false → 1 ≤ a
    neq a e = let n = eqb-false a 0 e in omega arith

    edge_of : (x y : ℕ) → x ≡ i % w → y ≡ i / w → edge_at x y w h ≡ true → Edge w h i
    edge_of x y ex ey =
        go (eqb x 0) (eqb (x + 1) w) (eqb y 0) (λ e. first_column (sym ex ∙ eqb-true x 0 e))
        (λ e. last_column (ap (λ n. n + 1) (sym ex) ∙ eqb-true (x + 1) w e))
        (λ e. first_row (sym ey ∙ eqb-true y 0 e)) (λ e. last_row (ap (λ n. n + 1) (sym ey)
        ∙ eqb-true (y + 1) h e))
      where
        go : (a b c : Bool) {d : Bool} → (a ≡ true → Edge w h i) → (b ≡ true → Edge w h i)
            → (c ≡ true → Edge w h i) → (d ≡ true → Edge w h i)
            → cond a true (cond b true (cond c true d)) ≡ true → Edge w h i
        go true b c f g k l e = f refl
        go false true c f g k l e = g refl
        go false false true f g k l e = k refl
        go false false false f g k l e = l e

    pub outer_joined : P (outer_mate A w h i)
    unfolding outer_mate
    outer_joined =
        cond_both P (eqb (A i) 0) _ (i + 1)
        (λ z. cond_both P (edge_at (i % w) (i / w) w h) 0 (i + 1)
        (λ e. back here (beyond i refl refl i-in (eqb-true (A i) 0 z) (edge_of (i % w) (i / w) refl refl
        e))) (λ _. here))
        (λ _. here)

    pub left_joined : P (left_mate A w i)
    unfolding left_mate
    left_joined =
        cond_both P (eqb (i % w) 0) (i + 1) _ (λ _. here)
        (λ n. cond_both P (eqb (A (i - 1)) (A i)) i (i + 1)
        (λ e. there (neq (i % w) n) (eqb-true (A (i - 1)) (A i) e)) (λ _. here))
      where
        there : 1 ≤ i % w → A (i - 1) ≡ A i → P i
        there k e =
            let d = left_at i k in
            near (i - 1) i (omega (arith, is i)) (omega arith)
            (record {
              like = e;
              right = omega (arith, d.0);
              left = omega (arith, d.0);
              down = omega
                  (arith, d.1);
              up = omega (arith, d.1);
              straight = λ _. one_row d.1;
            })

    pub up_joined : P (up_mate A w i)
    unfolding up_mate
    up_joined =
        cond_both P (eqb (i / w) 0) (i + 1) _ (λ _. here)
        (λ n. cond_both P (eqb (A (i - w)) (A i)) (i - w + 1) (i + 1)
        (λ e. there (neq (i / w) n) (eqb-true (A (i - w)) (A i) e)) (λ _. here))
      where
        there : 1 ≤ i / w → A (i - w) ≡ A i → P (i - w + 1)
        there k e =
            let d = up_at i k in
            near (i - w) (i - w + 1) refl (omega arith)
            (record {
              like = e;
              right = omega (arith, d.0);
              left = omega (arith, d.0);
              down = omega
                  (arith, d.1);
              up = omega (arith, d.1);
              straight = λ _. one_column d.0;
            })

    pub up_left_joined : P (up_left_mate A w i)
    unfolding up_left_mate
    up_left_joined =
        cond_both P (eqb (i / w) 0) (i + 1) _ (λ _. here)
        (λ n.
        cond_both P (eqb (i % w) 0) (i + 1) _ (λ _. here)
        (λ n'.
        cond_both P (eqb (A i) 0) (i + 1) _ (λ _. here)
        (λ z.
        cond_both P (eqb (A (i - w - 1)) (A i)) (i - w) (i + 1)
        (λ e. there (neq (i / w) n) (neq (i % w) n') (eqb-false (A i) 0 z) (eqb-true (A (i - w - 1)) (A i) e))
        (λ _. here))))
      where
        there : 1 ≤ i / w → 1 ≤ i % w → (A i ≡ 0 → ⊥) → A (i - w - 1) ≡ A i → P (i - w)
        there k k' z e =
            let d = up_left_at i k k' in
            near (i - w - 1) (i - w) (omega (arith, is i, pred_mul (i / w) w k)) (omega arith)
            (record {
              like = e;
              right = omega (arith, d.0);
              left = omega (arith, d.0);
              down = omega
                  (arith, d.1);
              up = omega (arith, d.1);
              straight = λ q. absurd (z (sym e ∙ q));
            })

    pub up_right_joined : P (up_right_mate A w i)
    unfolding up_right_mate
    up_right_joined =
        cond_both P (eqb (i / w) 0) (i + 1) _ (λ _. here)
        (λ n.
        cond_both P (eqb (i % w + 1) w) (i + 1) _ (λ _. here)
        (λ n'.
        cond_both P (eqb (A i) 0) (i + 1) _ (λ _. here)
        (λ z.
        cond_both P (eqb (A (i - w + 1)) (A i)) (i - w + 2) (i + 1)
        (λ e. there (neq (i / w) n) (eqb-false (i % w + 1) w n') (eqb-false (A i) 0 z)
        (eqb-true (A (i - w + 1)) (A i) e)) (λ _. here))))
      where
        there : 1 ≤ i / w → (i % w + 1 ≡ w → ⊥) → (A i ≡ 0 → ⊥) → A (i - w + 1) ≡ A i → P (i - w + 2)
        there k k' z e =
            let d = up_right_at i k (omega (arith, x< i)) in
            near (i - w + 1) (i - w + 2) (omega arith) (omega (arith, w≤ i k, x< i))
            (record {
              like = e;
              right = omega (arith, d.0);
              left = omega (arith, d.0);
              down = omega
                  (arith, d.1);
              up = omega (arith, d.1);
              straight = λ q. absurd (z (sym e ∙ q));
            })

    -- no mate is later than the point
    pub outer_le : outer_mate A w h i ≤ i + 1
    unfolding outer_mate
    outer_le = cond_both (λ n. n ≤ i + 1) (eqb (A i) 0) _ (i + 1) (λ _. cond_both (λ n. n ≤ i + 1)
        (edge_at (i % w) (i / w) w h) 0 (i + 1) (λ _. omega arith) (λ _. omega arith)) (λ _. omega arith)

    pub left_le : left_mate A w i ≤ i + 1
    unfolding left_mate
    left_le = cond_both (λ n. n ≤ i + 1) (eqb (i % w) 0) (i + 1) _ (λ _. omega arith)
        (λ _. cond_both (λ n. n ≤ i + 1) (eqb (A (i - 1)) (A i)) i (i + 1) (λ _. omega arith)
        (λ _. omega arith))

    pub up_le : up_mate A w i ≤ i + 1
    unfolding up_mate
    up_le = cond_both (λ n. n ≤ i + 1) (eqb (i / w) 0) (i + 1) _ (λ _. omega arith)
        (λ _. cond_both (λ n. n ≤ i + 1) (eqb (A (i - w)) (A i)) (i - w + 1) (i + 1) (λ _. omega arith)
        (λ _. omega arith))

    pub up_left_le : up_left_mate A w i ≤ i + 1
    unfolding up_left_mate
    up_left_le =
        cond_both Q (eqb (i / w) 0) (i + 1) _ (λ _. omega arith)
        (λ _. cond_both Q (eqb (i % w) 0) (i + 1) _ (λ _. omega arith) (λ _. cond_both Q (eqb (A i) 0) (i + 1)
        _ (λ _. omega arith) (λ _. cond_both Q (eqb (A (i - w - 1)) (A i)) (i - w) (i + 1)
        (λ _. omega arith) (λ _. omega arith))))
      where
        Q : ℕ → Type 0
        Q n = n ≤ i + 1

    pub up_right_le : up_right_mate A w i ≤ i + 1
    unfolding up_right_mate
    up_right_le =
        cond_both (λ n. n ≤ i + 1) (eqb (i / w) 0) (i + 1) _ (λ _. omega arith)
        (λ n. cond_both (λ n. n ≤ i + 1) (eqb (i % w + 1) w) (i + 1) _ (λ _. omega arith)
        (λ _. cond_both (λ n. n ≤ i + 1) (eqb (A i) 0) (i + 1) _ (λ _. omega arith)
        (λ _. cond_both (λ n. n ≤ i + 1) (eqb (A (i - w + 1)) (A i)) (i - w + 2) (i + 1)
        (λ _. omega (arith, w≤ i (neq (i / w) n), some)) (λ _. omega arith))))

-- of two neighbours the earlier is a mate of the later
pub data Mate (w h : ℕ) (A : ℕ → ℕ) (q n : ℕ) : Type 0 where
  by_outer : outer_mate A w h q ≡ n → Mate w h A q n
  by_left : left_mate A w q ≡ n → Mate w h A q n
  by_up : up_mate A w q ≡ n → Mate w h A q n
  by_up_left : up_left_mate A w q ≡ n → Mate w h A q n
  by_up_right : up_right_mate A w q ≡ n → Mate w h A q n

module _ (w h : ℕ) (A : ℕ → ℕ) (some : 0 < w) (p q : ℕ) (nb : Neighbours w A p q) (before : p < q) where
  row_le : p / w ≤ q / w
  row_le = ⊎_elim
      (λ t. absurd (omega (arith, is w h A some p, is w h A some q, x< w h A some q, mul-le-mul_right w t)))
      (λ t. t) (less_or (q / w) (p / w))

  same_row : p / w ≡ q / w → Mate w h A q (p + 1)
  unfolding left_mate
  same_row e =
      let f : p / w * w ≡ q / w * w = ap (λ n. n * w) e in
      let x : q % w ≡ p % w + 1 = omega (arith, f, is w h A some p, is w h A some q, nb.left) in
      let k : q - 1 ≡ p = omega (arith, f, x, is w h A some p, is w h A some q) in
      by_left
      (cond_false (eqb (q % w) 0) (q + 1) _ (ne_eqb (q % w) 0 (λ z. absurd (omega (arith, x, z))))
      ∙ cond_true (eqb (A (q - 1)) (A q)) q (q + 1) (eq-eqb (A (q - 1)) (A q) (ap A k ∙ nb.like))
      ∙ omega (arith, k, before))

  module _ (low : p / w < q / w) where
    row : q / w ≡ p / w + 1
    row = omega (arith, nb.up)

    rows : q / w * w ≡ p / w * w + w
    rows = ap (λ n. n * w) row ∙ omega arith

    not_top : eqb (q / w) 0 ≡ false
    not_top = ne_eqb (q / w) 0 (λ z. absurd (omega (arith, row, z)))

    straight_up : p % w ≡ q % w → Mate w h A q (p + 1)
    unfolding up_mate
    straight_up x =
        let k : q - w ≡ p = omega (arith, rows, x, is w h A some p, is w h A some q) in
        by_up
        (cond_false (eqb (q / w) 0) (q + 1) _ not_top ∙ cond_true (eqb (A (q - w)) (A q)) (q - w + 1) (q + 1)
        (eq-eqb (A (q - w)) (A q) (ap A k ∙ nb.like)) ∙ ap (λ n. n + 1) k)

    echo : (p % w ≡ q % w → ⊥) → eqb (A q) 0 ≡ false
    echo ne = ne_eqb (A q) 0 (λ z. no_way (nb.straight (nb.like ∙ z)))
      where
        no_way : Straight w p q → ⊥
        no_way (one_column e) = ne e
        no_way (one_row e) = absurd (omega (arith, e, low))

    slant_left : p % w < q % w → Mate w h A q (p + 1)
    unfolding up_left_mate
    slant_left t =
        let k : q - w - 1 ≡ p = omega (arith, rows, t, nb.left, is w h A some p, is w h A some q) in
        by_up_left
        (cond_false (eqb (q / w) 0) (q + 1) _ not_top
        ∙ cond_false (eqb (q % w) 0) (q + 1) _ (ne_eqb (q % w) 0 (λ z. absurd (omega (arith, t, z))))
        ∙ cond_false (eqb (A q) 0) (q + 1) _ (echo (λ e. absurd (omega (arith, t, e))))
        ∙ cond_true (eqb (A (q - w - 1)) (A q)) (q - w) (q + 1) (eq-eqb (A (q - w - 1)) (A q) (ap A k
        ∙ nb.like))
        ∙ omega (arith, rows, t, nb.left, is w h A some p, is w h A some q))

    slant_right : q % w < p % w → Mate w h A q (p + 1)
    unfolding up_right_mate
    slant_right t =
        let k : q - w + 1 ≡ p = omega (arith, rows, t, nb.right, is w h A some p, is w h A some q) in
        by_up_right
        (cond_false (eqb (q / w) 0) (q + 1) _ not_top
        ∙ cond_false (eqb (q % w + 1) w) (q + 1) _
        (ne_eqb (q % w + 1) w (λ z. absurd (omega (arith, t, z, x< w h A some p))))
        ∙ cond_false (eqb (A q) 0) (q + 1) _ (echo (λ e. absurd (omega (arith, t, e))))
        ∙ cond_true (eqb (A (q - w + 1)) (A q)) (q - w + 2) (q + 1) (eq-eqb (A (q - w + 1)) (A q) (ap A k
        ∙ nb.like))
        ∙ omega (arith, k))

  pub neighbour_mate : Mate w h A q (p + 1)
  neighbour_mate =
      ⊎_elim (λ low. ⊎_elim (slant_left low) (λ t. ⊎_elim (slant_right low)
      (λ t'. straight_up low (omega arith)) (less_or (q % w) (p % w))) (less_or (p % w) (q % w)))
      (λ t. same_row (omega (arith, row_le))) (less_or (p / w) (q / w))

pub edge_mate : (w h : ℕ) (A : ℕ → ℕ) (p : ℕ) → A p ≡ 0 → Edge w h p → outer_mate A w h p ≡ 0
unfolding outer_mate
edge_mate w h A p z e =
    cond_true (eqb (A p) 0) _ (p + 1) (eq-eqb (A p) 0 z) ∙ cond_true (edge_at (p % w) (p / w) w h) 0 (p + 1)
    (at e)
  where
    one : (a b c d : Bool) → a ≡ true → cond a true (cond b true (cond c true d)) ≡ true
    one a b c d q = ap (λ t. cond t true (cond b true (cond c true d))) q

    any : (a : Bool) (b : Bool) → b ≡ true → cond a true b ≡ true
    any true b q = refl
    any false b q = q

    at : Edge w h p → edge_at (p % w) (p / w) w h ≡ true
    at (first_column q) = one (eqb (p % w) 0) (eqb (p % w + 1) w) (eqb (p / w) 0) (eqb (p / w + 1) h)
        (eq-eqb (p % w) 0 q)
    at (last_column q) =
        any (eqb (p % w) 0) _ (ap (λ t. cond t true (cond (eqb (p / w) 0) true (eqb (p / w + 1) h)))
        (eq-eqb (p % w + 1) w q))
    at (first_row q) =
        any (eqb (p % w) 0) _ (any (eqb (p % w + 1) w) _ (ap (λ t. cond t true (eqb (p / w + 1) h))
        (eq-eqb (p / w) 0 q)))
    at (last_row q) =
        any (eqb (p % w) 0) _ (any (eqb (p % w + 1) w) _ (any (eqb (p / w) 0) _ (eq-eqb (p / w + 1) h q)))

pub neighbours_back : (w : ℕ) (A : ℕ → ℕ) (p q : ℕ) → Neighbours w A p q → Neighbours w A q p
neighbours_back w A p q n =
    record {
      like = sym n.like;
      right = n.left;
      left = n.right;
      down = n.up;
      up = n.down;
      straight =
          λ z. turn (n.straight (n.like ∙ z));
    }
  where
    turn : Straight w p q → Straight w q p
    turn (one_column e) = one_column (sym e)
    turn (one_row e) = one_row (sym e)
