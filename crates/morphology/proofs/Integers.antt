-- Integers as differences of naturals: sums, equations and orders of differences are linear in ℕ.
use Prim.Native.Nat.{ℕ, zero, suc, ◌+◌, ◌-◌, ◌≤◌, ◌<◌}
use mathlib.Core.Path.{◌≡◌, refl, sym, ap, ap₂, ◌∙◌, subst, subst₂}
use mathlib.Core.Bool.{Bool, true, false, not, cond}
use mathlib.Core.Logic.{◌↔◌, ⊎_elim}
use native.Mathlib.Nat.{le_antisymm}
use native.Mathlib.Omega.{arith}
use lib.Dec.{T, leb, ltb, leb→le, le→leb, nleb→lt, ltb→lt, nltb→le, not_T}
use lib.IntN.{ℤ, pos, negsuc, sub_ℕ, neg_ℤ, ◌+ℤ◌}
use lib.Signed.{le_z, lt_z, ◌≤ℤ◌, ◌<ℤ◌, le_z_yes, lt_z_yes, lt_z_no, ≤ℤ_refl, clash_ℤ}
use Rattle.basics.proofs.Truth.{decided}

-- a - b is below 0 or it is not
data Form (a b : ℕ) (z : ℤ) : Type 0 where
  below : a < b → z ≡ negsuc (b - suc a) → Form a b z
  above : b ≤ a → z ≡ pos (a - b) → Form a b z

form : (a b : ℕ) → Form a b (sub_ℕ a b)
form a b = by (ltb a b) (λ t. ltb→lt a b t) (λ t. nltb→le a b t)
  where
    by : (t : Bool) → (T t → a < b) → (T (not t) → b ≤ a)
        → Form a b (cond t (negsuc (b - suc a)) (pos (a - b)))
    by true f g = below (f tt) refl
    by false f g = above (g tt) refl

pub sub_eq : (a b c d : ℕ) → a + d ≡ c + b → sub_ℕ a b ≡ sub_ℕ c d
sub_eq a b c d h = by (form a b) (form c d)
  where
    by : Form a b (sub_ℕ a b) → Form c d (sub_ℕ c d) → sub_ℕ a b ≡ sub_ℕ c d
    by (below l p) (below k q) = let e : b - suc a ≡ d - suc c = omega arith in p ∙ (ap negsuc e ∙ sym q)
    by (below l p) (above k q) = absurd (omega arith)
    by (above l p) (below k q) = absurd (omega arith)
    by (above l p) (above k q) = let e : a - b ≡ c - d = omega arith in p ∙ (ap pos e ∙ sym q)

module _ (a b c d : ℕ) where
  sub_le_test : T (le_z (sub_ℕ a b) (sub_ℕ c d)) → a + d ≤ c + b
  sub_le_test t = by (form a b) (form c d)
    where
      by : Form a b (sub_ℕ a b) → Form c d (sub_ℕ c d) → a + d ≤ c + b
      by (below l p) (below k q) =
          let h = leb→le (d - suc c) (b - suc a) (subst₂ (λ (x y : ℤ). T (le_z x y)) p q t) in
          omega arith
      by (below l p) (above k q) = omega arith
      by (above l p) (below k q) = absurd (subst₂ (λ (x y : ℤ). T (le_z x y)) p q t)
      by (above l p) (above k q) = let h =
          leb→le (a - b) (c - d) (subst₂ (λ (x y : ℤ). T (le_z x y)) p q t) in
          omega arith

  le_sub_test : a + d ≤ c + b → T (le_z (sub_ℕ a b) (sub_ℕ c d))
  le_sub_test h = by (form a b) (form c d)
    where
      by : Form a b (sub_ℕ a b) → Form c d (sub_ℕ c d) → T (le_z (sub_ℕ a b) (sub_ℕ c d))
      by (below l p) (below k q) =
          subst₂ (λ (x y : ℤ). T (le_z x y)) (sym p) (sym q) (le→leb (d - suc c) (b - suc a) (omega arith))
      by (below l p) (above k q) = subst₂ (λ (x y : ℤ). T (le_z x y)) (sym p) (sym q) tt
      by (above l p) (below k q) = absurd (omega arith)
      by (above l p) (above k q) =
          subst₂ (λ (x y : ℤ). T (le_z x y)) (sym p) (sym q) (le→leb (a - b) (c - d) (omega arith))

  pub sub_le : sub_ℕ a b ≤ℤ sub_ℕ c d → a + d ≤ c + b
  sub_le h = sub_le_test h.le

  pub le_sub : a + d ≤ c + b → sub_ℕ a b ≤ℤ sub_ℕ c d
  le_sub h = le_z_yes (le_sub_test h)

-- less is not at least
pub sub_lt : (a b c d : ℕ) → sub_ℕ a b <ℤ sub_ℕ c d → a + d < c + b
sub_lt a b c d h =
    ⊎_elim (λ t. clash_ℤ h (le_sub c d a b (leb→le (c + b) (a + d) t)))
    (λ n. nleb→lt (c + b) (a + d) (not_T (leb (c + b) (a + d)) n)) (decided (leb (c + b) (a + d)))

pub lt_sub : (a b c d : ℕ) → a + d < c + b → sub_ℕ a b <ℤ sub_ℕ c d
lt_sub a b c d h =
    ⊎_elim (λ t. lt_z_yes t)
    (λ n. let k = sub_le c d a b (lt_z_no (not_T (lt_z (sub_ℕ a b) (sub_ℕ c d)) n)) in absurd (omega arith))
    (decided (lt_z (sub_ℕ a b) (sub_ℕ c d)))

pub sub_same : (a b c d : ℕ) → sub_ℕ a b ≡ sub_ℕ c d → a + d ≡ c + b
sub_same a b c d e =
    le_antisymm (sub_le a b c d (subst (λ (z : ℤ). sub_ℕ a b ≤ℤ z) e (≤ℤ_refl (sub_ℕ a b))))
    (sub_le c d a b (subst (λ (z : ℤ). z ≤ℤ sub_ℕ a b) e (≤ℤ_refl (sub_ℕ a b))))

pub pos_is : (n : ℕ) → pos n ≡ sub_ℕ n 0
pos_is n = by (form n 0)
  where
    by : Form n 0 (sub_ℕ n 0) → pos n ≡ sub_ℕ n 0
    by (below l p) = absurd (omega arith)
    by (above l p) = let e : n ≡ n - 0 = omega arith in ap pos e ∙ sym p

pub negsuc_is : (n : ℕ) → negsuc n ≡ sub_ℕ 0 (suc n)
negsuc_is n = by (form 0 (suc n))
  where
    by : Form 0 (suc n) (sub_ℕ 0 (suc n)) → negsuc n ≡ sub_ℕ 0 (suc n)
    by (below l p) = let e : n ≡ suc n - 1 = omega arith in ap negsuc e ∙ sym p
    by (above l p) = absurd (omega arith)

pub sub_add : (a b c d : ℕ) → sub_ℕ a b +ℤ sub_ℕ c d ≡ sub_ℕ (a + c) (b + d)
sub_add a b c d = by (form a b) (form c d)
  where
    by : Form a b (sub_ℕ a b) → Form c d (sub_ℕ c d) → sub_ℕ a b +ℤ sub_ℕ c d ≡ sub_ℕ (a + c) (b + d)
    by (below l p) (below k q) =
        ap₂ ◌+ℤ◌ p q ∙ (negsuc_is (suc (b - suc a + (d - suc c)))
        ∙ sub_eq 0 (suc (suc (b - suc a + (d - suc c)))) (a + c) (b + d) (omega arith))
    by (below l p) (above k q) = ap₂ ◌+ℤ◌ p q ∙ sub_eq (c - d) (suc (b - suc a)) (a + c) (b + d) (omega arith)
    by (above l p) (below k q) = ap₂ ◌+ℤ◌ p q ∙ sub_eq (a - b) (suc (d - suc c)) (a + c) (b + d) (omega arith)
    by (above l p) (above k q) =
        ap₂ ◌+ℤ◌ p q ∙ (pos_is (a - b + (c - d)) ∙ sub_eq (a - b + (c - d)) 0 (a + c) (b + d) (omega arith))

pub sub_neg : (a b : ℕ) → neg_ℤ (sub_ℕ a b) ≡ sub_ℕ b a
sub_neg a b = by (form a b)
  where
    neg_pos : (n : ℕ) → neg_ℤ (pos n) ≡ sub_ℕ 0 n
    neg_pos zero = refl
    neg_pos (suc n) = negsuc_is n

    by : Form a b (sub_ℕ a b) → neg_ℤ (sub_ℕ a b) ≡ sub_ℕ b a
    by (below l p) = ap neg_ℤ p ∙ (pos_is (suc (b - suc a)) ∙ sub_eq (suc (b - suc a)) 0 b a (omega arith))
    by (above l p) = ap neg_ℤ p ∙ (neg_pos (a - b) ∙ sub_eq 0 (a - b) b a (omega arith))

-- q = p + (c - o)
pub sub_moves : (p q c o : ℕ) → (pos q ≡ pos p +ℤ sub_ℕ c o) ↔ (q + o ≡ p + c)
sub_moves p q c o =
    let sum : pos p +ℤ sub_ℕ c o ≡ sub_ℕ (p + c) (0 + o) =
    ap (λ z. z +ℤ sub_ℕ c o) (pos_is p) ∙ sub_add p 0 c o in (
      λ e. let k = sub_same q 0 (p + c) (0 + o) (sym (pos_is q) ∙ (e ∙ sum)) in omega arith,
      λ e. pos_is q ∙ (sub_eq q 0 (p + c) (0 + o) (omega arith) ∙ sym sum),
    )
