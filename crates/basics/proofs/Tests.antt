-- A test over all numbers below n, as a loop makes it:
-- nothing tested, one more that passes, one that stops it, all tested.
use Prim.Native.Nat.{ℕ, zero, suc, ◌+◌, ◌-◌, ◌<◌}
use mathlib.Core.Path.{◌≡◌, refl, sym, ap, ap₂, ◌∙◌}
use mathlib.Core.Bool.{Bool, true, false, cond, ◌&&◌, and-false}
use mathlib.Core.Logic.{⊎_elim}
use native.Mathlib.Omega.{arith}
use native.Mathlib.Numerals.{add-one}
use native.Mathlib.Nat.{not-suc-le-zero, le_of_suc-le-suc, eq-or-lt_of_le}
use Rattle.basics.specs.Tests.{all}

-- both parts of a test that passed
pub both : (a b : Bool) → a && b ≡ true → (a ≡ true) × (b ≡ true)
both true b e = (refl, e)
both false b e = let z : ◌≡◌ {A = ℕ} 0 1 = cc in absurd (omega arith)

-- a choice of equals, where each is chosen
pub cond_same : {A : Type 0} (b : Bool) (x x' y y' : A) → (b ≡ true → x ≡ x') → (b ≡ false → y ≡ y')
    → cond b x y ≡ cond b x' y'
cond_same true x x' y y' e f = e refl
cond_same false x x' y y' e f = f refl

module _ (p : ℕ → Bool) where
  pub all_none : all p 0 ≡ true
  unfolding all
  all_none = refl

  pub all_more : (n : ℕ) → all p n ≡ true → p n ≡ true → all p (n + 1) ≡ true
  unfolding all
  all_more n e q = rw (add-one n) (ap₂ ◌&&◌ e q)

  -- what failed once has failed
  later : (k n : ℕ) → all p n ≡ false → all p (k + n) ≡ false
  unfolding all
  later zero n e = ap (all p) (zero_plus n) ∙ e
    where
      zero_plus : (n : ℕ) → 0 + n ≡ n
      zero_plus n = omega arith
  later (suc k) n e = ap (all p) (suc_plus k n) ∙ ap (λ b. b && p (k + n)) (later k n e)
    where
      suc_plus : (k n : ℕ) → suc k + n ≡ suc (k + n)
      suc_plus k n = omega arith

  pub all_stop : (i n : ℕ) → i < n → p i ≡ false → all p n ≡ false
  unfolding all
  all_stop i n h q =
      ap (all p) (split i n h) ∙ later (n - suc i) (suc i) (ap (λ b. all p i && b) q ∙ and-false (all p i))
    where
      split : (i n : ℕ) → i < n → n ≡ (n - suc i) + suc i
      split i n h = omega arith

  pub all_done : (i n : ℕ) → i ≡ n → all p i ≡ true → all p n ≡ true
  all_done i n e q = ap (all p) (sym e) ∙ q

  -- what holds of all holds of each, and what holds of each of all
  pub all_at : (n : ℕ) → all p n ≡ true → (i : ℕ) → i < n → p i ≡ true
  unfolding all
  all_at zero e i h = absurd (not-suc-le-zero h)
  all_at (suc n) e i h =
      ⊎_elim (λ q. ap p q ∙ (both (all p n) (p n) e).1)
      (λ l. all_at n (both (all p n) (p n) e).0 i l) (eq-or-lt_of_le (le_of_suc-le-suc h))

  pub all_of : (n : ℕ) → ((i : ℕ) → i < n → p i ≡ true) → all p n ≡ true
  unfolding all
  all_of zero each = refl
  all_of (suc n) each = ap₂ ◌&&◌ (all_of n (λ i h. each i (omega arith))) (each n (omega arith))

-- tests that agree on each number agree on all
pub all_same : (p q : ℕ → Bool) (n : ℕ) → ((i : ℕ) → i < n → p i ≡ q i) → all p n ≡ all q n
unfolding all
all_same p q zero each = refl
all_same p q (suc n) each = ap₂ ◌&&◌ (all_same p q n (λ i h. each i (omega arith))) (each n (omega arith))

-- a loop that tests each number: before the first, and past one more
pub ruleset walk = (all_none, all_more)
