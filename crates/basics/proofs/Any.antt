-- A test that some number below n passes.
use Prim.Native.Nat.{ℕ, zero, suc, ◌+◌, ◌<◌}
use mathlib.Core.Path.{◌≡◌, refl, sym, ap, ap₂, ◌∙◌, subst}
use mathlib.Core.Bool.{Bool, true, false}
use mathlib.Core.Logic.{◌⊎◌, inl, inr, ⊎_elim}
use native.Mathlib.Omega.{arith}
use native.Mathlib.Numerals.{add-one}
use native.Mathlib.Nat.{not-suc-le-zero, le_of_suc-le-suc, eq-or-lt_of_le}
use lib.Dec.{T}
use Rattle.basics.specs.Tests.{any}

-- ---- as a loop makes it
module _ (p : ℕ → Bool) where
  pub any_none : any p 0 ≡ false
  unfolding any
  any_none = refl

  pub any_more : (n : ℕ) → any p n ≡ false → p n ≡ false → any p (n + 1) ≡ false
  unfolding any
  any_more n e q = ap (any p) (add-one n) ∙ ap₂ (λ a b. elim a [ true ↦ true | false ↦ b ]) q e

  pub any_stop : (n i : ℕ) → i < n → p i ≡ true → any p n ≡ true
  unfolding any
  any_stop zero i h q = absurd (not-suc-le-zero h)
  any_stop (suc n) i h q =
      ⊎_elim (λ k. ap (λ a. elim a [ true ↦ true | false ↦ any p n ]) (sym (ap p k) ∙ q))
      (λ k. either (p n) (any p n) (any_stop n i k q)) (eq-or-lt_of_le (le_of_suc-le-suc h))
    where
      either : (a b : Bool) → b ≡ true → elim a [ true ↦ true | false ↦ b ] ≡ true
      either true b e = refl
      either false b e = e

  pub any_done : (i n : ℕ) → i ≡ n → any p i ≡ false → any p n ≡ false
  any_done i n e q = ap (any p) (sym e) ∙ q

pub any_same : (p q : ℕ → Bool) (n : ℕ) → ((i : ℕ) → i < n → p i ≡ q i) → any p n ≡ any q n
unfolding any
any_same p q zero each = refl
any_same p q (suc n) each =
    ap₂ (λ a b. elim a [ true ↦ true | false ↦ b ])
    (each n (omega arith)) (any_same p q n (λ i h. each i (omega arith)))

pub any_never : (p : ℕ → Bool) (n : ℕ) → ((i : ℕ) → p i ≡ false) → any p n ≡ false
unfolding any
any_never p zero each = refl
any_never p (suc n) each = ap₂ (λ a b. elim a [ true ↦ true | false ↦ b ]) (each n) (any_never p n each)

-- ---- it passes exactly where some number does
or_left : (b r : Bool) → T b → T (elim b [ true ↦ true | false ↦ r ])
or_left true r t = tt
or_left false r t = absurd t

or_right : (b r : Bool) → T r → T (elim b [ true ↦ true | false ↦ r ])
or_right true r t = tt
or_right false r t = t

or_cases : (b r : Bool) → T (elim b [ true ↦ true | false ↦ r ]) → T b ⊎ T r
or_cases true r t = inl tt
or_cases false r t = inr t

pub any_intro : (f : ℕ → Bool) (n i : ℕ) → i < n → T (f i) → T (any f n)
unfolding any
any_intro f zero i l t = absurd (not-suc-le-zero l)
any_intro f (suc n) i l t =
    ⊎_elim (λ e. or_left (f n) (any f n) (subst (λ (k : ℕ). T (f k)) e t))
    (λ lt. or_right (f n) (any f n) (any_intro f n i lt t))
    (eq-or-lt_of_le (le_of_suc-le-suc l))

pub any_elim : (f : ℕ → Bool) (n : ℕ) → T (any f n) → (i : ℕ) × (i < n) × T (f i)
unfolding any
any_elim f zero t = absurd t
any_elim f (suc n) t =
    ⊎_elim (λ h. (n, omega arith, h))
    (λ h. let k = any_elim f n h in (k.0, omega arith, k.2)) (or_cases (f n) (any f n) t)
