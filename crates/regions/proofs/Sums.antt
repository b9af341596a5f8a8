-- Sums, and how often a number comes.
use Prim.Native.Nat.{ℕ, zero, suc, ◌+◌, ◌-◌, ◌*◌, ◌≤◌, ◌<◌}
use mathlib.Core.Path.{◌≡◌, refl, sym, ap, ap₂, ◌∙◌}
use mathlib.Core.Bool.{cond}
use mathlib.Core.List.{List, [], ◌∷◌, ◌++◌}
use mathlib.Core.Logic.{◌⊎◌, ⊎_elim}
use native.Mathlib.Omega.{arith}
use native.Mathlib.Numerals.{add-one}
use native.Mathlib.Nat.{zero-mul, one-mul, add-mul}
use borrow.Author.Tests.{eq-eqb, ne_eqb}
use lib.Dec.{eqb}
use lib.ListN.{length}
use Rattle.basics.specs.Lists.{joined}
use Rattle.regions.proofs.Cases.{less_or, same_or}
use Rattle.regions.specs.Once.{times}

-- f 0 + f 1 + .. + f (n - 1)
unfoldable pub sum_to : (ℕ → ℕ) → ℕ → ℕ
sum_to f zero = 0
sum_to f (suc n) = sum_to f n + f n

-- the sum of g over a list
unfoldable pub total : (ℕ → ℕ) → List ℕ → ℕ
total g [] = 0
total g (x ∷ l) = g x + total g l

-- 1 where two numbers are the same
abbrev pub is : ℕ → ℕ → ℕ
is a b = cond (eqb a b) 1 0

pub is_yes : (a b : ℕ) → a ≡ b → is a b ≡ 1
is_yes a b e = ap (λ t. cond t 1 0) (eq-eqb a b e)

pub is_no : (a b : ℕ) → (a ≡ b → ⊥) → is a b ≡ 0
is_no a b e = ap (λ t. cond t 1 0) (ne_eqb a b e)

pub sum_same : (f g : ℕ → ℕ) (n : ℕ) → ((i : ℕ) → i < n → f i ≡ g i) → sum_to f n ≡ sum_to g n
unfolding sum_to
sum_same f g zero e = refl
sum_same f g (suc n) e = ap₂ ◌+◌ (sum_same f g n (λ i h. e i (omega arith))) (e n (omega arith))

pub sum_add : (f g : ℕ → ℕ) (n : ℕ) → sum_to (λ i. f i + g i) n ≡ sum_to f n + sum_to g n
unfolding sum_to
sum_add f g zero = refl
sum_add f g (suc n) = omega (arith, sum_add f g n)

pub sum_zero : (f : ℕ → ℕ) (n : ℕ) → ((i : ℕ) → i < n → f i ≡ 0) → sum_to f n ≡ 0
unfolding sum_to
sum_zero f zero e = refl
sum_zero f (suc n) e = omega (arith, sum_zero f n (λ i h. e i (omega arith)), e n (omega arith))

-- only one of the numbers counts
pub sum_only : (f : ℕ → ℕ) (n c : ℕ) → c < n → ((i : ℕ) → i < n → (i ≡ c → ⊥) → f i ≡ 0) → sum_to f n ≡ f c
unfolding sum_to
sum_only f zero c h e = absurd (omega arith)
sum_only f (suc n) c h e =
    ⊎_elim
    (λ q. omega (arith, sum_zero f n (λ i k. e i (omega arith) (omega arith)), ap f q))
    (λ ne. omega (
      arith,
      sum_only f n c (omega arith) (λ i k. e i (omega arith)),
      e n (omega arith)
          (λ q. ne (sym q)),
    )) (same_or c n)

shift_suc : (f : ℕ → ℕ) (n : ℕ) → sum_to f (suc n) ≡ f 0 + sum_to (λ i. f (i + 1)) n
unfolding sum_to
shift_suc f zero = omega arith
shift_suc f (suc n) = omega (arith, shift_suc f n, ap f (add-one n))

pub sum_shift : (f : ℕ → ℕ) (n : ℕ) → sum_to f (n + 1) ≡ f 0 + sum_to (λ i. f (i + 1)) n
sum_shift f n = ap (sum_to f) (add-one n) ∙ shift_suc f n

pub times_append : (c : ℕ) (l m : List ℕ) → times c (l ++ m) ≡ times c l + times c m
unfolding times
times_append c [] m = omega arith
times_append c (x ∷ l) m = omega (arith, times_append c l m)

pub times_joined : (c : ℕ) (F : ℕ → List ℕ) (n : ℕ) → times c (joined F n) ≡ sum_to (λ i. times c (F i)) n
unfolding joined sum_to times
times_joined c F zero = refl
times_joined c F (suc n) = times_append c (joined F n) (F n)
    ∙ ap (λ k. k + times c (F n)) (times_joined c F n)

pub times_one : (c x : ℕ) → times c (x ∷ []) ≡ is c x
unfolding times
times_one c x = omega arith

pub times_none : (c : ℕ) → times c [] ≡ 0
unfolding times
times_none c = refl

-- a sum over a list of numbers below N
pub total_times : (g : ℕ → ℕ) (N : ℕ) (l : List ℕ) → ((c : ℕ) → N ≤ c → times c l ≡ 0)
    → total g l ≡ sum_to (λ c. times c l * g c) N
unfolding total times
total_times g N [] e = sym (sum_zero (λ c. 0 * g c) N (λ i h. zero-mul (g i)))
total_times g N (x ∷ l) e =
    ⊎_elim
    (λ h.
    ap₂ ◌+◌ (sym (sum_only (λ c. is c x * g c) N x h (λ i k ne. ap (λ t. t * g i) (is_no i x ne)
    ∙ zero-mul (g i)) ∙ ap (λ t. t * g x) (is_yes x x refl) ∙ one-mul (g x)))
    (total_times g N l (λ c k. omega (arith, e c k)))
    ∙ sym (sum_add (λ c. is c x * g c) (λ c. times c l * g c) N)
    ∙ sum_same _ _ N (λ i k. sym (add-mul (is i x) (times i l) (g i))))
    (λ h. absurd (omega (arith, e x h, is_yes x x refl))) (less_or x N)

pub length_total : (l : List ℕ) → length l ≡ total (λ _. 1) l
unfolding total
length_total [] = refl
length_total (x ∷ l) = omega (arith, length_total l)
