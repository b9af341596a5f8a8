-- A place moved by plus - minus, one of 0, 1, .., n - 1 or not.
use Prim.Native.Nat.{ℕ, ◌+◌, ◌-◌, ◌≤◌, ◌<◌, min}
use mathlib.Core.Path.{◌≡◌, refl, sym, ap, ◌∙◌, subst}
use mathlib.Core.Bool.{Bool, true, false, cond, ◌&&◌}
use mathlib.Core.Logic.{⊎_elim}
use native.Mathlib.Omega.{arith}
use lib.Dec.{T, ltb, leb, ltb→lt}
use borrow.Author.Tests.{lt-ltb, le-ltb, le-leb, lt-leb}
use Rattle.basics.proofs.Truth.{and_parts}
use Rattle.basics.proofs.SliceParts.{below_or_not}
use Rattle.morphology.specs.Operations.{moved, within}
use Rattle.rows.specs.Steps.Row.{place_in}

pub within_yes : (w x p m : ℕ) → m ≤ x + p → x + p - m < w → within w x p m ≡ true
within_yes w x p m h k = ap (λ b. b && ltb (x + p - m) w) (le-leb m (x + p) h) ∙ lt-ltb (x + p - m) w k

pub within_low : (w x p m : ℕ) → x + p < m → within w x p m ≡ false
within_low w x p m h = ap (λ b. b && ltb (x + p - m) w) (lt-leb m (x + p) h)

pub within_high : (w x p m : ℕ) → m ≤ x + p → w ≤ x + p - m → within w x p m ≡ false
within_high w x p m h k = ap (λ b. b && ltb (x + p - m) w) (le-leb m (x + p) h) ∙ le-ltb (x + p - m) w k

pub within_inside : (w x p m : ℕ) → T (within w x p m) → x + p - m < w
within_inside w x p m e =
    ltb→lt (x + p - m) w (and_parts (leb m (x + p)) (ltb (x + p - m) w) e).1

-- ---- as the code finds it
module _ (n p plus minus : ℕ) where
  pub place_low : p + plus < minus → n ≡ place_in n p plus minus
  unfolding place_in
  place_low l = ap (λ b. cond b (moved p plus minus) n) (sym (within_low n p plus minus l))

  pub place_other : (v : ℕ) → minus ≤ p + plus → v ≡ min (p + plus - minus) n → v ≡ place_in n p plus minus
  unfolding place_in
  place_other v l e =
      ⊎_elim
      (λ k. lesser_left v _ n e k
      ∙ ap (λ b. cond b (moved p plus minus) n) (sym (within_yes n p plus minus l k)))
      (λ k. lesser_right v _ n e k
      ∙ ap (λ b. cond b (moved p plus minus) n) (sym (within_high n p plus minus l k)))
      (below_or_not (p + plus - minus) n)
    where
      lesser_left : (v a b : ℕ) → v ≡ min a b → a < b → v ≡ a
      lesser_left v a b e l = omega arith

      lesser_right : (v a b : ℕ) → v ≡ min a b → b ≤ a → v ≡ b
      lesser_right v a b e l = omega arith

-- ---- and what it tells
first_left : (b : Bool) (v m n : ℕ) → v ≡ cond b m n → (b ≡ true → m < n) → n ≤ v → b ≡ false
first_left true v m n e k l = let q = k refl in absurd (omega arith)
first_left false v m n e k l = refl

first_taken : (b : Bool) (v m n : ℕ) → v ≡ cond b m n → v < n → (b ≡ true) × (v ≡ m)
first_taken true v m n e l = (refl, e)
first_taken false v m n e l = absurd (omega arith)

module _ (n p plus minus v : ℕ) (e : v ≡ place_in n p plus minus) where
  pub place_out : n ≤ v → within n p plus minus ≡ false
  unfolding place_in
  place_out l =
      first_left (within n p plus minus) v (moved p plus minus) n
      e (λ q. within_inside n p plus minus (subst T (sym q) tt)) l

  pub place_in_lem : v < n → (within n p plus minus ≡ true) × (v ≡ moved p plus minus)
  unfolding place_in
  place_in_lem l = first_taken (within n p plus minus) v (moved p plus minus) n e l
