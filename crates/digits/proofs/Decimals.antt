-- A number in decimal, by how many digits it has.
use Prim.Native.Nat.{ℕ, ◌-◌, ◌/◌, ◌≤◌, ◌<◌}
use mathlib.Core.Path.{◌≡◌, refl, ◌∙◌}
use mathlib.Core.Bool.{Bool, true, false, cond}
use mathlib.Core.List.{List, [], ◌∷◌}
use native.Mathlib.Omega.{arith}
use borrow.Author.Tests.{lt-ltb, le-ltb}
use lib.Dec.{ltb}
use lib.ListN.{length, take, drop}
use Rattle.basics.proofs.Lists.{tail_is}
use Rattle.digits.specs.Decimal.{digit, decimal}

-- one digit, two, three or four
module _ (n : ℕ) where
  pub one_digit : n < 10 → length (decimal n) ≡ 1
  unfolding decimal
  one_digit h = simp (lt-ltb n 10 h)

  pub two_digits : 10 ≤ n → n < 100 → length (decimal n) ≡ 2
  unfolding decimal
  two_digits l h = simp (le-ltb n 10 l, lt-ltb n 100 h)

  pub three_digits : 10 ≤ n → 100 ≤ n → n < 1000 → length (decimal n) ≡ 3
  unfolding decimal
  three_digits k l h = simp (le-ltb n 10 k, le-ltb n 100 l, lt-ltb n 1000 h)

  pub four_digits : 10 ≤ n → 100 ≤ n → 1000 ≤ n → length (decimal n) ≡ 4
  unfolding decimal
  four_digits k l h = simp (le-ltb n 10 k, le-ltb n 100 l, le-ltb n 1000 h)

-- at most so many
cond_most : (b : Bool) (s t : List ℕ) (k : ℕ) → length s ≤ k → length t ≤ k → length (cond b s t) ≤ k
cond_most true s t k p q = p
cond_most false s t k p q = q

module _ (n : ℕ) where
  pub most_two : n < 100 → length (decimal n) ≤ 2
  unfolding decimal
  most_two h = simp (lt-ltb n 100 h) (cond_most (ltb n 10) _ _ 2 (omega arith) (omega arith))

  pub most_three : n < 1000 → length (decimal n) ≤ 3
  unfolding decimal
  most_three h =
      simp (lt-ltb n 1000 h)
      (cond_most (ltb n 10) _ _ 3 (omega arith) (cond_most (ltb n 100) _ _ 3 (omega arith) (omega arith)))

  pub most_four : length (decimal n) ≤ 4
  unfolding decimal
  most_four =
      cond_most (ltb n 10) _ _ 4 (omega arith)
      (cond_most (ltb n 100) _ _ 4 (omega arith) (cond_most (ltb n 1000) _ _ 4 (omega arith) (omega arith)))

-- of four digits the last ones
abbrev some : (a b c : Bool) (m k x i : ℕ) → List ℕ
some a b c m k x i = cond a (i ∷ []) (cond b (x ∷ i ∷ []) (cond c (k ∷ x ∷ i ∷ []) (m ∷ k ∷ x ∷ i ∷ [])))

lasts : (a b c : Bool) (m k x i : ℕ)
    → drop (4 - length (some a b c m k x i)) (m ∷ k ∷ x ∷ i ∷ []) ≡ some a b c m k x i
lasts true b c m k x i = refl
lasts false true c m k x i = refl
lasts false false true m k x i = refl
lasts false false false m k x i = refl

pub last_digits : (n r m k x i : ℕ) → r ≡ length (decimal n) → m ≡ digit (n / 1000) → k ≡ digit (n / 100)
    → x ≡ digit (n / 10) → i ≡ digit n → take (4 - (4 - r)) (drop (4 - r) (m ∷ k ∷ x ∷ i ∷ [])) ≡ decimal n
unfolding decimal
last_digits n r m k x i e em ek ex ei =
    tail_is (m ∷ k ∷ x ∷ i ∷ []) (4 - r)
    ∙ cc (lasts (ltb n 10) (ltb n 100) (ltb n 1000)
    (digit (n / 1000)) (digit (n / 100)) (digit (n / 10)) (digit n))
