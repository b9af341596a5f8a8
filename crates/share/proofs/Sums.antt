-- Sums of lengths, and lists one after another.
use Prim.Native.Nat.{ℕ, zero, suc, ◌+◌, ◌≤◌, ◌<◌}
use mathlib.Core.Path.{◌≡◌, refl, sym, ap, ap₂, ◌∙◌, subst}
use mathlib.Core.Bool.{cond}
use mathlib.Core.List.{List, ◌++◌, append_assoc}
use mathlib.Core.Logic.{⊎_elim}
use native.Mathlib.Omega.{arith}
use native.Mathlib.Nat.{not-suc-le-zero, le_of_suc-le-suc, eq-or-lt_of_le}
use borrow.Author.Tests.{eq-eqb, ne_eqb}
use lib.Dec.{eqb}
use lib.ListN.{length, take, drop, length-append}
use lib.Seq.{take_at, drop_at}
use Rattle.basics.specs.Lists.{joined}
use Rattle.share.specs.Share.{sum_to}

pub sum_same : (f g : ℕ → ℕ) (n : ℕ) → ((i : ℕ) → i < n → f i ≡ g i) → sum_to f n ≡ sum_to g n
unfolding sum_to
sum_same f g zero each = refl
sum_same f g (suc n) each =
    ap₂ (λ a b. a + b) (sum_same f g n (λ i h. each i (omega arith))) (each n (omega arith))

pub sum_rises : (f : ℕ → ℕ) (n k : ℕ) → n ≤ k → sum_to f n ≤ sum_to f k
unfolding sum_to
sum_rises f n zero h = let e : n ≡ 0 = omega arith in subst (λ i. sum_to f i ≤ 0) (sym e) (omega arith)
sum_rises f n (suc k) h =
    ⊎_elim
    (λ e. subst (λ i. sum_to f i ≤ sum_to f k + f k) (sym e) (omega arith))
    (λ l. let q = sum_rises f n k (le_of_suc-le-suc l) in omega arith)
    (eq-or-lt_of_le h)

-- what stands under n lies within the sum
pub sum_within : (f : ℕ → ℕ) (n N : ℕ) → n < N → sum_to f n + f n ≤ sum_to f N
unfolding sum_to
sum_within f n N h = sum_rises f (suc n) N h

-- without f n, which is 0 in g
pub sum_others : (f : ℕ → ℕ) (n N : ℕ) → n < N → sum_to (λ i. cond (eqb i n) 0 (f i)) N + f n ≡ sum_to f N
unfolding sum_to
sum_others f n zero h = absurd (not-suc-le-zero h)
sum_others f n (suc N) h =
    ⊎_elim
    (λ e. let last : cond (eqb N n) 0 (f N) ≡ 0 = ap (λ b. cond b 0 (f N)) (eq-eqb N n (sym e)) in
    let rest = sum_same (λ i. cond (eqb i n) 0 (f i)) f N
    (λ i l. ap (λ b. cond b 0 (f i)) (ne_eqb i n (λ q. omega arith))) in
    let there : f n ≡ f N = ap f e in
    omega arith)
    (λ l. let ih = sum_others f n N l in
    let last : cond (eqb N n) 0 (f N) ≡ f N = ap (λ b. cond b 0 (f N)) (ne_eqb N n (λ q. omega arith)) in
    omega arith)
    (eq-or-lt_of_le (le_of_suc-le-suc h))

pub length_joined : (m : ℕ → List ℕ) (n : ℕ) → length (joined m n) ≡ sum_to (λ i. length (m i)) n
unfolding sum_to joined
length_joined m zero = refl
length_joined m (suc n) = length-append (joined m n) (m n) ∙ ap (λ k. k + length (m n)) (length_joined m n)

pub joined_same : (m k : ℕ → List ℕ) (n : ℕ) → ((i : ℕ) → i < n → m i ≡ k i) → joined m n ≡ joined k n
unfolding joined
joined_same m k zero each = refl
joined_same m k (suc n) each =
    ap₂ (λ a b. a ++ b) (joined_same m k n (λ i h. each i (omega arith))) (each n (omega arith))

-- list n of those that are joined, whatever follows
pub joined_part : (m : ℕ → List ℕ) (n N : ℕ) (rest : List ℕ) → n < N
    → take (length (m n)) (drop (length (joined m n)) (joined m N ++ rest)) ≡ m n
unfolding joined
joined_part m n zero rest h = absurd (not-suc-le-zero h)
joined_part m n (suc N) rest h =
    ap (λ l. take (length (m n)) (drop (length (joined m n)) l)) (append_assoc (joined m N) (m N) rest)
    ∙ ⊎_elim
    (λ e. ap (λ k. take (length (m n)) (drop (length (joined m k)) (joined m N ++ (m N ++ rest)))) e
    ∙ ap (take (length (m n))) (drop_at (joined m N) (m N ++ rest) (length (joined m N)) refl)
    ∙ ap (λ k. take (length (m n)) (m k ++ rest)) (sym e)
    ∙ take_at (m n) rest (length (m n)) refl)
    (λ l. joined_part m n N (m N ++ rest) l)
    (eq-or-lt_of_le (le_of_suc-le-suc h))
