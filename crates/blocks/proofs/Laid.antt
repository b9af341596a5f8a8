-- A list with some of its elements set anew: element by element, as a loop sets them, and one part after
-- another.
use Prim.Native.Nat.{ℕ, ◌+◌, ◌-◌, ◌≤◌, ◌<◌}
use mathlib.Core.Path.{◌≡◌, refl, sym, ap, ap₂, ◌∙◌, subst}
use mathlib.Core.Bool.{cond, ◌&&◌, and-false}
use mathlib.Core.List.{List, ◌++◌}
use mathlib.Core.Logic.{◌⊎◌, inl, inr, ⊎_elim}
use native.Mathlib.Omega.{arith}
use native.Mathlib.Nat.{eq-or-lt_of_le}
use lib.Dec.{leb, ltb}
use borrow.Author.Tests.{lt-ltb, le-ltb, le-leb, lt-leb}
use lib.ListN.{length, get_or, set, length-set, drop}
use lib.Seq.{get_or-set_same, get_or-set_other}
use borrow.Rule.Slice.PartMut.{put_mid}
use Rattle.basics.specs.Lists.{firsts}
use Rattle.basics.proofs.Lists.{length_firsts, get_d_firsts, list_is}
use Rattle.basics.proofs.SliceParts.{below_or_not, put_before, put_within, put_after, put_length}
use Rattle.blocks.specs.Steps.Laid.{laid_at, laid}

-- ---- at one place
pub at_in : (a n : ℕ) (f g : ℕ → ℕ) (i : ℕ) → a ≤ i → i < a + n → laid_at a n f g i ≡ f (i - a)
unfolding laid_at
at_in a n f g i h k = ap (λ b. cond b (f (i - a)) (g i)) (ap₂ ◌&&◌ (le-leb a i h) (lt-ltb i (a + n) k))

pub at_before : (a n : ℕ) (f g : ℕ → ℕ) (i : ℕ) → i < a → laid_at a n f g i ≡ g i
unfolding laid_at
at_before a n f g i h = ap (λ b. cond (b && ltb i (a + n)) (f (i - a)) (g i)) (lt-leb a i h)

pub at_after : (a n : ℕ) (f g : ℕ → ℕ) (i : ℕ) → a + n ≤ i → laid_at a n f g i ≡ g i
unfolding laid_at
at_after a n f g i h =
    ap (λ b. cond (leb a i && b) (f (i - a)) (g i)) (le-ltb i (a + n) h)
    ∙ ap (λ b. cond b (f (i - a)) (g i)) (and-false (leb a i))

-- before, within or after the n places from a on
pub where_is : (a n i : ℕ) → (i < a) ⊎ (((a ≤ i) × (i < a + n)) ⊎ (a + n ≤ i))
where_is a n i =
    ⊎_elim (λ h. inl h) (λ h. inr (⊎_elim (λ k. inl (h, k)) (λ k. inr k) (below_or_not i (a + n))))
    (below_or_not i a)

-- ---- the list
pub length_laid : (a n : ℕ) (f : ℕ → ℕ) (t : List ℕ) → length (laid a n f t) ≡ length t
unfolding laid
length_laid a n f t = length_firsts _ (length t)

pub get_in : (a n : ℕ) (f : ℕ → ℕ) (t : List ℕ) (i : ℕ) → a + n ≤ length t → i < n
    → get_or (laid a n f t) (a + i) 0 ≡ f i
unfolding laid
get_in a n f t i h k =
    get_d_firsts _ (length t) (a + i) (omega arith)
    ∙ at_in a n f (λ i. get_or t i 0) (a + i) (omega arith) (omega arith)
    ∙ ap f (back a i)
  where
    back : (a i : ℕ) → a + i - a ≡ i
    back a i = omega arith

-- where the places begin with the list
pub get_first : (n : ℕ) (f : ℕ → ℕ) (t : List ℕ) (i : ℕ) → n ≤ length t → i < n
    → get_or (laid 0 n f t) i 0 ≡ f i
unfolding laid
get_first n f t i h k =
    get_d_firsts _ (length t) i (omega arith)
    ∙ at_in 0 n f (λ i. get_or t i 0) i (omega arith) (omega arith) ∙ ap f (none i)
  where
    none : (i : ℕ) → i - 0 ≡ i
    none i = omega arith

pub get_before : (a n : ℕ) (f : ℕ → ℕ) (t : List ℕ) (i : ℕ) → i < length t → i < a → get_or (laid a n f t) i 0
    ≡ get_or t i 0
unfolding laid
get_before a n f t i h k = get_d_firsts _ (length t) i h ∙ at_before a n f (λ i. get_or t i 0) i k

pub get_after : (a n : ℕ) (f : ℕ → ℕ) (t : List ℕ) (i : ℕ) → i < length t → a + n ≤ i
    → get_or (laid a n f t) i 0 ≡ get_or t i 0
unfolding laid
get_after a n f t i h k = get_d_firsts _ (length t) i h ∙ at_after a n f (λ i. get_or t i 0) i k

-- a list that has these elements is it
pub laid_is : (a n : ℕ) (f : ℕ → ℕ) (t u : List ℕ) → length u ≡ length t
    → ((i : ℕ) → i < length t → i < a → get_or u i 0 ≡ get_or t i 0)
    → ((i : ℕ) → a + i < length t → i < n → get_or u (a + i) 0 ≡ f i)
    → ((i : ℕ) → i < length t → a + n ≤ i → get_or u i 0 ≡ get_or t i 0)
    → u ≡ laid a n f t
unfolding laid
laid_is a n f t u e before within after =
    list_is _ (length t) u e
    (λ i h. ⊎_elim
    (λ k. before i h k ∙ sym (at_before a n f (λ i. get_or t i 0) i k))
    (⊎_elim
    (λ k. ap (λ j. get_or u j 0) (on a i k.0)
    ∙ within (i - a) (omega (arith, k.0)) (omega (arith, k.0, k.1))
    ∙ sym (at_in a n f (λ i. get_or t i 0) i k.0 k.1))
    (λ k. after i h k ∙ sym (at_after a n f (λ i. get_or t i 0) i k)))
    (where_is a n i))
  where
    on : (a i : ℕ) → a ≤ i → i ≡ a + (i - a)
    on a i h = omega arith

-- ---- as a loop sets it: none, one more
pub laid_none : (a : ℕ) (f : ℕ → ℕ) (t : List ℕ) → t ≡ laid a 0 f t
laid_none a f t = laid_is a 0 f t t refl (λ i h k. refl) (λ i h k. absurd (omega arith)) (λ i h k. refl)

pub laid_more : (a n : ℕ) (f : ℕ → ℕ) (t u : List ℕ) (v : ℕ) → a + n < length t → u ≡ laid a n f t → v ≡ f n
    → set u (a + n) v ≡ laid a (n + 1) f t
laid_more a n f t u v h e q =
    let len : length u ≡ length t = ap length e ∙ length_laid a n f t in
    laid_is a (n + 1) f t (set u (a + n) v) (length-set u (a + n) v ∙ len)
    (λ i hi k. get_or-set_other u (a + n) i v 0 (λ z. absurd (omega arith)) ∙ ap (λ l. get_or l i 0) e
    ∙ get_before a n f t i hi k)
    (λ i hi k. ⊎_elim
    (λ z. ap (λ j. get_or (set u (a + n) v) (a + j) 0) z
    ∙ get_or-set_same u (a + n) v 0 (subst (λ m. a + n < m) (sym len) h) ∙ q ∙ ap f (sym z))
    (λ z. get_or-set_other u (a + n) (a + i) v 0 (λ y. absurd (omega arith)) ∙ ap (λ l. get_or l (a + i) 0) e
    ∙ get_in a n f t i (omega arith) z)
    (eq-or-lt_of_le (below_one i n k)))
    (λ i hi k. get_or-set_other u (a + n) i v 0 (λ z. absurd (omega arith)) ∙ ap (λ l. get_or l i 0) e
    ∙ get_after a n f t i hi (omega arith))
  where
    below_one : (i n : ℕ) → i < n + 1 → i ≤ n
    below_one i n h = omega arith

-- what is read of the list that the loop has not reached yet
pub still : (a n : ℕ) (f : ℕ → ℕ) (t u : List ℕ) (i : ℕ) → i < length t → a + n ≤ i → u ≡ laid a n f t
    → get_or u i 0 ≡ get_or t i 0
still a n f t u i h k e = ap (λ l. get_or l i 0) e ∙ get_after a n f t i h k

pub laid_same : (a n : ℕ) (f g : ℕ → ℕ) (t : List ℕ) → a + n ≤ length t → ((i : ℕ) → i < n → f i ≡ g i)
    → laid a n f t ≡ laid a n g t
laid_same a n f g t h each =
    laid_is a n g t (laid a n f t) (length_laid a n f t)
    (λ i hi k. get_before a n f t i hi k) (λ i hi k. get_in a n f t i h k ∙ each i k)
    (λ i hi k. get_after a n f t i hi k)

-- the whole list set anew
pub laid_whole : (n : ℕ) (f : ℕ → ℕ) (t u : List ℕ) → length t ≡ n → u ≡ laid 0 n f t → u ≡ firsts f n
laid_whole n f t u e q =
    list_is f n u (ap length q ∙ length_laid 0 n f t ∙ e)
    (λ i h. ap (λ l. get_or l i 0) q ∙ get_first n f t i (omega arith) h)

-- a part written over: the k places from a on hold what was copied there
pub laid_part : (a n k : ℕ) (f : ℕ → ℕ) (t ys : List ℕ) → k ≡ n → a + n ≤ length t → length ys ≡ n
    → ((i : ℕ) → i < n → get_or ys i 0 ≡ f i) → put_mid a k t ys ≡ laid a n f t
laid_part a n k f t ys e h len each =
    ap (λ k. put_mid a k t ys) e
    ∙ laid_is a n f t (put_mid a n t ys) (put_length a n t ys h len)
    (λ i _ l. put_before a n t ys h len i l)
    (λ i _ l. put_within a n t ys h len i l ∙ each i l)
    (λ i _ l. put_after a n t ys h len i l)

pub laid_front : (n : ℕ) (f : ℕ → ℕ) (t ys : List ℕ) → n ≤ length t → length ys ≡ n
    → ((i : ℕ) → i < n → get_or ys i 0 ≡ f i) → ys ++ drop n t ≡ laid 0 n f t
laid_front n f t ys h len each = laid_part 0 n n f t ys refl (omega arith) len each

-- one part after another: a further part, next to what was set
pub laid_next : (a n m : ℕ) (f g : ℕ → ℕ) (t u v : List ℕ) → a + n + m ≤ length t
    → u ≡ laid a n f t → v ≡ laid (a + n) m g u → ((i : ℕ) → i < m → g i ≡ f (n + i)) → v ≡ laid a (n + m) f t
laid_next a n m f g t u v h e q each =
    let len : length u ≡ length t = ap length e ∙ length_laid a n f t in
    laid_is a (n + m) f t v (ap length q ∙ length_laid (a + n) m g u ∙ len)
    (λ i hi k. ap (λ l. get_or l i 0) q ∙ get_before (a + n) m g u i (subst (λ z. i < z) (sym len) hi)
    (omega arith) ∙ ap (λ l. get_or l i 0) e ∙ get_before a n f t i hi k)
    (λ i hi k. ⊎_elim
    (λ z. ap (λ l. get_or l (a + i) 0) q
    ∙ get_before (a + n) m g u (a + i) (subst (λ z. a + i < z) (sym len) hi) (omega arith)
    ∙ ap (λ l. get_or l (a + i) 0) e ∙ get_in a n f t i (omega arith) z)
    (λ z. ap (λ l. get_or l (a + i) 0) q ∙ ap (λ j. get_or (laid (a + n) m g u) j 0) (split a n i z)
    ∙ get_in (a + n) m g u (i - n) (subst (λ z. a + n + m ≤ z) (sym len) h) (omega arith)
    ∙ each (i - n) (omega arith) ∙ ap f (whole n i z))
    (below_or_not i n))
    (λ i hi k. ap (λ l. get_or l i 0) q ∙ get_after (a + n) m g u i (subst (λ z. i < z) (sym len) hi)
    (omega arith) ∙ ap (λ l. get_or l i 0) e ∙ get_after a n f t i hi (omega arith))
  where
    split : (a n i : ℕ) → n ≤ i → a + i ≡ a + n + (i - n)
    split a n i h = omega arith

    whole : (n i : ℕ) → n ≤ i → n + (i - n) ≡ i
    whole n i h = omega arith

-- a further part c that may lie over what was set, with the same elements
pub laid_over : (F : ℕ → ℕ) (a i m : ℕ) (t u v c : List ℕ) → i ≤ a → a ≤ i + m → i + m ≤ length t
    → u ≡ laid 0 a F t → c ≡ firsts (λ j. F (i + j)) m → v ≡ laid i m (λ j. get_or c j 0) u
    → v ≡ laid 0 (i + m) F t
laid_over F a i m t u v c near reach fits eu ec ev =
    let len : length u ≡ length t = ap length eu ∙ length_laid 0 a F t in
    laid_is 0 (i + m) F t v (ap length ev ∙ length_laid i m _ u ∙ len)
    (λ j h k. absurd (omega arith))
    (λ j h k. ap (λ x. get_or v x 0) (none j) ∙ ap (λ l. get_or l j 0) ev ∙ ⊎_elim
    (λ b. get_before i m _ u j (omega (arith, len, h)) b ∙ ap (λ l. get_or l j 0) eu
    ∙ get_first a F t j (omega arith) (omega (arith, b)))
    (λ b. ap (λ x. get_or (laid i m (λ j. get_or c j 0) u) x 0) (on i j b)
    ∙ get_in i m _ u (j - i) (omega (arith, len)) (omega (arith, b, k))
    ∙ ap (λ l. get_or l (j - i) 0) ec ∙ get_d_firsts _ m (j - i) (omega (arith, b, k))
    ∙ ap F (sym (on i j b)))
    (below_or_not j i))
    (λ j h k. ap (λ l. get_or l j 0) ev ∙ get_after i m _ u j (omega (arith, len, h)) (omega (arith, k))
    ∙ ap (λ l. get_or l j 0) eu ∙ get_after 0 a F t j h (omega (arith, k)))
  where
    none : (j : ℕ) → 0 + j ≡ j
    none j = omega arith

    on : (i j : ℕ) → i ≤ j → j ≡ i + (j - i)
    on i j h = omega arith

-- ---- a block of n places, set anew from its first on
module _ (n : ℕ) (f : ℕ → ℕ) (a c : List ℕ) (i : ℕ) (len : length a ≡ n) (so : c ≡ laid 0 i f a) where
  pub block_more : (v : ℕ) → i < n → v ≡ f i → set c i v ≡ laid 0 (i + 1) f a
  block_more v h e =
      ap (λ j. set c j v) (zero_plus i) ∙ laid_more 0 i f a c v
      (subst (λ m. 0 + i < m) (sym len) (omega arith)) so e
    where
      zero_plus : (i : ℕ) → i ≡ 0 + i
      zero_plus i = omega arith

  pub block_still : i < n → get_or c i 0 ≡ get_or a i 0
  block_still h = still 0 i f a c i (subst (λ m. i < m) (sym len) h) (omega arith) so

  pub block_done : i ≡ n → c ≡ firsts f n
  block_done e = laid_whole n f a c len (so ∙ ap (λ j. laid 0 j f a) e)
