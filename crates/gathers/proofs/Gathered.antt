-- What stands at all places: a block of it, blocks of it one after another, and the last over the one before.
-- A list set anew at equal steps, place by place.
use Prim.Native.Nat.{ℕ, zero, suc, ◌+◌, ◌-◌, ◌*◌, ◌/◌, ◌≤◌, ◌<◌}
use mathlib.Core.Path.{◌≡◌, refl, sym, ap, ap₂, ◌∙◌, subst}
use mathlib.Core.Bool.{Bool, true, false}
use mathlib.Core.List.{List}
use mathlib.Core.Logic.{⊎_elim}
use native.Mathlib.Omega.{arith}
use native.Mathlib.Nat.{eq-or-lt_of_le, not-suc-le-zero, le_of_suc-le-suc}
use native.Mathlib.Numerals.{add-one}
use lib.ListN.{length, get_or, set, length-set}
use lib.Seq.{get_or-set_same, get_or-set_other}
use Rattle.basics.specs.Lists.{firsts}
use Rattle.basics.proofs.Lists.{get_d_firsts, firsts_same, list_is}
use Rattle.basics.proofs.SliceParts.{below_or_not}
use Rattle.picture.proofs.Sizes.{row_room}
use Rattle.morphology.specs.Operations.{fold}
use Rattle.rows.specs.Steps.Fold.{join_by}
use Rattle.blocks.specs.Steps.Laid.{laid}
use Rattle.blocks.specs.Steps.Block.{block_of}
use Rattle.blocks.proofs.Laid.{laid_is, laid_next, length_laid, get_in, get_before, get_after}
use Rattle.rooms.specs.Steps.Joined.{at_places}
use Rattle.rooms.proofs.Blocks.{places_at}
use Rattle.gathers.specs.Steps.Gathered.{at_all, stepped}

join_same : (grows : Bool) (v : ℕ) → v ≡ join_by grows v v
join_same true v = omega arith
join_same false v = omega arith

swap : (i p m : ℕ) → i + p + m ≡ i + m + p
swap i p m = omega arith

-- ---- a block: the first place as it stands, and what all of them make
module _ (grows : Bool) (s at c : List ℕ) (i p : ℕ) (ep : p ≡ get_or at 0 0)
    (ec : c ≡ block_of s (i + p)) where
  first_at : (m : ℕ) → m < 64 → get_or c m 0 ≡ get_or s (i + m + get_or at 0 0) 0
  unfolding block_of
  first_at m h =
      ap (λ l. get_or l m 0) ec ∙ get_d_firsts (λ j. get_or s (i + p + j) 0) 64 m h
      ∙ ap (λ q. get_or s q 0) (swap i p m ∙ ap (λ q. i + m + q) ep)

  pub block_first : length c ≡ 64 → c ≡ places_at grows c s i at 1
  unfolding at_places fold
  block_first len =
      list_is (λ m. at_places grows (get_or c m 0) s (i + m) at 1) 64 c len
      (λ m h. join_same grows (get_or c m 0) ∙ ap (join_by grows (get_or c m 0)) (first_at m h))

  pub block_all : (acc : List ℕ) → acc ≡ places_at grows c s i at (length at)
      → acc ≡ firsts (λ m. at_all grows s at (i + m)) 64
  unfolding at_all
  block_all acc e =
      e ∙ firsts_same _ _ 64 (λ m h. ap (λ v. at_places grows v s (i + m) at (length at)) (first_at m h))

-- ---- blocks one after another, and the last over the one before
module _ (f : ℕ → ℕ) (from : ℕ) (t : List ℕ) where
  pub blocks_more : (u c v : List ℕ) (k : ℕ) → from + 64 * k + 64 ≤ length t → u ≡ laid from (64 * k) f t
      → c ≡ firsts (λ m. f (64 * k + m)) 64 → v ≡ laid (from + 64 * k) 64 (λ j. get_or c j 0) u
      → v ≡ laid from (64 * (k + 1)) f t
  blocks_more u c v k fits so ec ev =
      laid_next from (64 * k) 64 f (λ j. get_or c j 0) t u v fits so ev
      (λ j h. ap (λ l. get_or l j 0) ec ∙ get_d_firsts (λ m. f (64 * k + m)) 64 j h)
      ∙ ap (λ m. laid from m f t) (one k)
    where
      one : (k : ℕ) → 64 * k + 64 ≡ 64 * (k + 1)
      one k = omega arith

  module _ (u c v : List ℕ) (n : ℕ) (some : 64 ≤ n) (fits : from + n ≤ length t)
      (so : u ≡ laid from (64 * (n / 64)) f t) (ec : c ≡ firsts (λ m. f (n - 64 + m)) 64)
      (ev : v ≡ laid (from + (n - 64)) 64 (λ j. get_or c j 0) u) where
    u_long : length u ≡ length t
    u_long = ap length so ∙ length_laid from (64 * (n / 64)) f t

    last : (i : ℕ) → n ≤ i + 64 → i < n → get_or v (from + i) 0 ≡ f i
    last i h k =
        ap₂ (λ l p. get_or l p 0) ev (there from i n h k)
        ∙ get_in (from + (n - 64)) 64 (λ j. get_or c j 0) u (i - (n - 64)) (omega (arith, u_long))
        (omega arith)
        ∙ ap (λ l. get_or l (i - (n - 64)) 0) ec
        ∙ get_d_firsts (λ m. f (n - 64 + m)) 64 (i - (n - 64)) (omega arith)
        ∙ ap f (back i n h k)
      where
        there : (from i n : ℕ) → n ≤ i + 64 → i < n → from + i ≡ from + (n - 64) + (i - (n - 64))
        there from i n h k = omega arith

        back : (i n : ℕ) → n ≤ i + 64 → i < n → n - 64 + (i - (n - 64)) ≡ i
        back i n h k = omega arith

    before : (p : ℕ) → p < from + (n - 64) → get_or v p 0 ≡ get_or u p 0
    before p h =
        ap (λ l. get_or l p 0) ev
        ∙ get_before (from + (n - 64)) 64 (λ j. get_or c j 0) u p (omega (arith, u_long)) h

    pub last_over : v ≡ laid from n f t
    last_over =
        laid_is from n f t v (ap length ev ∙ length_laid (from + (n - 64)) 64 (λ j. get_or c j 0) u ∙ u_long)
        (λ i h k. before i (omega arith) ∙ ap (λ l. get_or l i 0) so
        ∙ get_before from (64 * (n / 64)) f t i h k)
        (λ i h k. ⊎_elim
        (λ l. before (from + i) (omega arith) ∙ ap (λ l. get_or l (from + i) 0) so
        ∙ get_in from (64 * (n / 64)) f t i (omega arith) (omega arith))
        (λ l. last i l k) (below_or_not (i + 64) n))
        (λ i h k. ap (λ l. get_or l i 0) ev
        ∙ get_after (from + (n - 64)) 64 (λ j. get_or c j 0) u i (omega (arith, u_long)) (omega arith)
        ∙ ap (λ l. get_or l i 0) so
        ∙ get_after from (64 * (n / 64)) f t i h (omega arith))

-- ---- one value
pub point_more : (grows : Bool) (v : ℕ) (s at : List ℕ) (i j p c : ℕ) → c ≡ at_places grows v s i at j
    → p ≡ get_or at j 0 → join_by grows c (get_or s (i + p) 0) ≡ at_places grows v s i at (j + 1)
unfolding at_places fold
point_more grows v s at i j p c e ep =
    ap₂ (λ a q. join_by grows a (get_or s (i + q) 0)) e ep ∙ ap (at_places grows v s i at) (sym (add-one j))

-- ---- at equal steps
module _ (a w : ℕ) (f : ℕ → ℕ) (t : List ℕ) where
  pub step_more : (n v : ℕ) (u : List ℕ) → u ≡ stepped a w n f t → v ≡ f n
      → set u (a + n * w) v ≡ stepped a w (n + 1) f t
  unfolding stepped
  step_more n v u e q =
      ap₂ (λ l m. set l (a + n * w) m) e q ∙ ap (λ m. stepped a w m f t) (sym (add-one n))

  pub step_length : (n : ℕ) → length (stepped a w n f t) ≡ length t
  unfolding stepped
  step_length zero = refl
  step_length (suc n) = length-set (stepped a w n f t) (a + n * w) (f n) ∙ step_length n

  -- what stands elsewhere
  pub step_else : (n p : ℕ) → ((i : ℕ) → i < n → p ≡ a + i * w → ⊥) → get_or (stepped a w n f t) p 0 ≡ get_or
      t p 0
  unfolding stepped
  step_else zero p apart = refl
  step_else (suc n) p apart =
      get_or-set_other (stepped a w n f t) (a + n * w) p (f n) 0 (λ e. apart n (omega arith) e)
      ∙ step_else n p (λ i h. apart i (omega arith))

  -- what was set
  pub step_here : (n i : ℕ) → 1 ≤ w → ((k : ℕ) → k < n → a + k * w < length t) → i < n
      → get_or (stepped a w n f t) (a + i * w) 0 ≡ f i
  unfolding stepped
  step_here zero i some room h = absurd (not-suc-le-zero h)
  step_here (suc n) i some room h =
      ⊎_elim
      (λ e. ap (λ k. get_or (stepped a w (suc n) f t) (a + k * w) 0) e
      ∙ get_or-set_same (stepped a w n f t) (a + n * w) (f n) 0
      (subst (λ m. a + n * w < m) (sym (step_length n)) (room n (omega arith))) ∙ ap f (sym e))
      (λ l. get_or-set_other (stepped a w n f t) (a + n * w) (a + i * w) (f n) 0 (λ e. absurd (differ i n l
      (sym e)))
      ∙ step_here n i some (λ k q. room k (omega arith)) l)
      (eq-or-lt_of_le (le_of_suc-le-suc h))
    where
      differ : (i n : ℕ) → i < n → a + n * w ≡ a + i * w → ⊥
      differ i n l e = omega (arith, row_room w l)
