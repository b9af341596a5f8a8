-- Blocks of a row joined with what all cells find: without what holds the ends, and with it.
use Prim.Native.Nat.{ℕ, ◌+◌, ◌-◌, ◌*◌, ◌/◌, ◌%◌, ◌≤◌, ◌<◌, min, max}
use mathlib.Core.Path.{◌≡◌, refl, sym, ap, ap₂, ◌∙◌, subst}
use mathlib.Core.Bool.{Bool, true, false, not}
use mathlib.Core.List.{List}
use mathlib.Core.Logic.{⊎_elim}
use native.Mathlib.Omega.{arith}
use native.Mathlib.Nat.{eq-or-lt_of_le}
use native.Mathlib.Numerals.{add-one}
use lib.ListN.{length, get_or}
use borrow.Author.Tests.{leb-true}
use Rattle.basics.specs.Lists.{firsts}
use Rattle.basics.proofs.Lists.{length_firsts, get_d_firsts, firsts_same, list_is}
use Rattle.morphology.specs.Operations.{fold}
use Rattle.rows.specs.Steps.Fold.{join_by}
use Rattle.blocks.specs.Steps.Laid.{laid}
use Rattle.blocks.specs.Steps.Block.{block_of}
use Rattle.blocks.proofs.Laid.{laid_none, laid_next, still, get_first}
use Rattle.windows.proofs.Bounds.{fold_to}
use Rattle.weighblocks.specs.Steps.Cells.{both_at, weighed_row}
use Rattle.weighblocks.proofs.Blocks.{swap, both_in, row_at, row_joined}
use Rattle.freeblocks.specs.Steps.Plain.{plain_by, plain_block, plain_cells, plain_both, turned_by}
use Rattle.freeblocks.specs.Steps.Plain.{Far, Sure, Under, least_of, sure_of}
use Rattle.freeblocks.proofs.Held.{plain_is, plain_far, held_far}

got : (n : ℕ) (f : ℕ → ℕ) (l : List ℕ) → l ≡ firsts f n → (j : ℕ) → j < n → get_or l j 0 ≡ f j
got n f l e j h = ap (λ m. get_or m j 0) e ∙ get_d_firsts f n j h

-- ---- two blocks joined with what the cells find, one after another
module _ (grows up : Bool) (c b : List ℕ) (i : ℕ) (cells : List ℕ) where
  abbrev pub cells_at : ℕ → List ℕ
  cells_at n = firsts (λ m. plain_cells grows up (get_or c m 0) b (i + m) cells n) 128

  pub cells_none : length c ≡ 128 → c ≡ cells_at 0
  unfolding plain_cells fold
  cells_none len = list_is (λ m. get_or c m 0) 128 c len (λ m h. refl)

  pub cells_more : (acc next : List ℕ) (p g j : ℕ) → acc ≡ cells_at j → p ≡ get_or cells j 0 / 256
      → g ≡ get_or cells j 0 % 256 → next ≡ plain_block grows up acc b (i + p) g → next ≡ cells_at (j + 1)
  unfolding plain_cells fold plain_block
  cells_more acc next p g j so ep eg q =
      q ∙ firsts_same _ _ 128
      (λ m h. ap₂ (λ n d. join_by grows n (plain_by up g (get_or b d 0))) (got 128 _ acc so m h)
      (swap i p m ∙ ap (λ d. i + m + d) ep)
      ∙ ap (λ g. join_by grows (plain_cells grows up (get_or c m 0) b (i + m) cells j)
      (plain_by up g (get_or b (i + m + get_or cells j 0 / 256) 0))) eg)
      ∙ ap cells_at (sym (add-one j))

  pub cells_length : (acc : List ℕ) (j : ℕ) → acc ≡ cells_at j → length acc ≡ 128
  cells_length acc j q = ap length q ∙ length_firsts _ 128

-- ---- a row: as many of its blocks as show no end, those that are left, and the bytes past them
module _ (grows : Bool) (b rising others t : List ℕ) where
  abbrev row : ℕ → ℕ
  row m = row_at grows b rising others t m

  pub free_none : t ≡ laid 0 (128 * 0) row t
  free_none = laid_none 0 row t

  pub free_more : (limit : ℕ) → Under rising limit
      → (u c x d v : List ℕ) (k : ℕ) → 128 * k + 128 ≤ length t
      → u ≡ laid 0 (128 * k) row t → c ≡ firsts (λ j. get_or u (128 * k + j) 0) 128
      → x ≡ cells_at grows grows c b (128 * k) rising (length rising)
      → d ≡ cells_at grows (not grows) x b (128 * k) others (length others) → Far grows d limit
      → v ≡ laid (128 * k) 128 (λ j. get_or d j 0) u → v ≡ laid 0 (128 * (k + 1)) row t
  unfolding plain_both
  free_more limit under u c x d v k fits so ec ex ed far ev =
      laid_next 0 (128 * k) 128 row (λ j. get_or d j 0) t u v (omega arith) so
      (ev ∙ ap (λ n. laid n 128 (λ j. get_or d j 0) u) (zero_plus (128 * k)))
      (λ j h. each j h)
      ∙ ap (λ m. laid 0 m row t) (one k)
    where
      zero_plus : (i : ℕ) → i ≡ 0 + i
      zero_plus i = omega arith

      one : (k : ℕ) → 128 * k + 128 ≡ 128 * (k + 1)
      one k = omega arith

      value : (j : ℕ) → j < 128 → get_or d j 0 ≡ plain_both grows (get_or c j 0) b (128 * k + j) rising others
      value j h =
          got 128 _ d ed j h
          ∙ ap (λ v. plain_cells grows (not grows) v b (128 * k + j) others (length others))
          (got 128 _ x ex j h)

      each : (j : ℕ) → j < 128 → get_or d j 0 ≡ row (128 * k + j)
      each j h =
          value j h
          ∙ plain_is grows b (128 * k + j) rising others (get_or c j 0) limit under
          (subst (λ n. limit ≤ turned_by grows n) (value j h) (far j h))
          ∙ ap (λ n. both_at grows n b (128 * k + j) rising others)
          (got 128 _ c ec j h
          ∙ still 0 (128 * k) row t u (128 * k + j) (omega arith) (omega arith) so)

  -- the same of a row that is sure, or of one where the look is worth what it finds
  pub free_any : (sure : Bool) (limit n : ℕ) → (sure ≡ true → Sure grows n t) → Under rising 128
      → (sure ≡ false → Under rising limit)
      → (u c x d v : List ℕ) (k : ℕ) → k < n → 128 * k + 128 ≤ length t
      → u ≡ laid 0 (128 * k) row t → c ≡ firsts (λ j. get_or u (128 * k + j) 0) 128
      → x ≡ cells_at grows grows c b (128 * k) rising (length rising)
      → d ≡ cells_at grows (not grows) x b (128 * k) others (length others) → Far grows d limit
      → v ≡ laid (128 * k) 128 (λ j. get_or d j 0) u → v ≡ laid 0 (128 * (k + 1)) row t
  unfolding plain_both
  free_any true limit n sure under low u c x d v k few fits so ec ex ed far ev =
      free_more 128 under u c x d v k fits so ec ex ed
      (λ m h. subst (λ i. 128 ≤ turned_by grows i)
      (sym (got 128 _ d ed m h
      ∙ ap (λ v. plain_cells grows (not grows) v b (128 * k + m) others (length others))
      (got 128 _ x ex m h)))
      (plain_far grows b (128 * k + m) rising others (get_or c m 0) 128
      (subst (λ i. 128 ≤ turned_by grows i)
      (sym (got 128 _ c ec m h ∙ still 0 (128 * k) row t u (128 * k + m) (omega arith) (omega arith) so))
      (sure refl (128 * k + m) (omega arith))))) ev
  free_any false limit n sure under low u c x d v k few fits so ec ex ed far ev =
      free_more limit (low refl) u c x d v k fits so ec ex ed far ev

  -- from the block `from` on
  abbrev pub later : ℕ → ℕ → ℕ
  later from m = row (64 * from + m)

  pub held_none : (from : ℕ) → t ≡ laid (64 * from) (64 * from - 64 * from) (later from) t
  held_none from = laid_none (64 * from) (later from) t ∙ ap (λ n. laid (64 * from) n (later from) t) (zero
      (64 * from))
    where
      zero : (a : ℕ) → 0 ≡ a - a
      zero a = omega arith

  pub held_more_lem : (u c d v : List ℕ) (from k : ℕ) → from ≤ k → 64 * k + 64 ≤ length t
      → u ≡ laid (64 * from) (64 * k - 64 * from) (later from) t → c ≡ block_of u (64 * k)
      → d ≡ both_in grows b rising others c (64 * k) → v ≡ laid (64 * k) 64 (λ j. get_or d j 0) u
      → v ≡ laid (64 * from) (64 * (k + 1) - 64 * from) (later from) t
  unfolding block_of
  held_more_lem u c d v from k h fits so ec ed ev =
      laid_next (64 * from) (64 * k - 64 * from) 64 (later from) (λ j. get_or d j 0) t u v (omega arith) so
      (ev ∙ ap (λ n. laid n 64 (λ j. get_or d j 0) u) (past (64 * from) (64 * k) (omega arith)))
      (λ j l. each j l)
      ∙ ap (λ m. laid (64 * from) m (later from) t) (one from k h)
    where
      past : (a m : ℕ) → a ≤ m → m ≡ a + (m - a)
      past a m h = omega arith

      one : (f k : ℕ) → f ≤ k → 64 * k - 64 * f + 64 ≡ 64 * (k + 1) - 64 * f
      one f k h = omega arith

      here : (j : ℕ) → 64 * k + j ≡ 64 * from + (64 * k - 64 * from + j)
      here j = omega arith

      block : (j : ℕ) → j < 64 → get_or c j 0 ≡ get_or u (64 * k + j) 0
      block j l = got 64 (λ j. get_or u (64 * k + j) 0) c ec j l

      each : (j : ℕ) → j < 64 → get_or d j 0 ≡ later from (64 * k - 64 * from + j)
      each j l =
          got 64 _ d ed j l
          ∙ ap (λ n. both_at grows n b (64 * k + j) rising others)
          (block j l ∙ still (64 * from) (64 * k - 64 * from) (later from) t u (64 * k + j) (omega arith)
          (omega arith) so)
          ∙ ap row (here j)

  pub row_whole : (u w v : List ℕ) (k n : ℕ) → 2 * k ≤ n → 64 * n ≤ length t → u ≡ laid 0 (128 * k) row t
      → w ≡ laid (64 * (2 * k)) (64 * n - 64 * (2 * k))
      (λ m. both_at grows (get_or u (64 * (2 * k) + m) 0) b (64 * (2 * k) + m) rising others) u
      → v ≡ laid (64 * n) (length w - 64 * n)
      (λ m. both_at grows (get_or w (64 * n + m) 0) b (64 * n + m) rising others) w
      → v ≡ weighed_row grows b rising others t
  row_whole u w v k n few fits eu ew ev =
      row_joined grows b rising others t w v n fits
      (laid_next 0 (128 * k) (64 * n - 64 * (2 * k)) row _ t u w (omega arith) eu
      (ew ∙ ap (λ a. laid a (64 * n - 64 * (2 * k))
      (λ m. both_at grows (get_or u (64 * (2 * k) + m) 0) b (64 * (2 * k) + m) rising others) u) (twice k))
      (λ j h. ap₂ (λ v m. both_at grows v b m rising others)
      (ap (λ i. get_or u (i + j) 0) (double k)
      ∙ still 0 (128 * k) row t u (128 * k + j) (omega arith) (omega arith) eu)
      (ap (λ i. i + j) (double k)))
      ∙ ap (λ m. laid 0 m row t) (all k n few)) ev
    where
      twice : (k : ℕ) → 64 * (2 * k) ≡ 0 + 128 * k
      twice k = omega arith

      double : (k : ℕ) → 64 * (2 * k) ≡ 128 * k
      double k = omega arith

      all : (k n : ℕ) → 2 * k ≤ n → 128 * k + (64 * n - 64 * (2 * k)) ≡ 64 * n
      all k n h = omega arith

-- ---- the greatest size, and the value nearest to the end, one more at a time
pub under_more : (f : ℕ → ℕ) (g h j : ℕ) → ((i : ℕ) → i < j → f i ≤ g) → h ≡ max g (f j)
    → (i : ℕ) → i < j + 1 → f i ≤ h
under_more f g h j so e i l =
    ⊎_elim (λ q. omega (arith, ap f q, e)) (λ q. omega (arith, so i q, e)) (eq-or-lt_of_le (below_one i j l))
  where
    below_one : (i n : ℕ) → i < n + 1 → i ≤ n
    below_one i n h = omega arith

pub over_more : (f : ℕ → ℕ) (g h j : ℕ) → ((i : ℕ) → i < j → g ≤ f i) → h ≡ min g (f j)
    → (i : ℕ) → i < j + 1 → h ≤ f i
over_more f g h j so e i l =
    ⊎_elim (λ q. omega (arith, ap f q, e)) (λ q. omega (arith, so i q, e)) (eq-or-lt_of_le (below_one i j l))
  where
    below_one : (i n : ℕ) → i < n + 1 → i ≤ n
    below_one i n h = omega arith

-- ---- a row that is sure stays so
pub sure_kept : (grows : Bool) (b rising others t : List ℕ) (n : ℕ) → 128 * n ≤ length t → Sure grows n t
    → Sure grows n (weighed_row grows b rising others t)
unfolding weighed_row
sure_kept grows b rising others t n fits sure m h =
    subst (λ i. 128 ≤ turned_by grows i)
    (sym (get_first (length t) (λ m. both_at grows (get_or t m 0) b m rising others) t m (omega arith)
    (omega arith)))
    (held_far grows b m rising others (get_or t m 0) 128 (sure m h))

-- and one that was looked at is
pub sure_is : (grows : Bool) (t : List ℕ) → sure_of grows t ≡ true → Sure grows (length t / 128) t
unfolding sure_of least_of
sure_is grows t e m h =
    (fold_to false 255 (λ i. turned_by grows (get_or t i 0)) 128 (128 * (length t / 128))
    (leb-true 128 (least_of grows t (128 * (length t / 128))) e)).1 m h

pub least_none : (grows : Bool) (t : List ℕ) → 255 ≡ least_of grows t 0
unfolding least_of fold
least_none grows t = refl

pub least_more : (grows : Bool) (t : List ℕ) (w v i : ℕ) → w ≡ least_of grows t i
    → v ≡ min w (turned_by grows (get_or t i 0)) → v ≡ least_of grows t (i + 1)
unfolding least_of fold
least_more grows t w v i e q =
    q ∙ ap (λ w. min w (turned_by grows (get_or t i 0))) e ∙ ap (least_of grows t) (sym (add-one i))
