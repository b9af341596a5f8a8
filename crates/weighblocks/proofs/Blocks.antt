-- Blocks of a row joined with what all cells find.
use Prim.Native.Nat.{ℕ, ◌+◌, ◌-◌, ◌*◌, ◌/◌, ◌%◌, ◌≤◌, ◌<◌}
use mathlib.Core.Path.{◌≡◌, refl, sym, ap, ap₂, ◌∙◌, subst}
use mathlib.Core.Bool.{Bool, true, false}
use mathlib.Core.List.{List}
use native.Mathlib.Omega.{arith}
use native.Mathlib.Numerals.{add-one}
use lib.ListN.{length, get_or, replicate, length-replicate}
use Rattle.basics.specs.Lists.{firsts}
use Rattle.basics.proofs.Lists.{length_firsts, get_d_firsts, firsts_same, list_is}
use Rattle.morphology.specs.Operations.{fold}
use Rattle.rows.specs.Steps.Fold.{join_by}
use Rattle.blocks.specs.Steps.Laid.{laid}
use Rattle.blocks.specs.Steps.Block.{block_of}
use Rattle.blocks.proofs.Laid.{laid_none, laid_next, laid_same, still, length_laid, get_first}
use Rattle.weighblocks.specs.Steps.Lift.{lift_by}
use Rattle.weighblocks.specs.Steps.Cells.{cell_block, at_cells, both_at, weighed_row}

pub swap : (i d j : ℕ) → i + d + j ≡ i + j + d
swap i d j = omega arith

got : (f : ℕ → ℕ) (l : List ℕ) → l ≡ firsts f 64 → (j : ℕ) → j < 64 → get_or l j 0 ≡ f j
got f l e j h = ap (λ m. get_or m j 0) e ∙ get_d_firsts f 64 j h

block_got : (b c : List ℕ) (i : ℕ) → c ≡ block_of b i → (j : ℕ) → j < 64 → get_or c j 0 ≡ get_or b (i + j) 0
unfolding block_of
block_got b c i e j h = got (λ j. get_or b (i + j) 0) c e j h

-- ---- a block joined with what the cells find, one after another
module _ (grows rises : Bool) (c b : List ℕ) (i : ℕ) (cells : List ℕ) where
  abbrev pub cells_at : ℕ → List ℕ
  cells_at n = firsts (λ m. at_cells grows rises (get_or c m 0) b (i + m) cells n) 64

  pub cells_none : length c ≡ 64 → c ≡ cells_at 0
  unfolding at_cells fold
  cells_none len = list_is (λ m. get_or c m 0) 64 c len (λ m h. refl)

  pub cells_more : (acc next : List ℕ) (p g j : ℕ) → acc ≡ cells_at j → p ≡ get_or cells j 0 / 256
      → g ≡ get_or cells j 0 % 256 → next ≡ cell_block grows rises acc b (i + p) g → next ≡ cells_at (j + 1)
  unfolding at_cells fold cell_block
  cells_more acc next p g j so ep eg q =
      q ∙ firsts_same _ _ 64
      (λ m h. ap₂ (λ n d. join_by grows n (lift_by grows rises g (get_or b d 0))) (got _ acc so m h)
      (swap i p m ∙ ap (λ d. i + m + d) ep)
      ∙ ap (λ g. join_by grows (at_cells grows rises (get_or c m 0) b (i + m) cells j)
      (lift_by grows rises g (get_or b (i + m + get_or cells j 0 / 256) 0))) eg)
      ∙ ap cells_at (sym (add-one j))

  pub cells_length : (acc : List ℕ) (j : ℕ) → acc ≡ cells_at j → length acc ≡ 64
  cells_length acc j q = ap length q ∙ length_firsts _ 64

-- ---- both lists of cells
module _ (grows : Bool) (b rising others : List ℕ) where
  abbrev pub both_in : List ℕ → ℕ → List ℕ
  both_in c i = firsts (λ m. both_at grows (get_or c m 0) b (i + m) rising others) 64

  pub both_joined : (c x y : List ℕ) (i : ℕ) → x ≡ cells_at grows true c b i rising (length rising)
      → y ≡ cells_at grows false x b i others (length others) → y ≡ both_in c i
  unfolding both_at
  both_joined c x y i ex ey =
      ey ∙ firsts_same _ _ 64
      (λ m h. ap (λ v. at_cells grows false v b (i + m) others (length others)) (got _ x ex m h))

  -- ---- a row: its blocks, and the bytes that are left
  module _ (t : List ℕ) where
    abbrev pub row_at : ℕ → ℕ
    row_at m = both_at grows (get_or t m 0) b m rising others

    pub blocks_none : t ≡ laid 0 (64 * 0) row_at t
    blocks_none = laid_none 0 row_at t

    pub blocks_more : (u c d v : List ℕ) (k : ℕ) → 64 * k + 64 ≤ length t → u ≡ laid 0 (64 * k) row_at t
        → c ≡ block_of u (64 * k) → d ≡ both_in c (64 * k)
        → v ≡ laid (64 * k) 64 (λ j. get_or d j 0) u → v ≡ laid 0 (64 * (k + 1)) row_at t
    blocks_more u c d v k fits so ec ed ev =
        laid_next 0 (64 * k) 64 row_at (λ j. get_or d j 0) t u v (omega arith) so
        (ev ∙ ap (λ n. laid n 64 (λ j. get_or d j 0) u) (zero_plus (64 * k)))
        (λ j h. got _ d ed j h
        ∙ ap (λ n. both_at grows n b (64 * k + j) rising others)
        (block_got u c (64 * k) ec j h ∙ still 0 (64 * k) row_at t u (64 * k + j) (omega arith) (omega arith)
        so))
        ∙ ap (λ m. laid 0 m row_at t) (one k)
      where
        zero_plus : (i : ℕ) → i ≡ 0 + i
        zero_plus i = omega arith

        one : (k : ℕ) → 64 * k + 64 ≡ 64 * (k + 1)
        one k = omega arith

    pub rest_joined : (c d u : List ℕ) (i n : ℕ) → n ≤ 64 → i + n ≤ length t
        → c ≡ laid 0 n (λ m. get_or t (i + m) 0) (replicate 64 0)
        → d ≡ both_in c i → u ≡ laid i n (λ j. get_or d j 0) t
        → u ≡ laid i n (λ m. row_at (i + m)) t
    rest_joined c d u i n few fits ec ed eu =
        eu ∙ laid_same i n _ _ t fits
        (λ j h. got _ d ed j (omega arith)
        ∙ ap (λ n. both_at grows n b (i + j) rising others)
        (ap (λ l. get_or l j 0) ec
        ∙ get_first n (λ m. get_or t (i + m) 0) (replicate 64 0) j
        (subst (λ m. n ≤ m) (sym (length-replicate {A = ℕ} 64 0)) few) h))

    pub row_joined : (u v : List ℕ) (n : ℕ) → 64 * n ≤ length t → u ≡ laid 0 (64 * n) row_at t
        → v ≡ laid (64 * n) (length u - 64 * n)
        (λ m. both_at grows (get_or u (64 * n + m) 0) b (64 * n + m) rising others) u
        → v ≡ weighed_row grows b rising others t
    unfolding weighed_row
    row_joined u v n fits eu ev =
        laid_next 0 (64 * n) (length t - 64 * n) row_at _ t u v (omega arith) eu
        (ev ∙ ap₂ (λ i k. laid i k
        (λ m. both_at grows (get_or u (64 * n + m) 0) b (64 * n + m) rising others) u)
        (zero_plus (64 * n)) (ap (λ k. k - 64 * n) (ap length eu ∙ length_laid 0 (64 * n) row_at t)))
        (λ j h. ap (λ v. both_at grows v b (64 * n + j) rising others)
        (still 0 (64 * n) row_at t u (64 * n + j) (omega arith) (omega arith) eu))
        ∙ ap (λ m. laid 0 m row_at t) (whole (64 * n) (length t) fits)
      where
        zero_plus : (i : ℕ) → i ≡ 0 + i
        zero_plus i = omega arith

        whole : (a b : ℕ) → a ≤ b → a + (b - a) ≡ b
        whole a b h = omega arith
