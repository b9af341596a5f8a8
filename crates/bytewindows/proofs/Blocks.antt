-- A block of what stands at four places, and windows in place.
use Prim.Native.Nat.{ℕ, ◌+◌, ◌*◌, ◌≤◌, ◌<◌}
use mathlib.Core.Path.{◌≡◌, sym, ap, ap₂, ◌∙◌}
use mathlib.Core.Bool.{Bool, false, cond}
use mathlib.Core.List.{List}
use native.Mathlib.Omega.{arith}
use lib.Dec.{leb}
use lib.ListN.{length, get_or}
use borrow.Author.Tests.{le-leb, lt-leb}
use Rattle.basics.specs.Lists.{firsts}
use Rattle.basics.proofs.Lists.{get_d_firsts, firsts_same}
use Rattle.rows.specs.Steps.Fold.{join_by}
use Rattle.blocks.specs.Steps.Block.{block_of}
use Rattle.blocks.specs.Steps.Laid.{laid}
use Rattle.blocks.proofs.Laid.{laid_next, laid_whole}
use Rattle.joins.specs.Steps.Joins.{joined_at}
use Rattle.windows.specs.Steps.Widened.{widened_by}
use Rattle.windows.proofs.InPlace.{Ahead}
use Rattle.bytewindows.specs.Steps.Four.{joined_four, widen_at, byte_windows}

-- ---- one block: four blocks joined one after another
pub four_block : (grows : Bool) (b c d e f : List ℕ) (p q r s : ℕ) → c ≡ block_of b p
    → d ≡ joined_at false grows c b q → e ≡ joined_at false grows d b r → f ≡ joined_at false grows e b s
    → f ≡ firsts (λ i. joined_four grows b (p + i) (q + i) (r + i) (s + i)) 64
unfolding joined_four joined_at block_of
four_block grows b c d e f p q r s ec ed ee ef =
    ef ∙ firsts_same _ _ 64
    (λ i h. ap (λ n. join_by grows n (get_or b (s + i) 0))
    (at _ e ee i h ∙ ap (λ n. join_by grows n (get_or b (r + i) 0))
    (at _ d ed i h ∙ ap (λ n. join_by grows n (get_or b (q + i) 0)) (at _ c ec i h))))
  where
    at : (g : ℕ → ℕ) (l : List ℕ) → l ≡ firsts g 64 → (i : ℕ) → i < 64 → get_or l i 0 ≡ g i
    at g l q i h = ap (λ l. get_or l i 0) q ∙ get_d_firsts g 64 i h

-- ---- in place: a window reads only places from its own on
pub widen_ahead : (grows : Bool) (n : ℕ) → Ahead (widen_at grows n)
unfolding widen_at joined_four
widen_ahead grows n l m i same =
    ap₂ (join_by grows)
    (ap₂ (join_by grows)
    (ap₂ (join_by grows) (same i (omega arith)) (same (i + n) (omega arith)))
    (same (i + (n + n)) (omega arith)))
    (same (i + (n + n + n)) (omega arith))

-- the block of windows from place i on
pub widen_block : (grows : Bool) (n i : ℕ) (b c : List ℕ)
    → c ≡ firsts (λ j. joined_four grows b (i + j) (i + n + j) (i + 2 * n + j) (i + 3 * n + j)) 64
    → c ≡ firsts (λ j. widen_at grows n b (i + j)) 64
unfolding widen_at
widen_block grows n i b c e =
    e ∙ firsts_same _ _ 64 (λ j h.
    ap₂ (λ q r. joined_four grows b (i + j) q r (i + 3 * n + j)) (one i n j) (two i n j)
    ∙ ap (joined_four grows b (i + j) (i + j + n) (i + j + (n + n))) (three i n j))
  where
    one : (i n j : ℕ) → i + n + j ≡ i + j + n
    one i n j = omega arith

    two : (i n j : ℕ) → i + 2 * n + j ≡ i + j + (n + n)
    two i n j = omega arith

    three : (i n j : ℕ) → i + 3 * n + j ≡ i + j + (n + n + n)
    three i n j = omega arith

-- ---- windows of m values
module _ (grows : Bool) (k m : ℕ) (b : List ℕ) where
  pub windows_1 : m ≤ 1 → b ≡ byte_windows grows k m b
  unfolding byte_windows
  windows_1 h =
      ap (λ t. cond t b (cond (leb m 4) (widened_by (widen_at grows 1) k b)
      (widened_by (widen_at grows 4) k (widened_by (widen_at grows 1) k b)))) (sym (le-leb m 1 h))

  pub windows_4 : (u : List ℕ) → 1 < m → m ≤ 4 → u ≡ widened_by (widen_at grows 1) k b
      → u ≡ byte_windows grows k m b
  unfolding byte_windows
  windows_4 u l h e =
      e ∙ ap₂ (λ t s. cond t b (cond s (widened_by (widen_at grows 1) k b)
      (widened_by (widen_at grows 4) k (widened_by (widen_at grows 1) k b)))) (sym (lt-leb m 1 l))
      (sym (le-leb m 4 h))

  pub windows_16 : (u v : List ℕ) → 1 < m → 4 < m → u ≡ widened_by (widen_at grows 1) k b
      → v ≡ widened_by (widen_at grows 4) k u → v ≡ byte_windows grows k m b
  unfolding byte_windows
  windows_16 u v l h e q =
      q ∙ ap (widened_by (widen_at grows 4) k) e
      ∙ ap₂ (λ t s. cond t b (cond s (widened_by (widen_at grows 1) k b)
      (widened_by (widen_at grows 4) k (widened_by (widen_at grows 1) k b)))) (sym (lt-leb m 1 l))
      (sym (lt-leb m 4 h))

-- ---- a row laid block after block, and the rest of it
pub lay_more : (F : ℕ → ℕ) (j i : ℕ) (t u v c : List ℕ) → i ≡ 64 * j → 64 * j + 64 ≤ length t
    → u ≡ laid 0 (64 * j) F t → c ≡ firsts (λ m. F (i + m)) 64 → v ≡ laid i 64 (λ m. get_or c m 0) u
    → v ≡ laid 0 (64 * (j + 1)) F t
lay_more F j i t u v c ei fits so ec ev =
    laid_next 0 (64 * j) 64 F (λ m. get_or c m 0) t u v (omega arith) so
    (ev ∙ ap (λ n. laid n 64 (λ m. get_or c m 0) u) (ei ∙ zero_plus (64 * j)))
    (λ m h. ap (λ l. get_or l m 0) ec ∙ get_d_firsts _ 64 m h ∙ ap (λ n. F (n + m)) ei)
    ∙ ap (λ n. laid 0 n F t) (more j)
  where
    zero_plus : (i : ℕ) → i ≡ 0 + i
    zero_plus i = omega arith

    more : (k : ℕ) → 64 * k + 64 ≡ 64 * (k + 1)
    more k = omega arith

pub lay_done : (F : ℕ → ℕ) (i n : ℕ) (t u : List ℕ) → length t ≡ n → i ≡ n → u ≡ laid 0 i F t → u ≡ firsts F n
lay_done F i n t u en ei e = laid_whole n F t u en (e ∙ ap (λ m. laid 0 m F t) ei)

pub lay_rest : (F : ℕ → ℕ) (i n m : ℕ) (t u v c : List ℕ) → length t ≡ n → i + m ≡ n → m ≤ 64
    → u ≡ laid 0 i F t → c ≡ firsts (λ j. F (i + j)) 64 → v ≡ laid i m (λ j. get_or c j 0) u → v ≡ firsts F n
lay_rest F i n m t u v c en em few so ec ev =
    laid_whole n F t v en
    (laid_next 0 i m F (λ j. get_or c j 0) t u v (omega arith) so
    (ev ∙ ap (λ a. laid a m (λ j. get_or c j 0) u) (zero_plus i))
    (λ j h. ap (λ l. get_or l j 0) ec ∙ get_d_firsts _ 64 j (omega arith))
    ∙ ap (λ a. laid 0 a F t) em)
  where
    zero_plus : (i : ℕ) → i ≡ 0 + i
    zero_plus i = omega arith

-- the block of what stands at four places, i bytes on
pub moved_block : (grows : Bool) (b c : List ℕ) (p q r s i : ℕ)
    → c ≡ firsts (λ j. joined_four grows b (p + i + j) (q + i + j) (r + i + j) (s + i + j)) 64
    → c ≡ firsts (λ j. joined_four grows b (p + (i + j)) (q + (i + j)) (r + (i + j)) (s + (i + j))) 64
moved_block grows b c p q r s i e =
    e ∙ firsts_same _ _ 64 (λ j h.
    ap₂ (λ m n. joined_four grows b m n (r + i + j) (s + i + j)) (group p i j) (group q i j)
    ∙ ap₂ (joined_four grows b (p + (i + j)) (q + (i + j))) (group r i j) (group s i j))
  where
    group : (p i j : ℕ) → p + i + j ≡ p + (i + j)
    group p i j = omega arith
