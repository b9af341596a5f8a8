-- In place, ascending: what is made of a list from a place on is the same before and after the places below
-- it have changed.
use Prim.Native.Nat.{ℕ, ◌+◌, ◌*◌, ◌≤◌, ◌<◌}
use mathlib.Core.Path.{◌≡◌, sym, ap, ap₂, ◌∙◌, subst}
use mathlib.Core.Bool.{Bool, cond}
use mathlib.Core.List.{List}
use mathlib.Core.Logic.{⊎_elim}
use native.Mathlib.Omega.{arith}
use lib.ListN.{length, get_or, get_or-eq_default}
use Rattle.basics.specs.Lists.{firsts}
use Rattle.basics.proofs.Lists.{get_d_firsts, firsts_same}
use Rattle.basics.proofs.SliceParts.{below_or_not}
use Rattle.blocks.specs.Steps.Joins.{join_packed}
use Rattle.blocks.specs.Steps.Laid.{laid}
use Rattle.blocks.specs.Steps.Points.{eight_from, shifted_of}
use Rattle.blocks.specs.Steps.Block.{block_of, joined_block, joined_bits}
use Rattle.blocks.proofs.Laid.{laid_none, laid_next, get_after, length_laid}
use Rattle.windows.specs.Steps.Widened.{widen1_at, widen4_at, widened_by, windows_of}
use lib.Dec.{leb}
use borrow.Author.Tests.{le-leb, lt-leb}

abbrev pub SameFrom : ℕ → List ℕ → List ℕ → Type 0
SameFrom i l m = (j : ℕ) → i ≤ j → get_or l j 0 ≡ get_or m j 0

-- W reads only places from i on
abbrev pub Ahead : (List ℕ → ℕ → ℕ) → Type 0
Ahead W = (l m : List ℕ) (i : ℕ) → SameFrom i l m → W l i ≡ W m i

pub eight_ahead : (l m : List ℕ) (i j d : ℕ) → i ≤ j → SameFrom i l m → eight_from l j d ≡ eight_from m j d
unfolding eight_from
eight_ahead l m i j d h same = ap₂ (λ a b. shifted_of a b d) (same j h) (same (j + 1) (omega arith))

pub ahead1 : (grows : Bool) → Ahead (widen1_at grows)
unfolding widen1_at
ahead1 grows l m i same =
    let h : i ≤ i = omega arith in
    ap₂ (join_packed grows)
    (ap₂ (join_packed grows)
    (ap₂ (join_packed grows) (same i h) (eight_ahead l m i i 1 h same))
    (eight_ahead l m i i 2 h same))
    (eight_ahead l m i i 3 h same)

pub ahead4 : (grows : Bool) → Ahead (widen4_at grows)
unfolding widen4_at
ahead4 grows l m i same =
    let h : i ≤ i = omega arith in
    let k : i ≤ i + 1 = omega arith in
    ap₂ (join_packed grows)
    (ap₂ (join_packed grows)
    (ap₂ (join_packed grows) (same i h) (eight_ahead l m i i 4 h same))
    (same (i + 1) k))
    (eight_ahead l m i (i + 1) 4 k same)

-- ---- the blocks one after another: none, one more, all
pub widened_none : (W : List ℕ → ℕ → ℕ) (b : List ℕ) → b ≡ widened_by W 0 b
unfolding widened_by
widened_none W b = laid_none 0 (W b) b

module _ (W : List ℕ → ℕ → ℕ) (ahead : Ahead W) (b u : List ℕ) (k : ℕ) (fits : 64 * k + 64 ≤ length b)
    (so : u ≡ widened_by W k b) where
  pub length_so : length u ≡ length b
  unfolding widened_by
  length_so = ap length so ∙ length_laid 0 (64 * k) (W b) b

  as_before : SameFrom (64 * k) u b
  unfolding widened_by
  as_before j h =
      ⊎_elim
      (λ l. ap (λ t. get_or t j 0) so ∙ get_after 0 (64 * k) (W b) b j l (omega arith))
      (λ l. get_or-eq_default u 0 (subst (λ n. n ≤ j) (sym length_so) l)
      ∙ sym (get_or-eq_default b 0 l))
      (below_or_not j (length b))

  pub widened_more : (i : ℕ) (c v : List ℕ) → i ≡ 64 * k → c ≡ firsts (λ j. W u (i + j)) 64 → v
      ≡ laid i 64 (λ j. get_or c j 0) u → v ≡ widened_by W (k + 1) b
  unfolding widened_by
  widened_more i c v e ec ev =
      laid_next 0 (64 * k) 64 (W b) (λ j. get_or c j 0) b u v (omega arith) so
      (ev ∙ ap (λ n. laid n 64 (λ j. get_or c j 0) u) (e ∙ zero_plus (64 * k)))
      (λ j h. ap (λ l. get_or l j 0) ec ∙ get_d_firsts (λ j. W u (i + j)) 64 j h ∙ ap (λ n. W u (n + j)) e
      ∙ ahead u b (64 * k + j) (λ m q. as_before m (omega arith)))
      ∙ ap (λ n. laid 0 n (W b) b) (more k)
    where
      zero_plus : (i : ℕ) → i ≡ 0 + i
      zero_plus i = omega arith

      more : (k : ℕ) → 64 * k + 64 ≡ 64 * (k + 1)
      more k = omega arith

-- ---- one block: the joins of its bytes one after another
module _ (b : List ℕ) (i : ℕ) where
  block_get : (c : List ℕ) → c ≡ block_of b i → (j : ℕ) → j < 64 → get_or c j 0 ≡ get_or b (i + j) 0
  unfolding block_of
  block_get c e j h = ap (λ l. get_or l j 0) e ∙ get_d_firsts _ 64 j h

  bits_get : (grows : Bool) (a c : List ℕ) (at d : ℕ) → c ≡ joined_bits grows a b at d → (j : ℕ) → j < 64
      → get_or c j 0 ≡ join_packed grows (get_or a j 0) (eight_from b (at + j) d)
  unfolding joined_bits
  bits_get grows a c at d e j h = ap (λ l. get_or l j 0) e ∙ get_d_firsts _ 64 j h

  bytes_get : (grows : Bool) (a c : List ℕ) (at : ℕ) → c ≡ joined_block grows a b at → (j : ℕ) → j < 64
      → get_or c j 0 ≡ join_packed grows (get_or a j 0) (get_or b (at + j) 0)
  unfolding joined_block
  bytes_get grows a c at e j h = ap (λ l. get_or l j 0) e ∙ get_d_firsts _ 64 j h

  module _ (grows : Bool) (c d e f : List ℕ) (ec : c ≡ block_of b i) where
    pub block1 : d ≡ joined_bits grows c b i 1 → e ≡ joined_bits grows d b i 2 → f ≡ joined_bits grows e b i 3
        → f ≡ firsts (λ j. widen1_at grows b (i + j)) 64
    unfolding widen1_at joined_bits
    block1 ed ee ef =
        ef ∙ firsts_same _ _ 64
        (λ j h. ap (λ n. join_packed grows n (eight_from b (i + j) 3))
        (bits_get grows d e i 2 ee j h ∙ ap (λ n. join_packed grows n (eight_from b (i + j) 2))
        (bits_get grows c d i 1 ed j h ∙ ap (λ n. join_packed grows n (eight_from b (i + j) 1))
        (block_get c ec j h))))

    pub block4 : d ≡ joined_bits grows c b i 4 → e ≡ joined_block grows d b (i + 1) → f
        ≡ joined_bits grows e b (i + 1) 4 → f ≡ firsts (λ j. widen4_at grows b (i + j)) 64
    unfolding widen4_at joined_bits
    block4 ed ee ef =
        ef ∙ firsts_same _ _ 64
        (λ j h. ap₂ (λ n p. join_packed grows n (eight_from b p 4))
        (bytes_get grows d e (i + 1) ee j h ∙ ap₂ (λ n p. join_packed grows n (get_or b p 0))
        (bits_get grows c d i 4 ed j h ∙ ap (λ n. join_packed grows n (eight_from b (i + j) 4))
        (block_get c ec j h))
        (swap i j)) (swap i j))
      where
        swap : (i j : ℕ) → i + 1 + j ≡ i + j + 1
        swap i j = omega arith

-- ---- windows of m points
pub windows_1 : (grows : Bool) (n m : ℕ) (b : List ℕ) → m ≤ 1 → b ≡ windows_of grows n m b
unfolding windows_of
windows_1 grows n m b h =
    ap (λ t. cond t b (cond (leb m 4) (widened_by (widen1_at grows) n b)
    (widened_by (widen4_at grows) n (widened_by (widen1_at grows) n b)))) (sym (le-leb m 1 h))

pub windows_4 : (grows : Bool) (n m : ℕ) (b u : List ℕ) → 1 < m → m ≤ 4 → u ≡ widened_by (widen1_at grows) n b
    → u ≡ windows_of grows n m b
unfolding windows_of
windows_4 grows n m b u l h e =
    e ∙ ap₂ (λ t s. cond t b (cond s (widened_by (widen1_at grows) n b)
    (widened_by (widen4_at grows) n (widened_by (widen1_at grows) n b)))) (sym (lt-leb m 1 l))
    (sym (le-leb m 4 h))

pub windows_16 : (grows : Bool) (n m : ℕ) (b u v : List ℕ) → 1 < m → 4 < m → u
    ≡ widened_by (widen1_at grows) n b → v ≡ widened_by (widen4_at grows) n u → v ≡ windows_of grows n m b
unfolding windows_of
windows_16 grows n m b u v l h e q =
    q ∙ ap (widened_by (widen4_at grows) n) e
    ∙ ap₂ (λ t s. cond t b (cond s (widened_by (widen1_at grows) n b)
    (widened_by (widen4_at grows) n (widened_by (widen1_at grows) n b)))) (sym (lt-leb m 1 l))
    (sym (lt-leb m 4 h))
