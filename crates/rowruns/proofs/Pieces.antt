-- A piece after another is one piece: what the second reads the first has not written.
use Prim.Native.Nat.{ℕ, ◌+◌, ◌-◌, ◌≤◌, ◌<◌}
use mathlib.Core.Path.{◌≡◌, refl, sym, ap, ap₂, ◌∙◌, subst}
use mathlib.Core.Bool.{Bool, true, false}
use mathlib.Core.List.{List}
use mathlib.Core.Logic.{⊎_elim}
use native.Mathlib.Omega.{arith}
use lib.ListN.{length, get_or, set}
use Rattle.basics.proofs.Lists.{get_d_firsts}
use Rattle.basics.proofs.SliceParts.{below_or_not}
use Rattle.blocks.specs.Steps.Joins.{join_packed}
use Rattle.blocks.specs.Steps.Laid.{laid}
use Rattle.blocks.specs.Steps.Block.{block_of, joined_block}
use Rattle.blocks.proofs.Laid.{laid_is, laid_none, laid_more, laid_same, laid_next, length_laid}
use Rattle.blocks.proofs.Laid.{get_in, get_before, get_after}
use Rattle.rowruns.specs.Steps.Pieces.{start_of, put_of, piece_of}

put_fits : (grows : Bool) (i s m n : ℕ) → i + s + m ≤ n → put_of grows i (i + s) + m ≤ n
put_fits true i s m n h = h
put_fits false i s m n h = omega arith

pub length_piece : (grows : Bool) (i s m : ℕ) (t : List ℕ) → length (piece_of grows i s m t) ≡ length t
unfolding piece_of
length_piece grows i s m t = length_laid _ m _ t

pub piece_none : (grows : Bool) (i s : ℕ) (t : List ℕ) → t ≡ piece_of grows i s 0 t
unfolding piece_of
piece_none grows i s t = laid_none _ _ t

-- as the code makes one: of a block, and of a byte
pub block_piece : (grows : Bool) (i s at : ℕ) (t c d u : List ℕ) → i + s + 64 ≤ length t
    → c ≡ block_of t i → d ≡ joined_block grows c t (i + s) → at ≡ put_of grows i (i + s)
    → u ≡ laid at 64 (λ j. get_or d j 0) t → u ≡ piece_of grows i s 64 t
unfolding piece_of block_of joined_block
block_piece grows i s at t c d u h ec ed ea eu =
    eu ∙ ap (λ a. laid a 64 (λ j. get_or d j 0) t) ea
    ∙ laid_same (put_of grows i (i + s)) 64 _ _ t (put_fits grows i s 64 (length t) h)
    (λ j l. ap (λ k. get_or k j 0) ed ∙ get_d_firsts _ 64 j l
    ∙ ap (λ b. join_packed grows b (get_or t (i + s + j) 0))
    (ap (λ k. get_or k j 0) ec ∙ get_d_firsts _ 64 j l))

pub byte_piece : (grows : Bool) (i s at v : ℕ) (t : List ℕ) → i + s + 1 ≤ length t
    → at ≡ put_of grows i (i + s) → v ≡ join_packed grows (get_or t i 0) (get_or t (i + s) 0)
    → set t at v ≡ piece_of grows i s 1 t
unfolding piece_of
byte_piece grows i s at v t h ea ev =
    ap (λ a. set t a v) (ea ∙ none (put_of grows i (i + s)))
    ∙ laid_more (put_of grows i (i + s)) 0 _ t t v
    (let l = put_fits grows i s 1 (length t) h in omega arith) (laid_none _ _ t)
    (ev ∙ ap₂ (λ a b. join_packed grows (get_or t a 0) (get_or t b 0)) (none i) (none (i + s)))
  where
    none : (n : ℕ) → n ≡ n + 0
    none n = omega arith

-- a part set anew in front of what was set
laid_front : (a k m : ℕ) (f f' g : ℕ → ℕ) (t u v : List ℕ) → a + k + m ≤ length t
    → u ≡ laid (a + k) m f' t → v ≡ laid a k g u
    → ((i : ℕ) → i < k → g i ≡ f i) → ((i : ℕ) → i < m → f' i ≡ f (k + i))
    → v ≡ laid a (k + m) f t
laid_front a k m f f' g t u v h e q first rest =
    let len : length u ≡ length t = ap length e ∙ length_laid (a + k) m f' t in
    laid_is a (k + m) f t v (ap length q ∙ length_laid a k g u ∙ len)
    (λ i hi z. ap (λ l. get_or l i 0) q ∙ get_before a k g u i (subst (λ n. i < n) (sym len) hi) z
    ∙ ap (λ l. get_or l i 0) e ∙ get_before (a + k) m f' t i hi (omega arith))
    (λ i hi z. ⊎_elim
    (λ y. ap (λ l. get_or l (a + i) 0) q
    ∙ get_in a k g u i (subst (λ n. a + k ≤ n) (sym len) (omega arith)) y ∙ first i y)
    (λ y. ap (λ l. get_or l (a + i) 0) q
    ∙ get_after a k g u (a + i) (subst (λ n. a + i < n) (sym len) hi) (omega arith)
    ∙ ap (λ l. get_or l (a + i) 0) e ∙ ap (λ j. get_or (laid (a + k) m f' t) j 0) (split a k i y)
    ∙ get_in (a + k) m f' t (i - k) h (omega arith) ∙ rest (i - k) (omega arith) ∙ ap f (whole k i y))
    (below_or_not i k))
    (λ i hi z. ap (λ l. get_or l i 0) q ∙ get_after a k g u i (subst (λ n. i < n) (sym len) hi) (omega arith)
    ∙ ap (λ l. get_or l i 0) e ∙ get_after (a + k) m f' t i hi (omega arith))
  where
    split : (a k i : ℕ) → k ≤ i → a + i ≡ a + k + (i - k)
    split a k i h = omega arith

    whole : (k i : ℕ) → k ≤ i → k + (i - k) ≡ i
    whole k i h = omega arith

-- a piece that ends where the other begins, as dilation goes
back_next : (i s m k : ℕ) (t u v : List ℕ) → i + k + m + s ≤ length t → u ≡ piece_of true (i + k) s m t
    → v ≡ piece_of true i s k u → v ≡ piece_of true i s (k + m) t
unfolding piece_of
back_next i s m k t u v room e q =
    laid_front (i + s) k m (λ j. join_packed true (get_or t (i + j) 0) (get_or t (i + s + j) 0)) _ _ t u v
    (omega arith)
    (e ∙ ap (λ a. laid a m (λ j. join_packed true (get_or t (i + k + j) 0) (get_or t (i + k + s + j) 0)) t)
    (shift i s k))
    q
    (λ j l. ap₂ (join_packed true)
    (ap (λ l. get_or l (i + j) 0) e
    ∙ get_before (i + k + s) m _ t (i + j) (omega arith) (omega arith))
    (ap (λ l. get_or l (i + s + j) 0) e
    ∙ get_before (i + k + s) m _ t (i + s + j) (omega arith) (omega arith)))
    (λ j l. ap₂ (λ a b. join_packed true (get_or t a 0) (get_or t b 0)) (by i k j) (by' i s k j))
  where
    shift : (i s k : ℕ) → i + k + s ≡ i + s + k
    shift i s k = omega arith

    by : (i k j : ℕ) → i + k + j ≡ i + (k + j)
    by i k j = omega arith

    by' : (i s k j : ℕ) → i + k + s + j ≡ i + s + (k + j)
    by' i s k j = omega arith

-- a piece that begins where the other ends, as erosion goes
on_next : (c s m k : ℕ) (t u v : List ℕ) → c + m + k + s ≤ length t → u ≡ piece_of false c s m t
    → v ≡ piece_of false (c + m) s k u → v ≡ piece_of false c s (m + k) t
unfolding piece_of
on_next c s m k t u v room e q =
    laid_next c m k _ _ t u v (omega arith) e q
    (λ j l. ap₂ (join_packed false)
    (ap (λ l. get_or l (c + m + j) 0) e ∙ get_after c m _ t (c + m + j) (omega arith) (omega arith)
    ∙ ap (λ i. get_or t i 0) (by c m j))
    (ap (λ l. get_or l (c + m + s + j) 0) e
    ∙ get_after c m _ t (c + m + s + j) (omega arith) (omega arith)
    ∙ ap (λ i. get_or t i 0) (by' c m s j)))
  where
    by : (c m j : ℕ) → c + m + j ≡ c + (m + j)
    by c m j = omega arith

    by' : (c m s j : ℕ) → c + m + s + j ≡ c + s + (m + j)
    by' c m s j = omega arith

pub piece_next : (n s c m k : ℕ) (t u v : List ℕ) → c + m + k ≤ n → n + s ≤ length t
    → (grows : Bool) → u ≡ piece_of grows (start_of grows n c m) s m t
    → v ≡ piece_of grows (start_of grows n (c + m) k) s k u
    → v ≡ piece_of grows (start_of grows n c (m + k)) s (m + k) t
piece_next n s c m k t u v fits room false e q = on_next c s m k t u v (omega arith) e q
piece_next n s c m k t u v fits room true e q =
    back_next (n - c - (m + k)) s m k t u v (omega arith)
    (e ∙ ap (λ a. piece_of true a s m t) (here n c m k fits))
    (q ∙ ap (λ a. piece_of true a s k u) (there n c m k fits))
    ∙ ap (λ a. piece_of true (n - c - (m + k)) s a t) (turn m k)
  where
    here : (n c m k : ℕ) → c + m + k ≤ n → n - c - m ≡ n - c - (m + k) + k
    here n c m k h = omega arith

    there : (n c m k : ℕ) → c + m + k ≤ n → n - (c + m) - k ≡ n - c - (m + k)
    there n c m k h = omega arith

    turn : (m k : ℕ) → k + m ≡ m + k
    turn m k = omega arith

-- from the first byte on, and all of them
pub piece_more : (grows : Bool) (n s c k : ℕ) (t u v : List ℕ) → c + k ≤ n → n + s ≤ length t
    → u ≡ piece_of grows (start_of grows n 0 c) s c t → v ≡ piece_of grows (start_of grows n c k) s k u
    → v ≡ piece_of grows (start_of grows n 0 (c + k)) s (c + k) t
piece_more grows n s c k t u v h room e q =
    piece_next n s 0 c k t u v (omega arith) room grows e
    (q ∙ ap (λ a. piece_of grows (start_of grows n a k) s k u) (none c))
  where
    none : (c : ℕ) → c ≡ 0 + c
    none c = omega arith

pub piece_whole : (grows : Bool) (n s c : ℕ) (t u v : List ℕ) → c ≤ n → n + s ≤ length t
    → u ≡ piece_of grows (start_of grows n 0 c) s c t
    → v ≡ piece_of grows (start_of grows n c (n - c)) s (n - c) u → v ≡ piece_of grows 0 s n t
piece_whole grows n s c t u v h room e q =
    piece_more grows n s c (n - c) t u v (omega arith) room e q
    ∙ ap₂ (λ a b. piece_of grows a s b t) (first grows) (whole n c h)
  where
    whole : (n c : ℕ) → c ≤ n → c + (n - c) ≡ n
    whole n c h = omega arith

    first : (grows : Bool) → start_of grows n 0 (c + (n - c)) ≡ 0
    first true = omega arith
    first false = refl
