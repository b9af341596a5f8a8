-- Blocks of windows made in another room.
use Prim.Native.Nat.{ℕ, ◌+◌, ◌-◌, ◌≤◌, ◌<◌}
use mathlib.Core.Path.{◌≡◌, sym, ap, ap₂, ◌∙◌, subst}
use mathlib.Core.Bool.{Bool}
use mathlib.Core.List.{List}
use mathlib.Core.Logic.{⊎_elim}
use native.Mathlib.Omega.{arith}
use lib.ListN.{length, get_or}
use Rattle.basics.specs.Lists.{firsts}
use Rattle.basics.proofs.Lists.{firsts_same}
use Rattle.basics.proofs.SliceParts.{below_or_not}
use Rattle.blocks.specs.Steps.Laid.{laid}
use Rattle.blocks.specs.Steps.Block.{block_of}
use Rattle.blocks.proofs.Laid.{laid_is, length_laid, get_in, get_before, get_after}
use Rattle.rooms.specs.Steps.Lanes.{Way, Joins, place_joined, four_at, widened_to, Clear, Apart}
use Rattle.rooms.proofs.Row.{got, block_got}

-- ---- one block of windows: three joins one after another
pub four_block : (way : Way) (grows : Bool) (b : List ℕ) (i : ℕ) (c x y z : List ℕ) (d e f : ℕ)
    → c ≡ block_of b i
    → x ≡ place_joined way grows c b i d → y ≡ place_joined way grows x b i e
    → z ≡ place_joined way grows y b i f
    → z ≡ firsts (λ j. four_at way grows b d e f (i + j)) 64
unfolding four_at place_joined
four_block way grows b i c x y z d e f ec ex ey ez =
    ez ∙ firsts_same _ _ 64
    (λ j h. ap (λ n. way.join grows n (way.seen b (i + j) f))
    (got (λ m. way.join grows (get_or x m 0) (way.seen b (i + m) e)) y ey j h
    ∙ ap (λ n. way.join grows n (way.seen b (i + j) e))
    (got (λ m. way.join grows (get_or c m 0) (way.seen b (i + m) d)) x ex j h
    ∙ ap (λ n. way.join grows n (way.seen b (i + j) d)) (block_got b c i ec j h))))

-- ---- a further part, which may lie over what was set
laid_over : (a n s m : ℕ) (f g : ℕ → ℕ) (t u v : List ℕ) → s ≤ n → n ≤ s + m → a + (s + m) ≤ length t
    → u ≡ laid a n f t → v ≡ laid (a + s) m g u → ((i : ℕ) → i < m → g i ≡ f (s + i)) → v ≡ laid a (s + m) f t
laid_over a n s m f g t u v hs hm h e q each =
    let len : length u ≡ length t = ap length e ∙ length_laid a n f t in
    laid_is a (s + m) f t v (ap length q ∙ length_laid (a + s) m g u ∙ len)
    (λ i hi k. ap (λ l. get_or l i 0) q ∙ get_before (a + s) m g u i (subst (λ z. i < z) (sym len) hi)
    (omega arith) ∙ ap (λ l. get_or l i 0) e ∙ get_before a n f t i hi k)
    (λ i hi k. ⊎_elim
    (λ z. ap (λ l. get_or l (a + i) 0) q
    ∙ get_before (a + s) m g u (a + i) (subst (λ z. a + i < z) (sym len) hi) (omega arith)
    ∙ ap (λ l. get_or l (a + i) 0) e ∙ get_in a n f t i (omega arith) (omega arith))
    (λ z. ap (λ l. get_or l (a + i) 0) q ∙ ap (λ j. get_or (laid (a + s) m g u) j 0) (split a s i z)
    ∙ get_in (a + s) m g u (i - s) (subst (λ z. a + s + m ≤ z) (sym len) (omega arith)) (omega arith)
    ∙ each (i - s) (omega arith) ∙ ap f (whole s i z))
    (below_or_not i s))
    (λ i hi k. ap (λ l. get_or l i 0) q ∙ get_after (a + s) m g u i (subst (λ z. i < z) (sym len) hi)
    (omega arith) ∙ ap (λ l. get_or l i 0) e ∙ get_after a n f t i hi (omega arith))
  where
    split : (a n i : ℕ) → n ≤ i → a + i ≡ a + n + (i - n)
    split a n i h = omega arith

    whole : (n i : ℕ) → n ≤ i → n + (i - n) ≡ i
    whole n i h = omega arith

-- ---- the blocks one after another: none, one more
module _ (way : Way) (joins : Joins way) (grows : Bool) (from to n d e f : ℕ) (b : List ℕ) where
  abbrev made : ℕ → ℕ
  made i = four_at way grows b d e f (from + i)

  module _ (fit : Apart way (length b) from to n d e f) (u : List ℕ) (m : ℕ) (part : m ≤ n)
      (so : u ≡ widened_to way grows from to m d e f b) where
    -- what is read has not been written
    same : (r : ℕ) → Clear (length b) from to n r → (p : ℕ) → from ≤ p → p < from + n + r
        → get_or u p 0 ≡ get_or b p 0
    unfolding widened_to
    same r clear p h l =
        ap (λ l. get_or l p 0) so
        ∙ ⊎_elim
        (λ q. get_before to m made b p (omega (arith, clear.0)) (omega arith))
        (λ q. get_after to m made b p (omega (arith, clear.0)) (omega arith)) clear.1

    same_at : (p q : ℕ) → Clear (length b) from to n (way.reach q) → from ≤ p → p < from + n
        → way.seen u p q ≡ way.seen b p q
    same_at p q clear h l =
        joins.near u b p q (λ x hx lx. same (way.reach q) clear x (omega arith) (omega arith))

    same_four : (p : ℕ) → from ≤ p → p < from + n → four_at way grows u d e f p ≡ four_at way grows b d e f p
    unfolding four_at
    same_four p h l =
        ap₂ (way.join grows)
        (ap₂ (way.join grows)
        (ap₂ (way.join grows) (same (way.reach d) fit.first p h (omega arith)) (same_at p d fit.first h l))
        (same_at p e fit.second h l))
        (same_at p f fit.third h l)

    pub widen_more : (i : ℕ) (c v : List ℕ) → i ≤ m → m ≤ i + 64 → i + 64 ≤ n
        → c ≡ firsts (λ j. four_at way grows u d e f (from + i + j)) 64
        → v ≡ laid (to + i) 64 (λ j. get_or c j 0) u → v ≡ widened_to way grows from to (i + 64) d e f b
    unfolding widened_to
    widen_more i c v near reach in_n ec ev =
        laid_over to m i 64 made (λ j. get_or c j 0) b u v near reach (omega (arith, fit.writes)) so ev
        (λ j h. got _ c ec j h ∙ same_four (from + i + j) (omega arith) (omega arith)
        ∙ ap (four_at way grows b d e f) (group from i j))
      where
        group : (a b c : ℕ) → a + b + c ≡ a + (b + c)
        group a b c = omega arith
