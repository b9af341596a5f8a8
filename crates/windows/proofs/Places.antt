-- A block, and then a row, joined with what stands at all places.
use Prim.Native.Nat.{ℕ, ◌+◌, ◌*◌, ◌/◌, ◌%◌, ◌≤◌}
use mathlib.Core.Path.{◌≡◌, refl, sym, ap, ap₂, ◌∙◌}
use mathlib.Core.Bool.{Bool, cond}
use mathlib.Core.List.{List}
use native.Mathlib.Omega.{arith}
use native.Mathlib.Numerals.{add-one}
use borrow.Author.Tests.{eq-eqb, ne_eqb}
use lib.ListN.{length, get_or, replicate, get_or-replicate}
use Rattle.basics.proofs.Lists.{length_firsts, get_d_firsts, firsts_same, list_is}
use Rattle.rows.specs.Steps.Fold.{start_by}
use Rattle.blocks.specs.Steps.Joins.{join_packed}
use Rattle.blocks.specs.Steps.Laid.{laid}
use Rattle.blocks.specs.Steps.Points.{eight_from}
use Rattle.blocks.specs.Steps.Block.{joined_block, joined_bits}
use Rattle.blocks.proofs.Laid.{laid_same, get_first}
use Rattle.basics.specs.Bytes.{Bytes}
use Rattle.basics.specs.Lists.{firsts}
use Rattle.morphology.proofs.Cells.{fold_same}
use Rattle.windows.specs.Steps.Widened.{widened_by}
use Rattle.windows.proofs.InPlace.{SameFrom, Ahead, eight_ahead}
use lib.Dec.{eqb}
use Rattle.morphology.specs.Operations.{fold}
use Rattle.windows.specs.Steps.Places.{eight_at, place_joined, byte_joined, places_joined, gathered_at}
use Rattle.windows.specs.Steps.Places.{joined_row}
use Rattle.windows.proofs.Packed.{fold_in}

swap : (i q m : ℕ) → i + q + m ≡ i + m + q
swap i q m = omega arith

-- ---- one place, on a byte's border or past it
pub place_even : (grows : Bool) (c b r : List ℕ) (i p : ℕ) → p % 8 ≡ 0 → r
    ≡ joined_block grows c b (i + p / 8) → r ≡ place_joined grows c b i p
unfolding joined_block place_joined eight_at
place_even grows c b r i p h e =
    e ∙ firsts_same _ _ 64
    (λ m k. ap (λ n. join_packed grows (get_or c m 0) n)
    (ap (λ n. get_or b n 0) (swap i (p / 8) m)
    ∙ ap (λ t. cond t (get_or b (i + m + p / 8) 0) (eight_from b (i + m + p / 8) (p % 8)))
    (sym (eq-eqb (p % 8) 0 h))))

pub place_odd : (grows : Bool) (c b r : List ℕ) (i p : ℕ) → (p % 8 ≡ 0 → ⊥) → r
    ≡ joined_bits grows c b (i + p / 8) (p % 8) → r ≡ place_joined grows c b i p
unfolding joined_bits place_joined eight_at
place_odd grows c b r i p h e =
    e ∙ firsts_same _ _ 64
    (λ m k. ap (λ n. join_packed grows (get_or c m 0) n)
    (ap (λ n. eight_from b n (p % 8)) (swap i (p / 8) m)
    ∙ ap (λ t. cond t (get_or b (i + m + p / 8) 0) (eight_from b (i + m + p / 8) (p % 8)))
    (sym (ne_eqb (p % 8) 0 h))))

-- ---- all places, one after another
pub places_none : (grows : Bool) (c b : List ℕ) (i : ℕ) (at : List ℕ) → length c ≡ 64 → c
    ≡ places_joined grows c b i at 0
unfolding places_joined byte_joined fold
places_none grows c b i at len = list_is (λ m. get_or c m 0) 64 c len (λ m h. refl)

pub places_more : (grows : Bool) (c acc next b : List ℕ) (i p : ℕ) (at : List ℕ) (j : ℕ) → acc
    ≡ places_joined grows c b i at j → p ≡ get_or at j 0
    → next ≡ place_joined grows acc b i p → next ≡ places_joined grows c b i at (j + 1)
unfolding places_joined place_joined byte_joined fold
places_more grows c acc next b i p at j so ep e =
    e ∙ firsts_same _ _ 64
    (λ m h. ap₂ (λ n q. join_packed grows n (eight_at b (i + m) q))
    (ap (λ l. get_or l m 0) so ∙ get_d_firsts _ 64 m h) ep)
    ∙ ap (places_joined grows c b i at) (sym (add-one j))

pub places_length : (grows : Bool) (c acc b : List ℕ) (i : ℕ) (at : List ℕ) (j : ℕ) → acc
    ≡ places_joined grows c b i at j → length acc ≡ 64
unfolding places_joined
places_length grows c acc b i at j e = ap length e ∙ length_firsts _ 64

-- ---- what stands at all places, gathered in place
eight_at_ahead : (l m : List ℕ) (i p : ℕ) → SameFrom i l m → eight_at l i p ≡ eight_at m i p
unfolding eight_at
eight_at_ahead l m i p same =
    ap₂ (λ x y. cond (eqb (p % 8) 0) x y) (same (i + p / 8) (omega arith))
    (eight_ahead l m i (i + p / 8) (p % 8) (omega arith) same)

pub ahead_gathered : (grows : Bool) (at : List ℕ) → Ahead (gathered_at grows at)
unfolding gathered_at byte_joined
ahead_gathered grows at l m i same =
    fold_same (join_packed grows) (start_by grows 255) _ _ (length at)
    (λ j h. eight_at_ahead l m i (get_or at j 0) same)

pub gathered_block : (grows : Bool) (c b e at : List ℕ) (i : ℕ) → c ≡ replicate 64 (start_by grows 255)
    → e ≡ places_joined grows c b i at (length at) → e ≡ firsts (λ j. gathered_at grows at b (i + j)) 64
unfolding places_joined gathered_at
gathered_block grows c b e at i ec ee =
    ee ∙ firsts_same _ _ 64
    (λ m h. ap (λ n. byte_joined grows n b (i + m) at (length at))
    (ap (λ l. get_or l m 0) ec ∙ get_or-replicate 64 m (start_by grows 255) 0 h))

-- and joined into a row: what is joined among itself first may be joined one after another
pub row_joined : (grows : Bool) (b g at t u : List ℕ) (n : ℕ) → Bytes t → length t ≤ 64 * n
    → 64 * n ≤ length b
    → g ≡ widened_by (gathered_at grows at) n b
    → u ≡ laid 0 (length t) (λ i. join_packed grows (get_or t i 0) (get_or g i 0)) t
    → u ≡ joined_row grows b at t
unfolding joined_row widened_by gathered_at byte_joined
row_joined grows b g at t u n bytes long fits eg eu =
    eu ∙ laid_same 0 (length t) _ _ t (omega arith)
    (λ i h. ap (join_packed grows (get_or t i 0))
    (ap (λ l. get_or l i 0) eg ∙ get_first (64 * n) (gathered_at grows at b) b i fits (omega arith))
    ∙ fold_in grows (get_or t i 0) (λ j. eight_at b i (get_or at j 0)) (length at) (bytes i))
