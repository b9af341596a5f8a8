-- What a lane's laws give: a block joined with what stands at all places, one after another, and once more.
use Rattle.std.specs.Int.{div_ceil}
use Prim.Native.Nat.{ℕ, ◌+◌, ◌-◌, ◌*◌, ◌≤◌, ◌<◌, min}
use mathlib.Core.Path.{◌≡◌, refl, sym, ap, ap₂, ◌∙◌}
use mathlib.Core.Bool.{Bool, false}
use mathlib.Core.List.{List}
use mathlib.Core.Logic.{◌⊎◌, inl, inr}
use native.Mathlib.Omega.{arith}
use native.Mathlib.Numerals.{add-one}
use lib.ListN.{length, get_or}
use Rattle.basics.proofs.Lists.{length_firsts, firsts_same, list_is}
use Rattle.morphology.specs.Operations.{fold}
use Rattle.rows.specs.Steps.Fold.{join_by}
use Rattle.joins.specs.Steps.Joins.{joined_at}
use Rattle.rooms.specs.Steps.Lanes.{Way, Joins, bytes_way, place_joined, byte_joined, places_joined}
use Rattle.rooms.proofs.Row.{got, fold_again}

-- ---- n bytes by blocks: none, one more or the last, all
pub blocks_none : (n : ℕ) → 0 ≡ min 0 n
blocks_none n = omega arith

-- one block more, or the last
pub blocks_next : (k i n : ℕ) → i ≡ min (n - 64) (64 * k) → 64 ≤ n → k < div_ceil n 64
    → i + 64 ≡ min (64 * (k + 1)) n
blocks_next k i n e h l = omega (arith, e)

-- where there is one, a block is not too long
pub blocks_some : (k n : ℕ) → (n ≡ 0) ⊎ (64 ≤ n) → k < div_ceil n 64 → 64 ≤ n
blocks_some k n (inl e) l = omega (arith, e, l)
blocks_some k n (inr h) l = h

-- and all
pub blocks_all : (k n : ℕ) → div_ceil n 64 ≤ k → min (64 * k) n ≡ n
blocks_all k n h = omega arith

swap : (i p j : ℕ) → i + p + j ≡ i + j + p
swap i p j = omega arith

pub bytes_place : (grows : Bool) (c b : List ℕ) (i p : ℕ)
    → joined_at false grows c b (i + p) ≡ place_joined bytes_way grows c b i p
unfolding joined_at place_joined
bytes_place grows c b i p =
    firsts_same _ _ 64 (λ m h. ap (λ q. join_by grows (get_or c m 0) (get_or b q 0)) (swap i p m))

-- ---- a block joined with what stands at all places, one after another
module _ (way : Way) (grows : Bool) (c b : List ℕ) (i : ℕ) (at : List ℕ) where
  pub places_none : length c ≡ 64 → c ≡ places_joined way grows c b i at 0
  unfolding places_joined byte_joined fold
  places_none len = list_is (λ m. get_or c m 0) 64 c len (λ m h. refl)

  pub places_more : (acc next : List ℕ) (p j : ℕ) → acc ≡ places_joined way grows c b i at j
      → p ≡ get_or at j 0
      → next ≡ place_joined way grows acc b i p → next ≡ places_joined way grows c b i at (j + 1)
  unfolding places_joined place_joined byte_joined fold
  places_more acc next p j so ep e =
      e ∙ firsts_same _ _ 64
      (λ m h. ap₂ (λ n q. way.join grows n (way.seen b (i + m) q)) (got _ acc so m h) ep)
      ∙ ap (places_joined way grows c b i at) (sym (add-one j))

  pub places_length : (acc : List ℕ) (j : ℕ) → acc ≡ places_joined way grows c b i at j → length acc ≡ 64
  unfolding places_joined
  places_length acc j e = ap length e ∙ length_firsts _ 64

-- what becomes of the byte v at m, where all places are joined
abbrev pub joined_all : Way → Bool → List ℕ → List ℕ → ℕ → ℕ → ℕ
joined_all way grows b at v m = byte_joined way grows v b m at (length at)

-- again it is the same
pub all_again : (way : Way) → Joins way → (grows : Bool) (b at : List ℕ) (v m : ℕ)
    → joined_all way grows b at (joined_all way grows b at v m) m ≡ joined_all way grows b at v m
unfolding byte_joined
all_again way laws grows b at v m =
    fold_again (way.join grows) (laws.swapped grows) (laws.twice grows) (λ j. way.seen b m (get_or at j 0)) v
    (length at)
