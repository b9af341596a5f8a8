-- A lane, one way to join what stands at places of a room: two bytes at once, a block, and a row.
use Rattle.std.specs.Prelude.{ℕ, ◌+◌, ◌≤◌, ◌<◌, ◌≡◌, Bool, List, ◌⊎◌, get_or, length}
use Rattle.std.proofs.Common.{true, false, arith}
use Rattle.basics.specs.Lists.{firsts}
use Rattle.morphology.specs.Operations.{fold}
use Rattle.blocks.specs.Steps.Laid.{laid}
use Rattle.rows.specs.Steps.Fold.{join_by}

-- how two bytes are joined, what stands p places past byte i of a room,
-- and how many bytes past i that reaches
pub record Way : Type 0 where
  pub join : Bool → ℕ → ℕ → ℕ
  pub seen : List ℕ → ℕ → ℕ → ℕ
  pub reach : ℕ → ℕ

-- bytes are joined in any order, and twice is once;
-- and what stands at a place is of the bytes that it reaches
pub record Joins (way : Way) : Type 0 where
  pub swapped : (grows : Bool) (x y z : ℕ)
      → way.join grows (way.join grows x y) z ≡ way.join grows (way.join grows x z) y
  pub twice : (grows : Bool) (x y : ℕ) → way.join grows (way.join grows x y) y ≡ way.join grows x y
  pub near : (l m : List ℕ) (i p : ℕ)
      → ((q : ℕ) → i ≤ q → q ≤ i + way.reach p → get_or l q 0 ≡ get_or m q 0)
      → way.seen l i p ≡ way.seen m i p

-- a block with what stands p places past its bytes
unfoldable pub place_joined : Way → Bool → List ℕ → List ℕ → ℕ → ℕ → List ℕ
place_joined way grows c b i p = firsts (λ m. way.join grows (get_or c m 0) (way.seen b (i + m) p)) 64

-- byte i, at the first k of the places `at`, joined into v
unfoldable pub byte_joined : Way → Bool → ℕ → List ℕ → ℕ → List ℕ → ℕ → ℕ
byte_joined way grows v b i at k = fold (way.join grows) v (λ j. way.seen b i (get_or at j 0)) k

unfoldable pub places_joined : Way → Bool → List ℕ → List ℕ → ℕ → List ℕ → ℕ → List ℕ
places_joined way grows c b i at k = firsts (λ m. byte_joined way grows (get_or c m 0) b (i + m) at k) 64

-- the bytes of t, each joined with what stands at all places
unfoldable pub row_joined : Way → Bool → List ℕ → List ℕ → List ℕ → List ℕ
row_joined way grows b at t =
    laid 0 (length t) (λ m. byte_joined way grows (get_or t m 0) b m at (length at)) t

-- n bytes from each place on lie within room
abbrev pub Within : Way → List ℕ → ℕ → ℕ → Type 0
Within way at n room = (j : ℕ) → j < length at → way.reach (get_or at j 0) + n ≤ room

-- ---- windows of four places

-- what stands at byte i, and d, e and f places past it
unfoldable pub four_at : Way → Bool → List ℕ → ℕ → ℕ → ℕ → ℕ → ℕ
four_at way grows b d e f i =
    way.join grows (way.join grows (way.join grows (get_or b i 0) (way.seen b i d)) (way.seen b i e))
    (way.seen b i f)

-- in the n bytes from `to` on, the joins of what stands from `from` on
unfoldable pub widened_to : Way → Bool → ℕ → ℕ → ℕ → ℕ → ℕ → ℕ → List ℕ → List ℕ
widened_to way grows from to n d e f b = laid to n (λ i. four_at way grows b d e f (from + i)) b

-- what is read, so many bytes past the n, lies within room and apart from what is written
abbrev pub Clear : ℕ → ℕ → ℕ → ℕ → ℕ → Type 0
Clear room from to n reach = (from + n + reach ≤ room) × ((from + n + reach ≤ to) ⊎ (to + n ≤ from))

-- the bytes are a block and more, or none
pub record Apart (way : Way) (room from to n d e f : ℕ) : Type 0 where
  pub whole : (n ≡ 0) ⊎ (64 ≤ n)
  pub writes : to + n ≤ room
  pub first : Clear room from to n (way.reach d)
  pub second : Clear room from to n (way.reach e)
  pub third : Clear room from to n (way.reach f)

-- ---- bytes of one value each
abbrev byte_seen : List ℕ → ℕ → ℕ → ℕ
byte_seen b i p = get_or b (i + p) 0

abbrev same : ℕ → ℕ
same p = p

abbrev pub bytes_way : Way
bytes_way = record {
  join = join_by;
  seen = byte_seen;
  reach = same;
}

bytes_swapped : (grows : Bool) (x y z : ℕ) → join_by grows (join_by grows x y) z
    ≡ join_by grows (join_by grows x z) y
bytes_swapped true x y z = omega arith
bytes_swapped false x y z = omega arith

bytes_twice : (grows : Bool) (x y : ℕ) → join_by grows (join_by grows x y) y ≡ join_by grows x y
bytes_twice true x y = omega arith
bytes_twice false x y = omega arith

bytes_near : (l m : List ℕ) (i p : ℕ) → ((q : ℕ) → i ≤ q → q ≤ i + p → get_or l q 0 ≡ get_or m q 0)
    → byte_seen l i p ≡ byte_seen m i p
bytes_near l m i p same = same (i + p) (omega arith) (omega arith)

pub bytes_join : Joins bytes_way
bytes_join = record {
  swapped = bytes_swapped;
  twice = bytes_twice;
  near = bytes_near;
}
