-- Rows joined one after another, a block or a byte at a time.
use Prim.Native.Nat.{ℕ, zero, suc, ◌+◌, ◌*◌, ◌≤◌, ◌<◌, max}
use mathlib.Core.Path.{◌≡◌, refl, sym, ap, ap₂, ◌∙◌, subst}
use mathlib.Core.Bool.{Bool}
use mathlib.Core.List.{List}
use mathlib.Core.Logic.{⊎_elim}
use native.Mathlib.Omega.{arith}
use native.Mathlib.Nat.{mul-le-mul_right}
use native.Mathlib.Numerals.{add-one}
use lib.ListN.{length, get_or, replicate, get_or-replicate, length-replicate}
use Rattle.basics.specs.Lists.{firsts}
use Rattle.basics.proofs.Lists.{get_d_firsts, firsts_same, list_is}
use Rattle.basics.proofs.SliceParts.{below_or_not}
use Rattle.picture.proofs.Sizes.{row_room}
use Rattle.morphology.specs.Operations.{fold}
use Rattle.rows.specs.Steps.Fold.{start_by}
use Rattle.joins.specs.Steps.Joins.{join_at, joined_at}
use Rattle.blocks.specs.Steps.Laid.{laid}
use Rattle.blocks.proofs.Laid.{get_first}
use Rattle.columns.specs.Steps.Down.{down_at, also_at, Pair, Inside}

-- a number of rows is no greater than their bytes
some_bytes : (a n : ℕ) → 1 ≤ n → a ≤ a * n
some_bytes zero n h = omega arith
some_bytes (suc a) n h = omega (arith, some_bytes a n h)

-- row lo + v lies in ns bytes, and so do k bytes from where it begins; so does its number
pub row_in : (lo v count n k ns : ℕ) → v < count → (lo + count) * n + k ≤ ns + n → 1 ≤ n
    → ((lo + v) * n + k ≤ ns) × (lo + v ≤ ns)
row_in lo v count n k ns h fits some =
    (within, omega (arith, some_bytes (lo + v) n some, within))
  where
    less : (lo v count : ℕ) → v < count → lo + v < lo + count
    less lo v count h = omega arith

    within : (lo + v) * n + k ≤ ns
    within = omega (arith, row_room n (less lo v count h), fits)

module _ (packed grows : Bool) (s : List ℕ) (n lo : ℕ) where
  pub down_none : (i : ℕ) → start_by grows 255 ≡ down_at packed grows s n lo 0 i
  unfolding down_at fold
  down_none i = refl

  pub down_more : (v i c d : ℕ) → c ≡ down_at packed grows s n lo v i
      → d ≡ join_at packed grows c (get_or s ((lo + v) * n + i) 0) → d ≡ down_at packed grows s n lo (v + 1) i
  unfolding down_at fold
  down_more v i c d ec ed = ed ∙ rw (add-one v) (ap (λ a. join_at packed grows a (get_or s ((lo + v) * n + i)
      0)) ec)

  pub block_none : (i : ℕ) (c : List ℕ) (z : ℕ) → z ≡ start_by grows 255 → c ≡ replicate 64 z
      → c ≡ firsts (λ m. down_at packed grows s n lo 0 (i + m)) 64
  block_none i c z ez e =
      list_is _ 64 c (ap length e ∙ length-replicate 64 z)
      (λ m h. ap (λ l. get_or l m 0) e ∙ get_or-replicate 64 m z 0 h ∙ ez ∙ down_none (i + m))

  pub block_more : (v i : ℕ) (c d : List ℕ) → c ≡ firsts (λ m. down_at packed grows s n lo v (i + m)) 64
      → d ≡ joined_at packed grows c s ((lo + v) * n + i)
      → d ≡ firsts (λ m. down_at packed grows s n lo (v + 1) (i + m)) 64
  unfolding joined_at
  block_more v i c d ec ed =
      ed ∙ firsts_same _ _ 64 (λ m h.
      down_more v (i + m) _ _ (ap (λ l. get_or l m 0) ec ∙ get_d_firsts _ 64 m h)
      (ap (λ k. join_at packed grows (get_or c m 0) (get_or s k 0)) (group ((lo + v) * n) i m)))
    where
      group : (a i m : ℕ) → a + i + m ≡ a + (i + m)
      group a i m = omega arith

  -- and one row more
  pub also_block : (count row i : ℕ) (c d : List ℕ) → c ≡ firsts (λ m. down_at packed grows s n lo count (i
      + m)) 64
      → d ≡ joined_at packed grows c s (row * n + i)
      → d ≡ firsts (λ m. also_at packed grows s n lo count row (i + m)) 64
  unfolding joined_at also_at
  also_block count row i c d ec ed =
      ed ∙ firsts_same _ _ 64 (λ m h.
      ap₂ (λ a k. join_at packed grows a (get_or s k 0)) (ap (λ l. get_or l m 0) ec ∙ get_d_firsts _ 64 m h)
      (group (row * n) i m))
    where
      group : (a i m : ℕ) → a + i + m ≡ a + (i + m)
      group a i m = omega arith

  -- the same at byte 0
  pub also_first : (count row : ℕ) (c d : List ℕ) → c ≡ firsts (λ m. down_at packed grows s n lo count (0
      + m)) 64
      → d ≡ joined_at packed grows c s (row * n) → d ≡ firsts (also_at packed grows s n lo count row) 64
  also_first count row c d ec ed =
      also_block count row 0 c d ec (ed ∙ ap (joined_at packed grows c s) (more (row * n)))
      ∙ firsts_same _ _ 64 (λ m h. ap (also_at packed grows s n lo count row) (none m))
    where
      more : (x : ℕ) → x ≡ x + 0
      more x = omega arith

      none : (m : ℕ) → 0 + m ≡ m
      none m = omega arith

  pub also_byte : (count row i c d : ℕ) → c ≡ down_at packed grows s n lo count i
      → d ≡ join_at packed grows c (get_or s (row * n + i) 0) → d ≡ also_at packed grows s n lo count row i
  unfolding also_at
  also_byte count row i c d ec ed = ed ∙ ap (λ a. join_at packed grows a (get_or s (row * n + i) 0)) ec

-- a row made the way that was asked for
pub as_asked : (packed grows way : Bool) (s u : List ℕ) (n lo count row : ℕ) → grows ≡ way
    → u ≡ firsts (also_at packed way s n lo count row) n → u
    ≡ firsts (also_at packed grows s n lo count row) n
as_asked packed grows way s u n lo count row e eu =
    eu ∙ ap (λ g. firsts (also_at packed g s n lo count row) n) (sym e)

-- ---- the rows of a source of ns bytes
-- the numbers of the rows are no greater
pub rows_few : (ns n nz first lo count last : ℕ) → Pair ns n nz first lo count last → 1 ≤ n
    → (first + 1 ≤ ns) × (last + 1 ≤ ns) × (lo + count ≤ ns)
rows_few ns n nz first lo count last p some = (
  omega (arith, some_bytes (first + 1) n some, p.one),
  omega (arith, some_bytes (last + 1) n some, p.other),
  omega (arith, some_bytes (lo + count) n some, p.common),
)

-- e is the row past the last that is read: it tells of them all
pub rows_inside : (ns n m first lo count last e : ℕ) → e ≡ max (max first last + 1) (lo + count)
    → e * n + m ≤ ns + n → Inside ns n m first lo count last
rows_inside ns n m first lo count last e ee fits =
    let rows : lo + count ≤ e = omega (arith, ee) in
    record {
      common = omega (arith, mul-le-mul_right n rows, fits);
      one = omega (arith, row_room n (before first e (omega (arith, ee))), fits);
      other = omega (arith, row_room n (before last e (omega (arith, ee))), fits);
    }
  where
    before : (a e : ℕ) → a + 1 ≤ e → a < e
    before a e h = omega arith

pub rows_end_in : (ns n nz first lo count last e : ℕ) → Pair ns n nz first lo count last
    → e ≡ max (max first last + 1) (lo + count) → e * n ≤ ns
rows_end_in ns n nz first lo count last e p ee =
    ⊎_elim (λ h. is (lo + count) (omega (arith, ee, h)) p.common)
    (λ h. ⊎_elim (λ k. is (last + 1) (omega (arith, ee, h, k)) (omega (arith, p.other)))
    (λ k. is (first + 1) (omega (arith, ee, h, k)) (omega (arith, p.one))) (below_or_not first last))
    (below_or_not (max first last + 1) (lo + count))
  where
    is : (a : ℕ) → e ≡ a → a * n ≤ ns → e * n ≤ ns
    is a h k = subst (λ b. b * n ≤ ns) (sym h) k

-- ---- a row of no byte
pub no_row : (F : ℕ → ℕ) (n : ℕ) (t : List ℕ) → length t ≡ n → n ≡ 0 → t ≡ firsts F n
no_row F n t en none = list_is F n t en (λ i h. absurd (omega (arith, h, none)))

-- a row that is shorter than a block: what is its own, by way of a room
pub short_row : (F : ℕ → ℕ) (n m : ℕ) (r a d u : List ℕ) → length r ≡ 64 → m ≡ n → n ≤ 64 → d ≡ firsts F 64
    → a ≡ laid 0 64 (λ i. get_or d i 0) r → u ≡ firsts (λ i. get_or a i 0) m → u ≡ firsts F n
short_row F n m r a d u er em few ed ea eu =
    eu ∙ ap (firsts (λ i. get_or a i 0)) em ∙ firsts_same _ _ n (λ i h. ap (λ l. get_or l i 0) ea
    ∙ get_first 64 (λ i. get_or d i 0) r i (omega (arith, er)) (omega arith)
    ∙ ap (λ l. get_or l i 0) ed ∙ get_d_firsts F 64 i (omega arith))
