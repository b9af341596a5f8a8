-- Every list that the work makes is one of bytes.
use Prim.Native.Nat.{ℕ, ◌+◌, ◌-◌, ◌*◌, ◌/◌, ◌%◌, ◌^◌, ◌≤◌, ◌<◌}
use mathlib.Core.Path.{◌≡◌, sym, ap, ◌∙◌, subst}
use mathlib.Core.Bool.{Bool, true, false, cond, ◌&&◌}
use mathlib.Core.List.{List}
use mathlib.Core.Logic.{⊎_elim}
use native.Mathlib.Omega.{arith}
use native.Mathlib.Nat.{mod-lt, lt_of_le_of_lt, eq-or-lt_of_le}
use lib.Dec.{leb, ltb, eqb, lit<}
use lib.Pow.{pow_pos, shr_le}
use lib.Bits.{or_lt, and_lt}
use lib.ListN.{length, get_or, set, replicate, length-set, length-replicate, get_or-replicate}
use lib.ListN.{get_or-eq_default}
use lib.Seq.{get_or-set_same, get_or-set_other}
use Rattle.basics.proofs.Lists.{get_d_firsts}
use Rattle.basics.proofs.SliceParts.{below_or_not}
use Rattle.rows.specs.Steps.Fold.{start_by}
use Rattle.blocks.specs.Steps.Laid.{laid, laid_at}
use Rattle.blocks.specs.Steps.Points.{eight_from, shifted_of}
use Rattle.blocks.proofs.Laid.{length_laid}
use Rattle.basics.specs.Bytes.{Bytes}
use Rattle.windows.specs.Steps.Widened.{widen1_at, widen4_at, widened_by, windows_of}
use Rattle.windows.proofs.Packed.{join_lt}
use Rattle.packedline.specs.Steps.Padded.{faced_byte, spare_of, blotted_by, copied_of, padded_of}

past : (l : List ℕ) (i : ℕ) → length l ≤ i → get_or l i 0 < 256
past l i h = subst (λ n. n < 256) (sym (get_or-eq_default l 0 h)) (lit< tt)

pub bytes_laid : (a n : ℕ) (f : ℕ → ℕ) (t : List ℕ) → Bytes t → ((i : ℕ) → f i < 256) → Bytes (laid a n f t)
unfolding laid laid_at
bytes_laid a n f t bytes small i =
    ⊎_elim
    (λ h. subst (λ m. m < 256) (sym (get_d_firsts _ (length t) i h)) (by (leb a i && ltb i (a + n))))
    (λ h. past (laid a n f t) i (subst (λ m. m ≤ i) (sym (length_laid a n f t)) h))
    (below_or_not i (length t))
  where
    by : (b : Bool) → cond b (f (i - a)) (get_or t i 0) < 256
    by true = small (i - a)
    by false = bytes i

pub bytes_set : (t : List ℕ) (k v : ℕ) → Bytes t → v < 256 → Bytes (set t k v)
bytes_set t k v bytes small i =
    ⊎_elim
    (λ h. ⊎_elim
    (λ l. other (λ e. absurd (omega arith)))
    (λ l. ⊎_elim
    (λ e. subst (λ m. m < 256)
    (sym (ap (λ j. get_or (set t k v) j 0) (sym e) ∙ get_or-set_same t k v 0 (omega arith))) small)
    (λ q. other (λ e. absurd (omega arith)))
    (eq-or-lt_of_le l))
    (below_or_not i k))
    (λ h. past (set t k v) i (subst (λ m. m ≤ i) (sym (length-set t k v)) h))
    (below_or_not i (length t))
  where
    other : (i ≡ k → ⊥) → get_or (set t k v) i 0 < 256
    other ne = subst (λ m. m < 256) (sym (get_or-set_other t k i v 0 ne)) (bytes i)

pub bytes_replicate : (n v : ℕ) → v < 256 → Bytes (replicate n v)
bytes_replicate n v small i =
    ⊎_elim (λ h. subst (λ m. m < 256) (sym (get_or-replicate n i v 0 h)) small)
    (λ h. past (replicate n v) i (subst (λ m. m ≤ i) (sym (length-replicate n v)) h)) (below_or_not i n)

-- ---- windows
eight_lt : (l : List ℕ) → Bytes l → (i d : ℕ) → eight_from l i d < 256
unfolding eight_from shifted_of
eight_lt l bytes i d =
    or_lt 8 (get_or l i 0 * 2 ^ d % 2 ^ 8) (get_or l (i + 1) 0 / 2 ^ (8 - d))
    (mod-lt (get_or l i 0 * 2 ^ d) {m = 2 ^ 8} (pow_pos 8))
    (lt_of_le_of_lt (shr_le (get_or l (i + 1) 0) (8 - d)) (bytes (i + 1)))

module _ (grows : Bool) (l : List ℕ) (bytes : Bytes l) where
  widen1_lt : (i : ℕ) → widen1_at grows l i < 256
  unfolding widen1_at
  widen1_lt i =
      join_lt grows 8 _ (eight_from l i 3)
      (join_lt grows 8 _ (eight_from l i 2)
      (join_lt grows 8 (get_or l i 0) (eight_from l i 1) (bytes i) (eight_lt l bytes i 1))
      (eight_lt l bytes i 2)) (eight_lt l bytes i 3)

  widen4_lt : (i : ℕ) → widen4_at grows l i < 256
  unfolding widen4_at
  widen4_lt i =
      join_lt grows 8 _ (eight_from l (i + 1) 4)
      (join_lt grows 8 _ (get_or l (i + 1) 0)
      (join_lt grows 8 (get_or l i 0) (eight_from l i 4) (bytes i) (eight_lt l bytes i 4)) (bytes (i + 1)))
      (eight_lt l bytes (i + 1) 4)

  pub bytes_widened1 : (n : ℕ) → Bytes (widened_by (widen1_at grows) n l)
  unfolding widened_by
  bytes_widened1 n = bytes_laid 0 (64 * n) (widen1_at grows l) l bytes widen1_lt

  pub bytes_widened4 : (n : ℕ) → Bytes (widened_by (widen4_at grows) n l)
  unfolding widened_by
  bytes_widened4 n = bytes_laid 0 (64 * n) (widen4_at grows l) l bytes widen4_lt

pub bytes_windows : (grows : Bool) (n m : ℕ) (l : List ℕ) → Bytes l → Bytes (windows_of grows n m l)
unfolding windows_of
bytes_windows grows n m l bytes = by (leb m 1) (leb m 4)
  where
    by : (s t : Bool) → Bytes (cond s l
        (cond t (widened_by (widen1_at grows) n l)
        (widened_by (widen4_at grows) n (widened_by (widen1_at grows) n l))))
    by true t = bytes
    by false true = bytes_widened1 grows l bytes n
    by false false = bytes_widened4 grows (widened_by (widen1_at grows) n l) (bytes_widened1 grows l bytes n)
        n

-- ---- the padded row
pub neutral_lt : (grows : Bool) → start_by grows 255 < 256
neutral_lt true = lit< tt
neutral_lt false = lit< tt

pub faced_lt : (over : Bool) (v : ℕ) → v < 256 → faced_byte over v < 256
faced_lt true v h = omega arith
faced_lt false v h = h

pub spare_lt : (d : ℕ) → spare_of d < 256
unfolding spare_of
spare_lt d = by (eqb d 0)
  where
    by : (t : Bool) → cond t 0 (255 / 2 ^ d) < 256
    by true = lit< tt
    by false = lt_of_le_of_lt (shr_le 255 d) (lit< tt)

blotted_lt : (grows : Bool) (v m : ℕ) → v < 256 → m < 256 → blotted_by grows v m < 256
blotted_lt true v m h k = and_lt 8 v (255 - m) h (omega arith)
blotted_lt false v m h k = or_lt 8 v m h k

pub bytes_copied : (over grows : Bool) (s : List ℕ) → Bytes s → Bytes (copied_of over grows s)
unfolding copied_of
bytes_copied over grows s bytes =
    bytes_laid 8 (length s) _ _ (bytes_replicate 194 (start_by grows 255) (neutral_lt grows))
    (λ i. faced_lt over (get_or s i 0) (bytes i))

pub bytes_padded : (over grows : Bool) (s : List ℕ) (w : ℕ) → Bytes s → Bytes (padded_of over grows s w)
unfolding padded_of
bytes_padded over grows s w bytes =
    bytes_set (copied_of over grows s) _ _ (bytes_copied over grows s bytes)
    (blotted_lt grows _ (spare_of (w % 8)) (bytes_copied over grows s bytes _) (spare_lt (w % 8)))
