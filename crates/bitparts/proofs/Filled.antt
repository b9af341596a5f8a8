-- The rooms of packed points as they are filled: the padded row, and its windows.
use Prim.Native.Nat.{ℕ, ◌+◌, ◌-◌, ◌*◌, ◌/◌, ◌%◌, ◌≤◌, ◌<◌}
use mathlib.Core.Path.{◌≡◌, sym, ap, ◌∙◌}
use mathlib.Core.Bool.{Bool, false}
use mathlib.Core.List.{List}
use mathlib.Core.Logic.{◌⊎◌, inl, inr, ⊎_elim}
use native.Mathlib.Omega.{arith}
use native.Mathlib.Nat.{eq-or-lt_of_le}
use lib.ListN.{length, get_or, set, replicate, length-replicate, get_or-replicate, length-set}
use lib.Seq.{get_or-set_same, get_or-set_other}
use Rattle.basics.specs.Bits.{bit}
use Rattle.basics.specs.Bytes.{Bytes}
use Rattle.basics.proofs.SliceParts.{below_or_not}
use Rattle.rows.specs.Steps.Fold.{start_by}
use Rattle.blocks.specs.Steps.Laid.{laid}
use Rattle.blocks.specs.Steps.Points.{point_of}
use Rattle.blocks.proofs.Laid.{get_in, get_before, get_after, where_is, length_laid}
use Rattle.packedline.specs.Steps.Padded.{faced_byte, spare_of, blotted_by, copied_of, padded_of}
use Rattle.packedline.proofs.Margins.{point_front, point_in, point_past}
use Rattle.sourceparts.specs.Steps.Shown.{pad_at, four_join}
use Rattle.sourceparts.proofs.Shown.{pad_in, pad_before, pad_after, cells_rooms, runs_rooms}
use Rattle.rooms.specs.Steps.Lanes.{widened_to}
use Rattle.bitrooms.specs.Steps.Points.{bits_way}
use Rattle.bitrooms.proofs.Windows.{split, widened_point, kept_point}
use Rattle.picture.specs.declared.Depth.TheVariants.{OneBit}
use Rattle.picture.specs.Points.{value_in}
use Rattle.bysource.specs.Steps.Filled.{RoomsOf}
use Rattle.bitparts.specs.Steps.Filled.{copied_in, padded_in}
use Rattle.bitparts.specs.Steps.Points.{windows_of}

-- the padded row as it is made
pub padded_made : (grows : Bool) (at : ℕ) (s : List ℕ) (w : ℕ) (b0 b1 b2 : List ℕ)
    → b0 ≡ replicate 308 (start_by grows 255)
    → b1 ≡ laid at (length s) (λ i. faced_byte false (get_or s i 0)) b0
    → b2 ≡ set b1 (at + length s - 1) (blotted_by grows (get_or b1 (at + length s - 1) 0) (spare_of (w % 8)))
    → b2 ≡ padded_in grows at s w
unfolding padded_in copied_in
padded_made grows at s w b0 b1 b2 e e1 e2 =
    e2 ∙ ap (λ b. set b (at + length s - 1) (blotted_by grows (get_or b (at + length s - 1) 0) (spare_of
    (w % 8))))
    (e1 ∙ ap (laid at (length s) (λ i. faced_byte false (get_or s i 0))) e)

-- ---- the padded row, in the room that begins at `base`: byte by byte it is packedline's
module _ (grows : Bool) (s : List ℕ) (w base : ℕ) (bytes : Bytes s) (some : 1 ≤ w) (few : w ≤ 1024)
    (len : length s ≡ (w + 7) / 8) (near : base ≤ 154) where
  abbrev f : ℕ → ℕ
  f i = faced_byte false (get_or s i 0)

  abbrev mine : List ℕ
  mine = replicate 308 (start_by grows 255)

  abbrev theirs : List ℕ
  theirs = replicate 194 (start_by grows 255)

  mine_long : length mine ≡ 308
  mine_long = length-replicate {A = ℕ} 308 (start_by grows 255)

  theirs_long : length theirs ≡ 194
  theirs_long = length-replicate {A = ℕ} 194 (start_by grows 255)

  copied_same : (i : ℕ) → i < 154
      → get_or (copied_in grows (base + 8) s) (base + i) 0 ≡ get_or (copied_of false grows s) i 0
  unfolding copied_in copied_of
  copied_same i h =
      ⊎_elim
      (λ k. get_before (base + 8) (length s) f mine (base + i) (omega (arith, mine_long)) (omega arith)
      ∙ get_or-replicate 308 (base + i) (start_by grows 255) 0 (omega arith)
      ∙ sym (get_before 8 (length s) f theirs i (omega (arith, theirs_long)) k
      ∙ get_or-replicate 194 i (start_by grows 255) 0 (omega arith)))
      (⊎_elim
      (λ k. ap (λ j. get_or (laid (base + 8) (length s) f mine) j 0) (on base i k.0)
      ∙ get_in (base + 8) (length s) f mine (i - 8) (omega (arith, mine_long, len)) (omega
      (arith, k.0, k.1))
      ∙ sym (ap (λ j. get_or (laid 8 (length s) f theirs) j 0) (own i k.0)
      ∙ get_in 8 (length s) f theirs (i - 8) (omega (arith, theirs_long, len)) (omega (arith, k.0, k.1))))
      (λ k. get_after (base + 8) (length s) f mine (base + i) (omega (arith, mine_long)) (omega arith)
      ∙ get_or-replicate 308 (base + i) (start_by grows 255) 0 (omega arith)
      ∙ sym (get_after 8 (length s) f theirs i (omega (arith, theirs_long)) k
      ∙ get_or-replicate 194 i (start_by grows 255) 0 (omega arith))))
      (where_is 8 (length s) i)
    where
      on : (b i : ℕ) → 8 ≤ i → b + i ≡ b + 8 + (i - 8)
      on b i h = omega arith

      own : (i : ℕ) → 8 ≤ i → i ≡ 8 + (i - 8)
      own i h = omega arith

  mine_copied : length (copied_in grows (base + 8) s) ≡ 308
  unfolding copied_in
  mine_copied = length_laid (base + 8) (length s) f mine ∙ mine_long

  theirs_copied : length (copied_of false grows s) ≡ 194
  unfolding copied_of
  theirs_copied = length_laid 8 (length s) f theirs ∙ theirs_long

  byte_same : (i : ℕ) → i < 154
      → get_or (padded_in grows (base + 8) s w) (base + i) 0 ≡ get_or (padded_of false grows s w) i 0
  unfolding padded_in padded_of
  byte_same i h = ⊎_elim (λ e. last e) other (which i (8 + length s - 1))
    where
      which : (i n : ℕ) → (i ≡ n) ⊎ (i ≡ n → ⊥)
      which i n =
          ⊎_elim (λ l. inr (λ e. omega arith))
          (λ l. ⊎_elim (λ e. inl (sym e)) (λ m. inr (λ e. omega arith)) (eq-or-lt_of_le l))
          (below_or_not i n)

      mine_last : base + 8 + length s - 1 ≡ base + (8 + length s - 1)
      mine_last = omega (arith, len)

      last : i ≡ 8 + length s - 1
          → get_or (set (copied_in grows (base + 8) s) (base + 8 + length s - 1)
          (blotted_by grows (get_or (copied_in grows (base + 8) s) (base + 8 + length s - 1) 0) (spare_of
          (w % 8))))
          (base + i) 0
          ≡ get_or (set (copied_of false grows s) (8 + length s - 1)
          (blotted_by grows (get_or (copied_of false grows s) (8 + length s - 1) 0) (spare_of (w % 8)))) i 0
      last e =
          ap (λ j. get_or (set (copied_in grows (base + 8) s) (base + 8 + length s - 1)
          (blotted_by grows (get_or (copied_in grows (base + 8) s) (base + 8 + length s - 1) 0)
          (spare_of (w % 8)))) j 0) (ap (λ j. base + j) e ∙ sym mine_last)
          ∙ get_or-set_same (copied_in grows (base + 8) s) (base + 8 + length s - 1) _ 0
          (omega (arith, mine_copied, len))
          ∙ ap (λ v. blotted_by grows v (spare_of (w % 8)))
          (ap (λ j. get_or (copied_in grows (base + 8) s) j 0) mine_last
          ∙ copied_same (8 + length s - 1) (omega (arith, len)))
          ∙ sym (ap (λ j. get_or (set (copied_of false grows s) (8 + length s - 1)
          (blotted_by grows (get_or (copied_of false grows s) (8 + length s - 1) 0) (spare_of (w % 8)))) j 0)
          e
          ∙ get_or-set_same (copied_of false grows s) (8 + length s - 1) _ 0
          (omega (arith, theirs_copied, len)))

      other : (i ≡ 8 + length s - 1 → ⊥)
          → get_or (set (copied_in grows (base + 8) s) (base + 8 + length s - 1)
          (blotted_by grows (get_or (copied_in grows (base + 8) s) (base + 8 + length s - 1) 0) (spare_of
          (w % 8))))
          (base + i) 0
          ≡ get_or (set (copied_of false grows s) (8 + length s - 1)
          (blotted_by grows (get_or (copied_of false grows s) (8 + length s - 1) 0) (spare_of (w % 8)))) i 0
      other ne =
          get_or-set_other (copied_in grows (base + 8) s) (base + 8 + length s - 1) (base + i) _ 0
          (λ e. ne (omega (arith, e, mine_last)))
          ∙ copied_same i h
          ∙ sym (get_or-set_other (copied_of false grows s) (8 + length s - 1) i _ 0 ne)

  theirs_point : (q : ℕ) → q < 1232 → point_of (padded_of false grows s w) q ≡ pad_at grows 1 w (point_of s) q
  theirs_point q h =
      ⊎_elim
      (λ k. point_front false grows s w bytes some few len q k
      ∙ sym (pad_before grows 1 w (point_of s) q k))
      (λ k. ap (point_of (padded_of false grows s w)) (on q k)
      ∙ ⊎_elim
      (λ l. point_in false grows s w bytes some few len (q - 64) (omega arith)
      ∙ sym (pad_in grows 1 w (point_of s) q k l))
      (λ l. point_past false grows s w bytes some few len (q - 64) (omega arith) (omega arith)
      ∙ sym (pad_after grows 1 w (point_of s) q k l))
      (below_or_not q (64 + w)))
      (below_or_not q 64)
    where
      on : (q : ℕ) → 64 ≤ q → q ≡ 64 + (q - 64)
      on q h = omega arith

  padded : (q : ℕ) → q < 1232
      → point_of (padded_in grows (base + 8) s w) (8 * base + q) ≡ pad_at grows 1 w (point_of s) q
  unfolding point_of
  padded q h =
      split (padded_in grows (base + 8) s w) base q
      ∙ ap (λ v. bit v (7 - q % 8)) (byte_same (q / 8) (omega arith))
      ∙ theirs_point q h

  pub padded_length : (u : List ℕ) → u ≡ padded_in grows (base + 8) s w → length u ≡ 308
  unfolding padded_in
  padded_length u e = ap length e ∙ length-set (copied_in grows (base + 8) s) _ _ ∙ mine_copied

widened_long : (grows : Bool) (from to n d e f : ℕ) (b : List ℕ)
    → length (widened_to bits_way grows from to n d e f b) ≡ length b
unfolding widened_to
widened_long grows from to n d e f b = length_laid to n _ b

zero_plus : (p : ℕ) → 0 + p ≡ p
zero_plus p = omega arith

module _ (grows : Bool) (s : List ℕ) (w : ℕ) (bytes : Bytes s) (some : 1 ≤ w) (few : w ≤ 1024)
    (len : length s ≡ (w + 7) / 8) where
  abbrev n : ℕ
  n = windows_of w

  made_few : n ≤ 152
  made_few = omega arith

  -- ---- the rooms of single cells
  pub cells_filled : (u v : List ℕ) → Bytes u → u ≡ padded_in grows 8 s w
      → v ≡ widened_to bits_way grows 0 154 n 1 1 1 u → RoomsOf OneBit grows 0 s w (8 * n) v
  unfolding value_in point_of
  cells_filled u v bu eu ev =
      cells_rooms grows (pad_at grows 1 w (point_of s)) (point_of u) (point_of v) (8 * n)
      (λ q h. ap (point_of u) (sym (zero_plus q)) ∙ ap (λ l. point_of l (0 + q)) eu
      ∙ padded grows s w 0 bytes some few len (omega arith) q (omega (arith, made_few)))
      (λ p h. ap (point_of v) (sym (zero_plus p)) ∙ ap (λ l. point_of l (0 + p)) ev
      ∙ kept_point grows u bu 1 1 1 0 154 n (omega (arith, lu, made_few)) 0 p
      (omega (arith, lu, made_few)) (inl (omega (arith, made_few)))
      ∙ ap (point_of u) (zero_plus p))
      (λ p h. ap (λ l. point_of l (1232 + p)) ev
      ∙ widened_point grows u bu 1 1 1 0 154 n (omega (arith, lu, made_few)) p h
      ∙ ap (four_join grows (point_of u) 1 1 1) (zero_plus p))
    where
      lu : length u ≡ 308
      lu = padded_length grows s w 0 bytes some few len (omega arith) u eu

  -- ---- and of runs
  pub runs_filled : (u v x : List ℕ) → Bytes u → Bytes v → u ≡ padded_in grows 162 s w
      → v ≡ widened_to bits_way grows 154 0 n 1 2 3 u → x ≡ widened_to bits_way grows 0 154 n 4 8 12 v
      → RoomsOf OneBit grows 1 s w (8 * n) x
  unfolding value_in point_of
  runs_filled u v x bu bv eu ev ex =
      runs_rooms grows (pad_at grows 1 w (point_of s)) (point_of u) (point_of v) (8 * n) (point_of x)
      (λ q h. ap (λ l. point_of l (1232 + q)) eu
      ∙ padded grows s w 154 bytes some few len (omega arith) q (omega (arith, made_few)))
      (λ p h. ap (point_of v) (sym (zero_plus p)) ∙ ap (λ l. point_of l (0 + p)) ev
      ∙ widened_point grows u bu 1 2 3 154 0 n (omega (arith, lu, made_few)) p h)
      (λ p h. ap (point_of x) (sym (zero_plus p)) ∙ ap (λ l. point_of l (0 + p)) ex
      ∙ kept_point grows v bv 4 8 12 0 154 n (omega (arith, lv, made_few)) 0 p
      (omega (arith, lv, made_few)) (inl (omega (arith, made_few)))
      ∙ ap (point_of v) (zero_plus p))
      (λ p h. ap (λ l. point_of l (1232 + p)) ex
      ∙ widened_point grows v bv 4 8 12 0 154 n (omega (arith, lv, made_few)) p h
      ∙ ap (four_join grows (point_of v) 4 8 12) (zero_plus p))
    where
      lu : length u ≡ 308
      lu = padded_length grows s w 154 bytes some few len (omega arith) u eu

      lv : length v ≡ 308
      lv = ap length ev ∙ widened_long grows 154 0 n 1 2 3 u ∙ lu
