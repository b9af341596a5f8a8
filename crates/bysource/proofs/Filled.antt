-- The rooms of bytes as they are filled: the padded row, and its windows.
use Prim.Native.Nat.{ℕ, ◌+◌, ◌-◌, ◌≤◌, ◌<◌}
use mathlib.Core.Path.{◌≡◌, sym, ap, ◌∙◌, subst}
use mathlib.Core.Bool.{Bool, false}
use mathlib.Core.List.{List}
use mathlib.Core.Logic.{⊎_elim}
use native.Mathlib.Omega.{arith}
use lib.ListN.{length, get_or, replicate, length-replicate, get_or-replicate}
use Rattle.rows.specs.Steps.Fold.{start_by}
use Rattle.blocks.specs.Steps.Laid.{laid}
use Rattle.blocks.proofs.Laid.{get_in, get_first, get_before, get_after, where_is, length_laid}
use Rattle.packedline.specs.Steps.Padded.{faced_byte}
use Rattle.rooms.specs.Steps.Lanes.{bytes_way, four_at, widened_to}
use Rattle.strokes.specs.Steps.Strokes.{room}
use Rattle.sourceparts.specs.Steps.Shown.{pad_at}
use Rattle.sourceparts.proofs.Shown.{pad_in, pad_before, pad_after, cells_rooms, runs_rooms}
use Rattle.picture.specs.declared.Depth.TheVariants.{EightBit}
use Rattle.picture.specs.Points.{value_in}
use Rattle.bysource.specs.Steps.Filled.{RoomsOf}
use Rattle.bysource.specs.Steps.Bytes.{bytes_far}

-- ---- the padded row, where it begins at `base`
module _ (grows : Bool) (s : List ℕ) where
  abbrev P : ℕ → ℕ
  P = pad_at grows 255 (length s) (λ x. get_or s x 0)

  module _ (base : ℕ) (u : List ℕ) (few : length s ≤ 1024) (near : base ≤ 1232)
      (e : u ≡ laid (base + 64) (length s) (λ i. faced_byte false (get_or s i 0)) (replicate 2464
      (start_by grows 255)))
    where
      padded : (q : ℕ) → q < 1232 → get_or u (base + q) 0 ≡ P q
      padded q h =
          ap (λ l. get_or l (base + q) 0) e
          ∙ ⊎_elim
          (λ k. get_before (base + 64) (length s) f r (base + q) fits (omega arith)
          ∙ get_or-replicate 2464 (base + q) (start_by grows 255) 0 (omega arith)
          ∙ sym (pad_before grows 255 (length s) (λ x. get_or s x 0) q k))
          (⊎_elim
          (λ k. ap (λ i. get_or (laid (base + 64) (length s) f r) i 0) (split base q k.0)
          ∙ get_in (base + 64) (length s) f r (q - 64)
          (subst (λ n. base + 64 + length s ≤ n) (sym long) (omega arith)) (omega (arith, k.0, k.1))
          ∙ sym (pad_in grows 255 (length s) (λ x. get_or s x 0) q k.0 k.1))
          (λ k. get_after (base + 64) (length s) f r (base + q) fits (omega arith)
          ∙ get_or-replicate 2464 (base + q) (start_by grows 255) 0 (omega arith)
          ∙ sym (pad_after grows 255 (length s) (λ x. get_or s x 0) q (omega arith) k)))
          (where_is 64 (length s) q)
        where
          f : ℕ → ℕ
          f i = faced_byte false (get_or s i 0)

          r : List ℕ
          r = replicate 2464 (start_by grows 255)

          long : length r ≡ 2464
          long = length-replicate {A = ℕ} 2464 (start_by grows 255)

          fits : base + q < length r
          fits = subst (λ n. base + q < n) (sym long) (omega arith)

          split : (b q : ℕ) → 64 ≤ q → b + q ≡ b + 64 + (q - 64)
          split b q h = omega arith

zero_plus : (p : ℕ) → 0 + p ≡ p
zero_plus p = omega arith

module _ (grows : Bool) (s : List ℕ) (few : length s ≤ 1024) where
  abbrev n : ℕ
  n = bytes_far (length s)

  blocks : n ≤ 1220
  blocks = omega (arith, few)

  -- ---- the rooms of single cells
  pub cells_filled : (u v : List ℕ) → length u ≡ 2464
      → u ≡ laid 64 (length s) (λ i. faced_byte false (get_or s i 0)) (replicate 2464 (start_by grows 255))
      → v ≡ widened_to bytes_way grows 0 room n 1 1 1 u → RoomsOf EightBit grows 0 s (length s) n v
  unfolding widened_to four_at value_in
  cells_filled u v lu eu ev =
      cells_rooms grows (P grows s) (λ i. get_or u i 0) (λ i. get_or v i 0) (n)
      (λ q h. ap (λ j. get_or u j 0) (sym (zero_plus q))
      ∙ padded grows s 0 u few (omega arith) eu q (omega arith))
      (λ p h. ap (λ l. get_or l p 0) ev
      ∙ get_before room n (λ i. four_at bytes_way grows u 1 1 1 (0 + i)) u p (omega arith) (omega arith))
      (λ p h. ap (λ l. get_or l (room + p) 0) ev
      ∙ get_in room n (λ i. four_at bytes_way grows u 1 1 1 (0 + i)) u p (omega arith) h
      ∙ ap (four_at bytes_way grows u 1 1 1) (zero_plus p))

  -- ---- and of runs
  pub runs_filled : (u v x : List ℕ) → length u ≡ 2464
      → u ≡ laid (room + 64) (length s) (λ i. faced_byte false (get_or s i 0)) (replicate 2464
      (start_by grows 255))
      → v ≡ widened_to bytes_way grows room 0 n 1 2 3 u → x ≡ widened_to bytes_way grows 0 room n 4 8 12 v
      → RoomsOf EightBit grows 1 s (length s) n x
  unfolding widened_to four_at value_in
  runs_filled u v x lu eu ev ex =
      runs_rooms grows (P grows s) (λ i. get_or u i 0) (λ i. get_or v i 0) (n) (λ i. get_or x i 0)
      (λ q h. padded grows s room u few (omega arith) eu q (omega arith))
      (λ p h. ap (λ l. get_or l p 0) ev
      ∙ get_first (n) (λ i. four_at bytes_way grows u 1 2 3 (room + i)) u p (omega arith) h)
      (λ p h. ap (λ l. get_or l p 0) ex
      ∙ get_before room n (λ i. four_at bytes_way grows v 4 8 12 (0 + i)) v p (omega (arith, lv))
      (omega arith))
      (λ p h. ap (λ l. get_or l (room + p) 0) ex
      ∙ get_in room n (λ i. four_at bytes_way grows v 4 8 12 (0 + i)) v p (omega (arith, lv)) h
      ∙ ap (four_at bytes_way grows v 4 8 12) (zero_plus p))
    where
      lv : length v ≡ 2464
      lv = ap length ev ∙ length_laid 0 (n) (λ i. four_at bytes_way grows u 1 2 3 (room + i)) u ∙ lu
