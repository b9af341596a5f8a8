-- What one step down the columns makes of a picture's points, and so of runs.
use Prim.Native.Nat.{ℕ, ◌+◌, ◌-◌, ◌*◌, ◌/◌, ◌%◌, ◌≤◌, ◌<◌}
use mathlib.Core.Path.{◌≡◌, refl, sym, ap, ap₂, ◌∙◌, subst}
use mathlib.Core.Bool.{Bool, true, false, cond}
use mathlib.Core.List.{List}
use mathlib.Core.Logic.{◌⊎◌, inl, inr, ⊎_elim}
use native.Mathlib.Nat.{mul-le-mul_right}
use native.Mathlib.Omega.{arith}
use lib.ListN.{length, get_or, get_or-eq_default}
use Rattle.basics.specs.Bits.{bit}
use Rattle.basics.specs.Bytes.{Bytes}
use Rattle.basics.proofs.SliceParts.{below_or_not}
use Rattle.picture.specs.declared.Depth.TheVariants.{OneBit}
use Rattle.picture.specs.Frame.{Frame, frame, picture_bytes}
use Rattle.picture.specs.Points.{value_at}
use Rattle.picture.specs.Bytes.{Picture, written}
use Rattle.picture.proofs.Sizes.{row_room}
use Rattle.morphology.specs.Operations.{flat}
use Rattle.morphology.specs.Order.{Bounded}
use Rattle.rows.specs.Steps.Fold.{join_by}
use Rattle.rows.specs.Steps.Ways.{swept_by}
use Rattle.rows.proofs.Swept.{swept_bounded}
use Rattle.blocks.proofs.Laid.{get_in, get_first, get_before, get_after}
use Rattle.blocks.proofs.Points.{bit_join}
use Rattle.sizes.specs.Spectrum.{rect}
use Rattle.sizes.proofs.Squares.{by_one}
use Rattle.rowruns.specs.Steps.Pieces.{piece_of}
use Rattle.rowruns.proofs.Pieces.{length_piece, piece_none}
use Rattle.rowruns.proofs.Points.{value_at_lem, value_one, shown_written, written_long, written_rest}
use Rattle.rowruns.proofs.Points.{written_point}
use Rattle.rowruns.proofs.Columns.{Alone, run_met, run_alone}

module _ (n h d : ℕ) (u : List ℕ) (room : h * n ≤ length u) where
  abbrev s : ℕ
  s = d * n

  abbrev m : ℕ
  m = (h - d) * n

  parts : d ≤ h → m + s ≡ h * n
  parts dh = let e : h - d + d ≡ h = omega arith in omega (arith, ap (λ k. k * n) e)

  -- row a and the row d further on
  pub piece_met : (grows : Bool) (x a : ℕ) → x < n * 8 → a + d < h
      → value_at OneBit (piece_of grows 0 s m u) (n * 8) x (cond grows (a + d) a)
      ≡ join_by grows (value_at OneBit u (n * 8) x a) (value_at OneBit u (n * 8) x (a + d))
  unfolding piece_of
  piece_met true x a hx ha =
      let i = a * n + x / 8 in
      let r = row_room n {y = a} {n = h - d} (omega arith) in
      let q = parts (omega arith) in
      value_at_lem (piece_of true 0 s m u) n x (a + d)
      ∙ ap (λ k. bit (get_or (piece_of true 0 s m u) k 0) (7 - x % 8)) (moved a d n x)
      ∙ ap (λ b. bit b (7 - x % 8)) (get_in (0 + s) m _ u i (omega arith) (omega arith))
      ∙ bit_join true (get_or u (0 + i) 0) (get_or u (0 + s + i) 0) (7 - x % 8)
      ∙ ap₂ (join_by true) (sym (value_at_lem u n x a ∙ ap (λ k. bit (get_or u k 0) (7 - x % 8)) (none i)))
      (sym (value_at_lem u n x (a + d) ∙ ap (λ k. bit (get_or u k 0) (7 - x % 8)) (moved a d n x)))
    where
      none : (i : ℕ) → i ≡ 0 + i
      none i = omega arith

      moved : (a d n x : ℕ) → (a + d) * n + x / 8 ≡ 0 + d * n + (a * n + x / 8)
      moved a d n x = omega arith
  piece_met false x a hx ha =
      let i = a * n + x / 8 in
      let r = row_room n {y = a} {n = h - d} (omega arith) in
      let q = parts (omega arith) in
      value_at_lem (piece_of false 0 s m u) n x a
      ∙ ap (λ b. bit b (7 - x % 8)) (get_first m _ u i (omega arith) (omega arith))
      ∙ bit_join false (get_or u (0 + i) 0) (get_or u (0 + s + i) 0) (7 - x % 8)
      ∙ ap₂ (join_by false) (sym (value_at_lem u n x a ∙ ap (λ k. bit (get_or u k 0) (7 - x % 8)) (none i)))
      (sym (value_at_lem u n x (a + d) ∙ ap (λ k. bit (get_or u k 0) (7 - x % 8)) (moved a d n x)))
    where
      none : (i : ℕ) → i ≡ 0 + i
      none i = omega arith

      moved : (a d n x : ℕ) → (a + d) * n + x / 8 ≡ 0 + d * n + (a * n + x / 8)
      moved a d n x = omega arith

  -- a row with none d further on stays
  pub piece_alone : (grows : Bool) (x y : ℕ) → x < n * 8 → y < h → cond grows (y < d) (h ≤ y + d)
      → value_at OneBit (piece_of grows 0 s m u) (n * 8) x y ≡ value_at OneBit u (n * 8) x y
  unfolding piece_of
  piece_alone true x y hx hy z =
      let r = row_room n {y = y} {n = d} z in
      let k = row_room n {y = y} {n = h} hy in
      value_at_lem (piece_of true 0 s m u) n x y
      ∙ ap (λ b. bit b (7 - x % 8)) (get_before (0 + s) m _ u (y * n + x / 8) (omega arith) (omega arith))
      ∙ sym (value_at_lem u n x y)
  piece_alone false x y hx hy z =
      let k = row_room n {y = y} {n = h} hy in
      let l : h - d ≤ y = omega arith in
      let j = mul-le-mul_right n l in
      value_at_lem (piece_of false 0 s m u) n x y
      ∙ ap (λ b. bit b (7 - x % 8)) (get_after 0 m _ u (y * n + x / 8) (omega arith) (omega arith))
      ∙ sym (value_at_lem u n x y)

  -- past the picture nothing changes
  within : (grows : Bool) (i : ℕ) → d ≤ h → h * n ≤ i → i < length u
      → get_or (piece_of grows 0 s m u) i 0 ≡ get_or u i 0
  unfolding piece_of
  within true i dh k l = let q = parts dh in get_after (0 + s) m _ u i l (omega arith)
  within false i dh k l = let q = parts dh in get_after 0 m _ u i l (omega arith)

  pub piece_past : (grows : Bool) (i : ℕ) → h * n ≤ i → get_or (piece_of grows 0 s m u) i 0 ≡ get_or u i 0
  piece_past grows i k =
      ⊎_elim
      (λ l. ⊎_elim (λ z. nothing z) (λ z. within grows i z k l) (below_or_not h d))
      (λ l. get_or-eq_default (piece_of grows 0 s m u) 0
      (subst (λ n. n ≤ i) (sym (length_piece grows 0 s m u)) l)
      ∙ sym (get_or-eq_default u 0 l))
      (below_or_not i (length u))
    where
      nothing : h < d → get_or (piece_of grows 0 s m u) i 0 ≡ get_or u i 0
      nothing z =
          let e : h - d ≡ 0 = omega arith in
          let e' : m ≡ 0 = ap (λ k. k * n) e ∙ zero_times n in
          ap (λ k. get_or (piece_of grows 0 s k u) i 0) e' ∙ ap (λ l. get_or l i 0) (sym (piece_none grows 0 s
          u))
        where
          zero_times : (n : ℕ) → 0 * n ≡ 0
          zero_times n = omega arith

-- ---- a row, and where it stands to the one d rows off
record Met (grows : Bool) (d h y : ℕ) : Type 0 where
  first : ℕ
  second_in : first + d < h
  here : cond grows (first + d) first ≡ y

where_row : (grows : Bool) (d h y : ℕ) → y < h → Met grows d h y ⊎ cond grows (y < d) (h ≤ y + d)
where_row true d h y hy =
    ⊎_elim (λ l. inr l)
    (λ l. inl (record { first = y - d; second_in = omega arith; here = omega arith })) (below_or_not y d)
where_row false d h y hy =
    ⊎_elim (λ l. inl (record { first = y; second_in = l; here = refl })) (λ l. inr l) (below_or_not (y +
    d) h)

-- ---- runs: of one row, d more, all

-- t with runs of k rows in it
unfoldable pub run_of : Bool → ℕ → ℕ → List ℕ → ℕ → List ℕ
run_of grows n h t k =
    written OneBit (swept_by grows flat 1 (frame (n * 8) h) (rect 1 k) (value_at OneBit t (n * 8))) (n * 8)
    h t

module _ (grows : Bool) (n h : ℕ) (some : 1 ≤ n) (t : List ℕ) (bt : Bytes t) (room : h * n ≤ length t) where
  abbrev F : Frame
  F = frame (n * 8) h

  abbrev A : Picture
  A = value_at OneBit t (n * 8)

  one : Bounded 1 F A
  one = value_one t (n * 8) h

  abbrev R : ℕ → Picture
  R k = swept_by grows flat 1 F (rect 1 k) A

  bounded : (k : ℕ) → Bounded 1 F (R k)
  bounded k = swept_bounded grows 1 F (rect 1 k) A one

  row : (n : ℕ) → (n * 8 + 7) / 8 ≡ n
  row n = omega arith

  bytes : picture_bytes OneBit (n * 8) h ≡ h * n
  bytes = ap (λ r. h * r) (row n)

  long : picture_bytes OneBit (n * 8) h ≤ length t
  long = subst (λ m. m ≤ length t) (sym bytes) room

  pub run_long : (k : ℕ) → length (run_of grows n h t k) ≡ length t
  unfolding run_of
  run_long k = written_long (R k) (n * 8) h (bounded k) t bt long

  pub run_one : t ≡ run_of grows n h t 1
  unfolding run_of
  run_one =
      shown_written (R 1) n h some (bounded 1) t t bt bt room refl
      (λ x y hx hy. sym (by_one F A one grows A one (record { x = x; y = y }) (record {
        ping = hx;
        bin =
            hy;
      })))
      (λ i k. refl)

  pub run_more : (c d : ℕ) (u v : List ℕ) → 1 ≤ c → d ≤ c → u ≡ run_of grows n h t c
      → v ≡ piece_of grows 0 (d * n) ((h - d) * n) u → Bytes v → v ≡ run_of grows n h t (c + d)
  unfolding run_of
  run_more c d u v hc hd eu ev bv =
      shown_written (R (c + d)) n h some (bounded (c + d)) t v bt bv room
      (ap length ev ∙ length_piece grows 0 (d * n) ((h - d) * n) u ∙ lu)
      (λ x y hx hy. ap (λ l. value_at OneBit l (n * 8) x y) ev
      ∙ ⊎_elim (met x y hx) (alone x y hx hy) (where_row grows d h y hy))
      (λ i k. ap (λ l. get_or l i 0) ev ∙ piece_past n h d u ru grows i k ∙ ap (λ l. get_or l i 0) eu
      ∙ written_rest (R c) (n * 8) h (bounded c) t bt long i (subst (λ m. m ≤ i) (sym bytes) k))
    where
      lu : length u ≡ length t
      lu = ap length eu ∙ written_long (R c) (n * 8) h (bounded c) t bt long

      ru : h * n ≤ length u
      ru = subst (λ m. h * n ≤ m) (sym lu) room

      shown : (x y : ℕ) → x < n * 8 → y < h → value_at OneBit u (n * 8) x y ≡ R c x y
      shown x y hx hy =
          ap (λ l. value_at OneBit l (n * 8) x y) eu
          ∙ written_point (R c) (n * 8) h (bounded c) t bt long x y hx hy

      met : (x y : ℕ) → x < n * 8 → Met grows d h y
          → value_at OneBit (piece_of grows 0 (d * n) ((h - d) * n) u) (n * 8) x y ≡ R (c + d) x y
      met x y hx q =
          let k = q.second_in in
          ap (value_at OneBit (piece_of grows 0 (d * n) ((h - d) * n) u) (n * 8) x) (sym q.here)
          ∙ piece_met n h d u ru grows x q.first hx q.second_in
          ∙ ap₂ (join_by grows) (shown x q.first hx (omega arith)) (shown x (q.first + d) hx q.second_in)
          ∙ run_met F A one c d hc hd grows x q.first hx q.second_in
          ∙ ap (R (c + d) x) q.here

      alone : (x y : ℕ) → x < n * 8 → y < h → cond grows (y < d) (h ≤ y + d)
          → value_at OneBit (piece_of grows 0 (d * n) ((h - d) * n) u) (n * 8) x y ≡ R (c + d) x y
      alone x y hx hy z =
          piece_alone n h d u ru grows x y hx hy z ∙ shown x y hx hy
          ∙ run_alone F A one c d hc hd grows x y hx hy (seen grows z)
        where
          seen : (grows : Bool) → cond grows (y < d) (h ≤ y + d) → Alone F A one c d hc hd grows y
          seen true z = z
          seen false z = z

  pub run_all : (c k : ℕ) (u : List ℕ) → u ≡ run_of grows n h t c → c ≡ k
      → u ≡ written OneBit (swept_by grows flat 1 (frame (n * 8) h) (rect 1 k) (value_at OneBit t (n * 8)))
      (n * 8) h t
  unfolding run_of
  run_all c k u e q = e ∙ ap (run_of grows n h t) q
