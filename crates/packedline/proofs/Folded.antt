-- The whole: what stands at the places found, in the windows of the padded row, is what the definition joins.
use Prim.Native.Nat.{ℕ, ◌+◌, ◌-◌, ◌*◌, ◌/◌, ◌%◌, ◌≤◌, ◌<◌}
use mathlib.Core.Path.{◌≡◌, refl, sym, ap, ap₂, ◌∙◌, subst}
use mathlib.Core.Bool.{Bool, true, false, ◌&&◌}
use mathlib.Core.List.{List}
use mathlib.Core.Logic.{◌⊎◌, ⊎_elim}
use native.Mathlib.Omega.{arith}
use lib.Dec.{leb, ltb}
use lib.ListN.{length, get_or, take}
use lib.Seq.{get_or-take, length-take-le}
use lib.Pow.{shr_le}
use borrow.Author.Tests.{eqb-true, lt-ltb, le-leb, leb-true, ltb-true}
use Rattle.basics.specs.Bits.{bit, digits}
use Rattle.basics.proofs.Lists.{list_is, get_d_firsts}
use Rattle.basics.proofs.Bits.{bit_zero, bits_same, bit_digits, digits_below}
use Rattle.basics.proofs.SliceParts.{below_or_not}
use Rattle.basics.proofs.Tests.{both}
use Rattle.rows.specs.Steps.Fold.{folded_at, join_by, fold_if, start_by, minus_by, plus_by}
use Rattle.blocks.specs.Steps.Points.{point_of}
use Rattle.blocks.proofs.Laid.{length_laid}
use Rattle.basics.specs.Bytes.{Bytes}
use Rattle.blocks.proofs.Points.{point_lt, eight_none}
use Rattle.morphology.specs.Operations.{fold, moved, within}
use Rattle.windows.specs.Steps.Bounds.{Bound}
use Rattle.windows.specs.Steps.Widened.{widen1_at, widen4_at, widened_by, windows_of}
use Rattle.windows.specs.Steps.Places.{joined_row}
use Rattle.windows.proofs.Bounds.{bounds_same, fold_to, fold_from, fold_if_to, fold_if_from, fold_lt}
use Rattle.windows.proofs.Bounds.{fold_if_lt}
use Rattle.windows.proofs.Bounds.{start_bound}
use Rattle.windows.proofs.InPlace.{windows_1, windows_4, windows_16}
use Rattle.windows.proofs.Seen.{Window, window_one, window_four, window4, window16}
use Rattle.windows.proofs.Row.{row_point_lem, row_bytes_lem}
use Rattle.morphology.proofs.Cells.{fold_same}
use Rattle.packedline.specs.Steps.Padded.{padded_of}
use Rattle.packedline.specs.Steps.Cells.{cell_on64, place_of, Covers}
use Rattle.packedline.specs.Steps.Line.{faced_point, point_folded, pack_of, line_of}
use Rattle.packedline.proofs.Bytes.{bytes_widened1, bytes_padded, bytes_windows}
use Rattle.packedline.proofs.Margins.{padded_long, point_front, point_in, point_past}

-- ---- windows of 1, 4 or 16 points, wherever they are made
module _ (grows : Bool) (m : ℕ) (l : List ℕ) (bytes : Bytes l) (fits : 64 * m ≤ length l) where
  one : (y : ℕ) → Window grows 1 (point_of l y) (point_of l) y
  one y = window_one grows (point_of l) y

  four : (y : ℕ) → y / 8 < 64 * m
      → Window grows 4 (point_of (widened_by (widen1_at grows) m l) y) (point_of l) y
  four y h =
      subst (λ v. Window grows 4 v (point_of l) y) (sym (window4 grows m l bytes fits y h))
      (window_four grows 1 (point_of l) (point_of l) y (one y) (one (y + 1)) (one (y + 2)) (one (y + 3)))

  widened_long : length (widened_by (widen1_at grows) m l) ≡ length l
  unfolding widened_by
  widened_long = length_laid 0 (64 * m) (widen1_at grows l) l

  sixteen : (y : ℕ) → y / 8 + 2 < 64 * m
      → Window grows 16 (point_of (widened_by (widen4_at grows) m (widened_by (widen1_at grows) m l)) y)
      (point_of l) y
  sixteen y h =
      subst (λ v. Window grows 16 v (point_of l) y)
      (sym (window16 grows m (widened_by (widen1_at grows) m l) (bytes_widened1 grows l bytes m)
      (subst (λ n. 64 * m ≤ n) (sym widened_long) fits) y (omega arith)))
      (window_four grows 4 (point_of l) (point_of (widened_by (widen1_at grows) m l)) y
      (four y (omega arith)) (four (y + 4) (omega arith)) (four (y + 8) (omega arith))
      (four (y + 12) (omega arith)))

  pub sees : (n y : ℕ) → (n ≡ 1) ⊎ ((n ≡ 4) ⊎ (n ≡ 16)) → y / 8 + 2 < 64 * m
      → Window grows n (point_of (windows_of grows m n l) y) (point_of l) y
  sees n y which h =
      ⊎_elim
      (λ e. at 1 l e (windows_1 grows m n l (omega arith)) (one y))
      (⊎_elim
      (λ e. at 4 (widened_by (widen1_at grows) m l) e
      (windows_4 grows m n l _ (omega arith) (omega arith) refl) (four y (omega arith)))
      (λ e. at 16 (widened_by (widen4_at grows) m (widened_by (widen1_at grows) m l)) e
      (windows_16 grows m n l _ _ (omega arith) (omega arith) refl refl) (sixteen y h)))
      which
    where
      at : (k : ℕ) (u : List ℕ) → n ≡ k → u ≡ windows_of grows m n l
          → Window grows k (point_of u y) (point_of l) y
          → Window grows n (point_of (windows_of grows m n l) y) (point_of l) y
      at k u e q win =
          subst (λ j. Window grows j (point_of (windows_of grows m n l) y) (point_of l) y) (sym e)
          (subst (λ z. Window grows k (point_of z y) (point_of l) y) q win)

place_is : (grows : Bool) (o c : ℕ) → place_of grows o c ≡ 64 + plus_by grows o c - minus_by grows o c
place_is true o c = refl
place_is false o c = refl

plus_lt : (grows : Bool) (o c : ℕ) → o < 64 → c < 64 → plus_by grows o c < 64
plus_lt true o c h k = h
plus_lt false o c h k = k

minus_lt : (grows : Bool) (o c : ℕ) → o < 64 → c < 64 → minus_by grows o c < 64
minus_lt true o c h k = k
minus_lt false o c h k = h

faced_lt2 : (over : Bool) (v : ℕ) → v < 2 → faced_point over v < 2
faced_lt2 true v h = omega arith
faced_lt2 false v h = h

module _ (over grows : Bool) (s : List ℕ) (w : ℕ) (bytes : Bytes s) (some : 1 ≤ w) (few : w ≤ 1024)
    (len : length s ≡ (w + 7) / 8) where
  abbrev P : ℕ → ℕ
  P = point_of (padded_of over grows s w)

  -- a place in the row, and one beyond it
  seen_in : (x a d : ℕ) → d < 64 → d ≤ x + a → x + a - d < w → P (x + (64 + a - d))
      ≡ faced_point over (point_of s (x + a - d))
  seen_in x a d hd h k = ap P (at x a d hd h) ∙ point_in over grows s w bytes some few len (x + a - d) k
    where
      at : (x a d : ℕ) → d < 64 → d ≤ x + a → x + (64 + a - d) ≡ 64 + (x + a - d)
      at x a d hd h = omega arith

  seen_front : (x a d : ℕ) → d < 64 → x + a < d → P (x + (64 + a - d)) ≡ start_by grows 1
  seen_front x a d hd h = point_front over grows s w bytes some few len (x + (64 + a - d)) (omega arith)

  seen_past : (x a d : ℕ) → x < 1024 → a < 64 → d < 64 → d ≤ x + a → w ≤ x + a - d → P (x + (64 + a - d))
      ≡ start_by grows 1
  seen_past x a d hx ha hd h k =
      ap P (at x a d hd h) ∙ point_past over grows s w bytes some few len (x + a - d) k (omega arith)
    where
      at : (x a d : ℕ) → d < 64 → d ≤ x + a → x + (64 + a - d) ≡ 64 + (x + a - d)
      at x a d hd h = omega arith

  module _ (word o n m count : ℕ) (at : List ℕ) (ho : o < 64) (which : (n ≡ 1) ⊎ ((n ≡ 4) ⊎ (n ≡ 16)))
      (cov : Covers grows word o n count at)
      (room : 64 * m ≤ 194) (x v0 : ℕ) (hx : x < 1024) (sees-all : x / 8 + 18 < 64 * m) (hv : v0 < 2) where
    abbrev Q : ℕ → ℕ
    Q = point_of (windows_of grows m n (padded_of over grows s w))

    some_n : 0 < n
    some_n = ⊎_elim (λ e. omega arith) (⊎_elim (λ e. omega arith) (λ e. omega arith)) which

    place_lt : (c : ℕ) → c < 64 → place_of grows o c < 128
    place_lt c h = subst (λ k. k < 128) (sym (place_is grows o c)) (omega (arith, plus_lt grows o c ho h))

    at_lt : (j : ℕ) → j < count → get_or at j 0 < 128
    at_lt j h = let f = cov.inside j 0 h some_n in omega (arith, f.1.1.1, place_lt f.0 f.1.0)

    win : (j : ℕ) → j < count → Window grows n (Q (x + get_or at j 0)) P (x + get_or at j 0)
    win j h =
        sees grows m (padded_of over grows s w) (bytes_padded over grows s w bytes)
        (subst (λ k. 64 * m ≤ k) (sym (padded_long over grows s w bytes some few len)) room) n
        (x + get_or at j 0) which (omega (arith, at_lt j h))

    abbrev source : ℕ → ℕ
    source c = faced_point over (point_of s (moved x (plus_by grows o c) (minus_by grows o c)))

    abbrev takes : ℕ → Bool
    takes c = cell_on64 word c && within w x (plus_by grows o c) (minus_by grows o c)

    abbrev left : ℕ
    left = fold (join_by grows) v0 (λ j. Q (x + get_or at j 0)) count

    abbrev right : ℕ
    right = fold_if (join_by grows) v0 takes source 64

    group : (x a k p : ℕ) → a + k ≡ p → x + a + k ≡ x + p
    group x a k p e = omega arith

    to : (v : ℕ) → v < 2 → Bound grows left v → Bound grows right v
    to v hv h =
        let f = fold_to grows v0 (λ j. Q (x + get_or at j 0)) v count h in
        fold_if_from grows v0 takes source v 64 f.0
        (λ c hc t.
        let q = both (cell_on64 word c) (within w x (plus_by grows o c) (minus_by grows o c)) t in
        let r = both (leb (minus_by grows o c) (x + plus_by grows o c))
        (ltb (x + plus_by grows o c - minus_by grows o c) w) q.1 in
        let g = cov.covered c hc q.0 in
        let b = (win g.0 g.1.1.0 v).0 (f.1 g.0 g.1.1.0) g.1.0 g.1.1.1.0 in
        subst (λ z. Bound grows z v)
        (ap P (group x (get_or at g.0 0) g.1.0 (place_of grows o c) g.1.1.1.1
        ∙ ap (λ z. x + z) (place_is grows o c))
        ∙ seen_in x (plus_by grows o c) (minus_by grows o c) (minus_lt grows o c ho hc)
        (leb-true (minus_by grows o c) (x + plus_by grows o c) r.0)
        (ltb-true (x + plus_by grows o c - minus_by grows o c) w r.1)) b)

    at_cell : (v c : ℕ) → v < 2 → c < 64 → cell_on64 word c ≡ true → Bound grows right v
        → Bound grows (P (x + (64 + plus_by grows o c - minus_by grows o c))) v
    at_cell v c hv hc on h =
        let a = plus_by grows o c in
        let d = minus_by grows o c in
        ⊎_elim
        (λ l. subst (λ z. Bound grows z v) (sym (seen_front x a d (minus_lt grows o c ho hc) l))
        (start_bound grows v hv))
        (λ l. ⊎_elim
        (λ k. subst (λ z. Bound grows z v) (sym (seen_in x a d (minus_lt grows o c ho hc) l k))
        ((fold_if_to grows v0 takes source v 64 h).1 c hc
        (ap₂ ◌&&◌ on (ap₂ ◌&&◌ (le-leb d (x + a) l) (lt-ltb (x + a - d) w k)))))
        (λ k. subst (λ z. Bound grows z v)
        (sym (seen_past x a d hx (plus_lt grows o c ho hc) (minus_lt grows o c ho hc) l k))
        (start_bound grows v hv))
        (below_or_not (x + a - d) w))
        (below_or_not (x + a) d)

    from : (v : ℕ) → v < 2 → Bound grows right v → Bound grows left v
    from v hv h =
        fold_from grows v0 (λ j. Q (x + get_or at j 0)) v count (fold_if_to grows v0 takes source v 64 h).0
        (λ j hj. (win j hj v).1
        (λ k hk. let g = cov.inside j k hj hk in
        subst (λ z. Bound grows (P z) v) (sym
        (group x (get_or at j 0) k (place_of grows o g.0) g.1.1.1
        ∙ ap (λ z. x + z) (place_is grows o g.0)))
        (at_cell v g.0 hv g.1.0 g.1.1.0 h)))

    pub folded_same : left ≡ point_folded over grows s w word o v0 x
    unfolding point_folded folded_at
    folded_same =
        bounds_same grows left right
        (fold_lt grows v0 (λ j. Q (x + get_or at j 0)) count hv (λ j. point_lt _ (x + get_or at j 0)))
        (fold_if_lt grows v0 takes source 64 hv
        (λ c. faced_lt2 over _ (point_lt s (moved x (plus_by grows o c) (minus_by grows o c)))))
        to from

-- ---- a list of bytes is what its points are
pub pack_is : (f : ℕ → ℕ) (n : ℕ) (u : List ℕ) → length u ≡ n → Bytes u → ((x : ℕ) → f x < 2)
    → ((x : ℕ) → x / 8 < n → point_of u x ≡ f x) → u ≡ pack_of f n
unfolding pack_of
pack_is f n u e bytes small each =
    list_is (λ i. digits 1 (λ k. f (i * 8 + k)) 8) n u e
    (λ i h. bits_same 8 (get_or u i 0) (digits 1 (λ k. f (i * 8 + k)) 8) (bytes i)
    (digits_below 1 (λ k. f (i * 8 + k)) (λ k. small (i * 8 + k)) 8)
    (λ k hk. ap (bit (get_or u i 0)) (turn k hk) ∙ eight_none u bytes i (7 - k) (omega arith)
    ∙ each (i * 8 + (7 - k)) (omega arith)
    ∙ sym (ap (bit (digits 1 (λ k. f (i * 8 + k)) 8)) (spot k hk)
    ∙ bit_digits 1 (λ k. f (i * 8 + k)) (λ k. small (i * 8 + k)) 8 (7 - k) 0 (omega arith) (omega arith)
    ∙ low (f (i * 8 + (7 - k))) (small (i * 8 + (7 - k))))))
  where
    turn : (k : ℕ) → k < 8 → k ≡ 7 - (7 - k)
    turn k h = omega arith

    spot : (k : ℕ) → k < 8 → k ≡ 1 * (8 - 1 - (7 - k)) + 0
    spot k h = omega arith

    low : (n : ℕ) → n < 2 → bit n 0 ≡ n
    low n h = bit_zero n ∙ tiny n h
      where
        tiny : (n : ℕ) → n < 2 → n % 2 ≡ n
        tiny n h = omega arith

-- and its points are those that were packed
pub pack_point : (f : ℕ → ℕ) (n : ℕ) → ((x : ℕ) → f x < 2) → (x : ℕ) → x / 8 < n → point_of (pack_of f n) x
    ≡ f x
unfolding point_of pack_of
pack_point f n small x h =
    ap (λ b. bit b (7 - x % 8)) (get_d_firsts (λ i. digits 1 (λ k. f (i * 8 + k)) 8) n (x / 8) h)
    ∙ ap (bit (digits 1 (λ k. f (x / 8 * 8 + k)) 8)) (spot (x % 8) (omega arith))
    ∙ bit_digits 1 (λ k. f (x / 8 * 8 + k)) (λ k. small (x / 8 * 8 + k)) 8 (x % 8) 0 (omega arith)
    (omega arith)
    ∙ bit_zero (f (x / 8 * 8 + x % 8)) ∙ low (f (x / 8 * 8 + x % 8)) (small (x / 8 * 8 + x % 8))
    ∙ ap f (whole x)
  where
    spot : (k : ℕ) → k < 8 → 7 - k ≡ 1 * (8 - 1 - k) + 0
    spot k h = omega arith

    low : (n : ℕ) → n < 2 → n % 2 ≡ n
    low n h = omega arith

    whole : (x : ℕ) → x / 8 * 8 + x % 8 ≡ x
    whole x = omega arith

pub folded_lt : (over grows : Bool) (s : List ℕ) (w word o v x : ℕ) → v < 2
    → point_folded over grows s w word o v x < 2
unfolding point_folded folded_at
folded_lt over grows s w word o v x h = fold_if_lt grows v _ _ 64 h (λ c. faced_lt2 over _ (point_lt s _))

-- ---- the row
module _ (over grows : Bool) (t s : List ℕ) (w word o : ℕ) where
  -- no cell: the row stays
  off : word ≡ 0 → (c : ℕ) → cell_on64 word c ≡ true → ⊥
  off z c q =
      let a = eqb-true (bit word (63 - c)) 1 q in
      let b : bit word (63 - c) ≤ word = omega (arith, shr_le word (63 - c)) in
      low (bit word (63 - c)) word a b z
    where
      low : (n m : ℕ) → n ≡ 1 → n ≤ m → m ≡ 0 → ⊥
      low n m a b c = omega arith

  stays : word ≡ 0 → (x : ℕ) → point_folded over grows s w word o (point_of t x) x ≡ point_of t x
  unfolding point_folded folded_at
  stays z x =
      bounds_same grows _ (point_of t x) (folded_lt over grows s w word o (point_of t x) x (point_lt t x))
      (point_lt t x)
      (λ v hv h. (fold_if_to grows (point_of t x) _ _ v 64 h).0)
      (λ v hv h. fold_if_from grows (point_of t x) _ _ v 64 h
      (λ c hc q.
      absurd (off z c (both (cell_on64 word c) (within w x (plus_by grows o c) (minus_by grows o c)) q).0)))

  pub line_none : Bytes t → word ≡ 0 → t ≡ line_of over grows t s w word o
  unfolding line_of
  line_none bytes z =
      pack_is _ (length t) t refl bytes (λ x. folded_lt over grows s w word o (point_of t x) x (point_lt t x))
      (λ x h. sym (stays z x))

  pub line_some : (n count : ℕ) (at b u : List ℕ) → Bytes s → Bytes u → 1 ≤ w → w ≤ 1024
      → length s ≡ (w + 7) / 8 → length t ≡ (w + 7) / 8 → o < 64
      → (n ≡ 1) ⊎ ((n ≡ 4) ⊎ (n ≡ 16)) → Covers grows word o n count at
      → b ≡ windows_of grows ((length t + 81) / 64) n (padded_of over grows s w)
      → u ≡ joined_row grows b (take count at) t → u ≡ line_of over grows t s w word o
  unfolding line_of
  line_some n count at b u bytes ubytes some few lens lent ho which cov eb eu =
      pack_is _ (length t) u (ap length eu ∙ row_bytes_lem grows b (take count at) t) ubytes
      (λ x. folded_lt over grows s w word o (point_of t x) x (point_lt t x))
      (λ x h.
      ap (λ l. point_of l x) eu ∙ row_point_lem grows b (take count at) t bbytes x h
      ∙ ap (fold (join_by grows) (point_of t x) (λ j. point_of b (x + get_or (take count at) j 0))) counted
      ∙ fold_same (join_by grows) (point_of t x) _ _ count
      (λ j hj. ap₂ (λ l p. point_of l (x + p)) eb (get_or-take count at j 0 hj))
      ∙ folded_same over grows s w bytes some few lens word o n ((length t + 81) / 64) count at ho which cov
      (omega arith) x (point_of t x) (omega arith) (omega arith) (point_lt t x))
    where
      bbytes : Bytes b
      bbytes =
          subst Bytes (sym eb) (bytes_windows grows ((length t + 81) / 64) n (padded_of over grows s w)
          (bytes_padded over grows s w bytes))

      counted : length (take count at) ≡ count
      counted = length-take-le count at (omega (arith, cov.few, cov.long))
