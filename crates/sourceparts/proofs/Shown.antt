-- The rooms show the windows of the padded row; what stands at the places found is what the set cells find.
use Prim.Native.Nat.{ℕ, ◌+◌, ◌-◌, ◌*◌, ◌≤◌, ◌<◌}
use mathlib.Core.Path.{◌≡◌, refl, sym, ap, ap₂, ◌∙◌, subst}
use mathlib.Core.Bool.{Bool, true, false, cond, ◌&&◌}
use mathlib.Core.List.{List}
use mathlib.Core.Logic.{◌⊎◌, inl, inr, ⊎_elim}
use native.Mathlib.Omega.{arith}
use lib.Dec.{leb, ltb}
use lib.ListN.{get_or}
use borrow.Author.Tests.{lt-ltb, le-ltb, le-leb, lt-leb, leb-true, ltb-true}
use Rattle.basics.proofs.Tests.{both}
use Rattle.basics.proofs.SliceParts.{below_or_not}
use Rattle.morphology.specs.Operations.{fold, moved, within}
use Rattle.rows.specs.Steps.Fold.{join_by, start_by, plus_by, minus_by}
use Rattle.windows.specs.Steps.Bounds.{Bound}
use Rattle.windows.proofs.Bounds.{join_to, join_from, fold_to, fold_from}
use Rattle.windows.proofs.Seen.{four_of, window_one, window_four}
use Rattle.packedline.specs.Steps.Cells.{cell_on64, place_of}
use Rattle.strokes.specs.Steps.Strokes.{room, small_of, large_of, Shows, Strokes}
use Rattle.sourceparts.specs.Steps.Shown.{pad_at, four_join, Sees, Rooms}

pub start_bound : (grows : Bool) (most v : ℕ) → v ≤ most → Bound grows (start_by grows most) v
start_bound true most v h = omega arith
start_bound false most v h = h

-- ---- the padded row
module _ (grows : Bool) (most w : ℕ) (S : ℕ → ℕ) where
  pub pad_in : (q : ℕ) → 64 ≤ q → q < 64 + w → pad_at grows most w S q ≡ S (q - 64)
  unfolding pad_at
  pad_in q h k =
      ap (λ b. cond b (S (q - 64)) (start_by grows most)) (ap₂ ◌&&◌ (le-leb 64 q h) (lt-ltb q (64 + w) k))

  pub pad_before : (q : ℕ) → q < 64 → pad_at grows most w S q ≡ start_by grows most
  unfolding pad_at
  pad_before q h =
      ap (λ b. cond (b && ltb q (64 + w)) (S (q - 64)) (start_by grows most)) (lt-leb 64 q h)

  pub pad_after : (q : ℕ) → 64 ≤ q → 64 + w ≤ q → pad_at grows most w S q ≡ start_by grows most
  unfolding pad_at
  pad_after q h k =
      ap (λ b. cond b (S (q - 64)) (start_by grows most)) (ap₂ ◌&&◌ (le-leb 64 q h) (le-ltb q (64 + w) k))

-- the same row as another lends it, in the same rooms
pub pad_same : (grows : Bool) (most w u : ℕ) (S R : ℕ → ℕ) → w ≡ u → ((x : ℕ) → x < w → S x ≡ R x)
    → (q : ℕ) → pad_at grows most w S q ≡ pad_at grows most u R q
pad_same grows most w u S R e same q =
    ⊎_elim
    (λ h. pad_before grows most w S q h ∙ sym (pad_before grows most u R q h))
    (λ h. ⊎_elim
    (λ k. pad_in grows most w S q h k ∙ same (q - 64) (omega arith)
    ∙ sym (pad_in grows most u R q h (omega arith)))
    (λ k. pad_after grows most w S q h k ∙ sym (pad_after grows most u R q h (omega arith)))
    (below_or_not q (64 + w)))
    (below_or_not q 64)

pub rooms_same : (grows : Bool) (kind far : ℕ) (P R B : ℕ → ℕ) → ((q : ℕ) → P q ≡ R q)
    → Rooms grows kind P far B → Rooms grows kind R far B
rooms_same grows kind far P R B same rooms =
    record {
      first = λ p h. turned (small_of kind) (B p) p (rooms.first p h);
      second = λ p h. turned (large_of kind) (B (room + p)) p (rooms.second p h);
    }
  where
    turned : (n value p : ℕ) → Sees grows n value P p → Sees grows n value R p
    turned n value p sees v = (
      λ b k l. subst (λ m. Bound grows m v) (same (p + k)) ((sees v).0 b k l),
      λ each. (sees v).1 (λ k l. subst (λ m. Bound grows m v) (sym (same (p + k))) (each k l)),
    )

-- ---- windows of two
two_seen : (grows : Bool) (P : ℕ → ℕ) (x : ℕ)
    → Sees grows 2 (join_by grows (join_by grows (join_by grows (P x) (P (x + 1))) (P (x + 1))) (P (x + 1)))
    P x
two_seen grows P x v = (to, from)
  where
    to : Bound grows (join_by grows (join_by grows (join_by grows (P x) (P (x + 1))) (P (x + 1)))
        (P (x + 1))) v
        → (k : ℕ) → k < 2 → Bound grows (P (x + k)) v
    to h k l =
        let a = join_to grows (join_by grows (join_by grows (P x) (P (x + 1))) (P (x + 1))) (P (x + 1)) v h in
        let b = join_to grows (join_by grows (P x) (P (x + 1))) (P (x + 1)) v a.0 in
        let c = join_to grows (P x) (P (x + 1)) v b.0 in
        ⊎_elim
        (λ q. subst (λ n. Bound grows (P n) v) (zero x k q) c.0)
        (λ q. subst (λ n. Bound grows (P n) v) (one x k l q) c.1)
        (below_or_not k 1)
      where
        zero : (x k : ℕ) → k < 1 → x ≡ x + k
        zero x k h = omega arith

        one : (x k : ℕ) → k < 2 → 1 ≤ k → x + 1 ≡ x + k
        one x k h l = omega arith

    from : ((k : ℕ) → k < 2 → Bound grows (P (x + k)) v)
        → Bound grows (join_by grows (join_by grows (join_by grows (P x) (P (x + 1))) (P (x + 1)))
        (P (x + 1))) v
    from each =
        let a = subst (λ n. Bound grows (P n) v) (none x) (each 0 (omega arith)) in
        let b = each 1 (omega arith) in
        join_from grows (join_by grows (join_by grows (P x) (P (x + 1))) (P (x + 1))) (P (x + 1)) v
        (join_from grows (join_by grows (P x) (P (x + 1))) (P (x + 1)) v (join_from grows (P x) (P (x + 1))
        v a b) b) b
      where
        none : (x : ℕ) → x + 0 ≡ x
        none x = omega arith

two_is : (grows : Bool) (U P : ℕ → ℕ) (p : ℕ) → U p ≡ P p → U (p + 1) ≡ P (p + 1)
    → four_join grows U 1 1 1 p
    ≡ join_by grows (join_by grows (join_by grows (P p) (P (p + 1))) (P (p + 1))) (P (p + 1))
two_is grows U P p e f = ap₂ (λ a b. join_by grows (join_by grows (join_by grows a b) b) b) e f

-- ---- windows of four, from any windows at a distance
four_is : (grows : Bool) (U P : ℕ → ℕ) (i p : ℕ) → U i ≡ P p → U (i + 1) ≡ P (p + 1)
    → U (i + 2) ≡ P (p + 2) → U (i + 3) ≡ P (p + 3) → four_join grows U 1 2 3 i ≡ four_of grows P 1 p
unfolding four_of
four_is grows U P i p a b c d =
    ap₂ (join_by grows) (ap₂ (join_by grows) (ap₂ (join_by grows) a b) c) d

sixteen_is : (grows : Bool) (Q : ℕ → ℕ) (p : ℕ) → four_join grows Q 4 8 12 p ≡ four_of grows Q 4 p
unfolding four_of
sixteen_is grows Q p = refl

module _ (grows : Bool) (P U Q : ℕ → ℕ) (far : ℕ) where
  -- ---- the rooms of single cells: the row stands in U, and it and its windows of two in Q
  pub cells_rooms : ((q : ℕ) → q < far → U q ≡ P q) → ((p : ℕ) → p < far → Q p ≡ U p)
      → ((p : ℕ) → p < far → Q (room + p) ≡ four_join grows U 1 1 1 p) → Rooms grows 0 P far Q
  cells_rooms row first second =
      record {
        first = λ p h. subst (λ x. Sees grows 1 x P p) (sym (first p (omega arith) ∙ row p (omega arith)))
            (window_one grows P p);
        second = λ p h. subst (λ x. Sees grows 2 x P p)
            (sym (second p (omega arith)
            ∙ two_is grows U P p (row p (omega arith)) (row (p + 1) (omega arith))))
            (two_seen grows P p);
      }

  -- ---- and of runs: the row stands in U, its windows of 4 in Q, these and those of 16 in X
  pub runs_rooms : (X : ℕ → ℕ) → ((q : ℕ) → q < far + 3 → U (room + q) ≡ P q)
      → ((p : ℕ) → p < far → Q p ≡ four_join grows U 1 2 3 (room + p))
      → ((p : ℕ) → p < far → X p ≡ Q p)
      → ((p : ℕ) → p < far → X (room + p) ≡ four_join grows Q 4 8 12 p) → Rooms grows 1 P far X
  runs_rooms X row four first second =
      record {
        first = λ p h. subst (λ y. Sees grows 4 y P p) (sym (first p (omega arith))) (fours p (omega arith));
        second = λ p h. subst (λ y. Sees grows 16 y P p)
            (sym (second p (omega arith) ∙ sixteen_is grows Q p))
            (window_four grows 4 P Q p (fours p (omega arith))
            (fours (p + 4) (omega arith)) (fours (p + 8) (omega arith)) (fours (p + 12) (omega arith)));
      }
    where
      at : (p i : ℕ) → p + i < far + 3 → U (room + p + i) ≡ P (p + i)
      at p i h = ap U (group room p i) ∙ row (p + i) h
        where
          group : (a b c : ℕ) → a + b + c ≡ a + (b + c)
          group a b c = omega arith

      fours : (p : ℕ) → p < far → Sees grows 4 (Q p) P p
      fours p h =
          subst (λ y. Sees grows 4 y P p)
          (sym (four p h
          ∙ four_is grows U P (room + p) p (row p (omega arith)) (at p 1 (omega arith)) (at p 2 (omega arith))
          (at p 3 (omega arith))))
          (window_four grows 1 P P p (one p) (one (p + 1)) (one (p + 2)) (one (p + 3)))
        where
          one : (y : ℕ) → Sees grows 1 (P y) P y
          one y = window_one grows P y

-- ---- one row of an element at column x
place_is : (grows : Bool) (o c : ℕ) → place_of grows o c ≡ 64 + plus_by grows o c - minus_by grows o c
place_is true o c = refl
place_is false o c = refl

plus_lt : (grows : Bool) (o c : ℕ) → o < 64 → c < 64 → plus_by grows o c < 64
plus_lt true o c h k = h
plus_lt false o c h k = k

minus_lt : (grows : Bool) (o c : ℕ) → o < 64 → c < 64 → minus_by grows o c < 64
minus_lt true o c h k = k
minus_lt false o c h k = h

module _ (grows : Bool) (most kind w : ℕ) (S : ℕ → ℕ) (far : ℕ) (B : ℕ → ℕ) (long : w + 139 ≤ far)
    (rooms : Rooms grows kind (pad_at grows most w S) far B) (word o count : ℕ) (at : List ℕ) (ho : o < 64)
    (strokes : Strokes grows word o kind count at) (x : ℕ) (hx : x < w) where
  abbrev P : ℕ → ℕ
  P = pad_at grows most w S

  -- a place that was found is bounded exactly where all that it shows is
  shown_to : (p v : ℕ) → (p < 128) ⊎ ((room ≤ p) × (p < room + 128)) → Bound grows (B (x + p)) v
      → (q : ℕ) → Shows kind p q → Bound grows (P (x + q)) v
  shown_to p v near h q s =
      ⊎_elim
      (λ l. ⊎_elim
      (λ a. subst (λ i. Bound grows (P i) v) (sum x p q a.1.0)
      ((rooms.first (x + p) (omega arith) v).0 h (q - p) (omega (arith, a.1.0, a.1.1))))
      (λ a. absurd (omega (arith, a.0))) s)
      (λ l. ⊎_elim
      (λ a. absurd (omega (arith, a.0, l.0)))
      (λ a. subst (λ i. Bound grows (P i) v) (sum x (p - room) q a.1.0)
      ((rooms.second (x + (p - room)) (omega (arith, l.0, l.1)) v).0
      (subst (λ i. Bound grows (B i) v) (over x p l.0) h) (q - (p - room))
      (omega (arith, a.1.0, a.1.1)))) s)
      near
    where
      sum : (x p q : ℕ) → p ≤ q → x + p + (q - p) ≡ x + q
      sum x p q h = omega arith

      over : (x p : ℕ) → 1232 ≤ p → x + p ≡ 1232 + (x + (p - 1232))
      over x p h = omega arith

  shown_from : (p v : ℕ) → (p < 128) ⊎ ((room ≤ p) × (p < room + 128))
      → ((q : ℕ) → Shows kind p q → Bound grows (P (x + q)) v) → Bound grows (B (x + p)) v
  shown_from p v near each =
      ⊎_elim
      (λ l. (rooms.first (x + p) (omega arith) v).1
      (λ k hk. subst (λ i. Bound grows (P i) v) (sum x p k)
      (each (p + k) (inl (omega arith, (omega arith, omega arith))))))
      (λ l. subst (λ i. Bound grows (B i) v) (over x p l.0)
      ((rooms.second (x + (p - room)) (omega (arith, l.0, l.1)) v).1
      (λ k hk. subst (λ i. Bound grows (P i) v) (sum x (p - room) k)
      (each (p - room + k) (inr (l.0, (omega arith, omega arith)))))))
      near
    where
      sum : (x p k : ℕ) → x + (p + k) ≡ x + p + k
      sum x p k = omega arith

      over : (x p : ℕ) → 1232 ≤ p → 1232 + (x + (p - 1232)) ≡ x + p
      over x p h = omega arith

  -- a cell's place in the padded row: in the row, or beyond the frame
  abbrev in_row : ℕ → Bool
  in_row c = within w x (plus_by grows o c) (minus_by grows o c)

  at_in : (c : ℕ) → c < 64 → in_row c ≡ true
      → P (x + place_of grows o c) ≡ S (moved x (plus_by grows o c) (minus_by grows o c))
  at_in c hc t =
      let a = plus_by grows o c in
      let d = minus_by grows o c in
      let r = both (leb d (x + a)) (ltb (x + a - d) w) t in
      let l = leb-true d (x + a) r.0 in
      let k = ltb-true (x + a - d) w r.1 in
      ap (λ q. P (x + q)) (place_is grows o c)
      ∙ pad_in grows most w S (x + (64 + a - d)) (omega (arith, l, k, minus_lt grows o c ho hc))
      (omega (arith, l, k, minus_lt grows o c ho hc))
      ∙ ap S (back x a d l (minus_lt grows o c ho hc))
    where
      back : (x a d : ℕ) → d ≤ x + a → d < 64 → x + (64 + a - d) - 64 ≡ x + a - d
      back x a d h k = omega arith

  at_bound : (c v : ℕ) → c < 64 → v ≤ most
      → (in_row c ≡ true → Bound grows (S (moved x (plus_by grows o c) (minus_by grows o c))) v)
      → Bound grows (P (x + place_of grows o c)) v
  at_bound c v hc hv given =
      let a = plus_by grows o c in
      let d = minus_by grows o c in
      ⊎_elim
      (λ l. subst (λ i. Bound grows i v)
      (sym (ap (λ q. P (x + q)) (place_is grows o c)
      ∙ pad_before grows most w S (x + (64 + a - d)) (omega (arith, l, minus_lt grows o c ho hc))))
      (start_bound grows most v hv))
      (λ l. ⊎_elim
      (λ k. let t = ap₂ ◌&&◌ (le-leb d (x + a) l) (lt-ltb (x + a - d) w k) in
      subst (λ i. Bound grows i v) (sym (at_in c hc t)) (given t))
      (λ k. subst (λ i. Bound grows i v)
      (sym (ap (λ q. P (x + q)) (place_is grows o c)
      ∙ pad_after grows most w S (x + (64 + a - d)) (omega (arith, l, k, minus_lt grows o c ho hc))
      (omega (arith, l, k, minus_lt grows o c ho hc))))
      (start_bound grows most v hv))
      (below_or_not (x + a - d) w))
      (below_or_not (x + a) d)

  abbrev joined : ℕ → ℕ
  joined v0 = fold (join_by grows) v0 (λ j. B (x + get_or at j 0)) count

  pub line_to : (v0 v : ℕ) → Bound grows (joined v0) v → Bound grows v0 v
      × ((c : ℕ) → c < 64 → cell_on64 word c ≡ true → in_row c ≡ true
      → Bound grows (S (moved x (plus_by grows o c) (minus_by grows o c))) v)
  line_to v0 v h =
      let f = fold_to grows v0 (λ j. B (x + get_or at j 0)) v count h in (
        f.0,
        λ c hc on t.
            let g = strokes.covered c hc on in
            subst (λ i. Bound grows i v) (at_in c hc t)
            (shown_to (get_or at g.0 0) v (strokes.near g.0 g.1.0) (f.1 g.0 g.1.0)
            (place_of grows o c) g.1.1),
      )

  pub line_from : (v0 v : ℕ) → v ≤ most → Bound grows v0 v
      → ((c : ℕ) → c < 64 → cell_on64 word c ≡ true → in_row c ≡ true
      → Bound grows (S (moved x (plus_by grows o c) (minus_by grows o c))) v)
      → Bound grows (joined v0) v
  line_from v0 v hv h each =
      fold_from grows v0 (λ j. B (x + get_or at j 0)) v count h
      (λ j hj. shown_from (get_or at j 0) v (strokes.near j hj)
      (λ q s. let g = strokes.inside j q hj s in
      subst (λ i. Bound grows (P (x + i)) v) (sym g.1.1.1)
      (at_bound g.0 v g.1.0 hv (λ t. each g.0 g.1.0 g.1.1.0 t))))
