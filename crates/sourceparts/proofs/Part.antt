-- The result while it is made: what has been joined so far, row after row and kind after kind.
use Prim.Native.Nat.{ℕ, ◌+◌, ◌-◌, ◌≤◌, ◌<◌}
use mathlib.Core.Path.{◌≡◌, refl, sym, ap, ap₂, ◌∙◌, subst}
use mathlib.Core.Bool.{Bool, true, false, not}
use mathlib.Core.List.{List}
use mathlib.Core.Logic.{◌⊎◌, inl, inr, ⊎_elim}
use native.Mathlib.Omega.{arith}
use native.Mathlib.Nat.{eq-or-lt_of_le, not-suc-le-zero}
use lib.Dec.{leb, ltb}
use lib.ListN.{get_or}
use borrow.Author.Tests.{leb-true, ltb-true}
use Rattle.basics.proofs.Tests.{both}
use Rattle.basics.proofs.SliceParts.{below_or_not}
use Rattle.picture.specs.Bytes.{Picture}
use Rattle.element.specs.declared.Outline.{Outline}
use Rattle.element.specs.Descriptor.{most_cells}
use Rattle.element.specs.Record.{cell_on}
use Rattle.morphology.specs.Operations.{fold, moved, within}
use Rattle.rows.specs.Steps.Fold.{join_by, start_by, plus_by, minus_by}
use Rattle.rows.specs.Steps.Row.{source_row}
use Rattle.rows.proofs.Places.{within_yes, place_out, place_in_lem}
use Rattle.windows.specs.Steps.Bounds.{Bound}
use Rattle.packedline.specs.Steps.Cells.{cell_on64}
use Rattle.bitrow.specs.Steps.Added.{masked_of}
use Rattle.bitrow.proofs.Cells.{masked_on, masked_off}
use Rattle.strokes.specs.Steps.Strokes.{kind_at, Strokes}
use Rattle.sourceparts.specs.Steps.Shown.{pad_at, Rooms}
use Rattle.sourceparts.specs.Steps.Part.{across_to, down_to, Leads, Done, Part}
use Rattle.sourceparts.proofs.Shown.{start_bound, line_to, line_from}

-- ---- what is done, as it grows
done_more : (k v n kind q r : ℕ) → Done k v n kind q r → Done k v (n + 1) kind q r
done_more k v n kind q r d =
    ⊎_elim (λ h. inl h)
    (λ h. inr (h.0, ⊎_elim (λ l. inl l) (λ a. inr (a.0, omega (arith, a.1))) h.1)) d

-- a row of the element more is that row, from source row v, where it is of kind k
done_new : (k v n kind q r : ℕ) → Done k v (n + 1) kind q r
    → Done k v n kind q r ⊎ ((kind ≡ k) × ((q ≡ v) × (r ≡ n)))
done_new k v n kind q r d =
    ⊎_elim (λ h. inl (inl h))
    (λ h. ⊎_elim (λ l. inl (inr (h.0, inl l)))
    (λ a. ⊎_elim (λ e. inr (h.0, (a.0, e))) (λ l. inl (inr (h.0, inr (a.0, l))))
    (eq-or-lt_of_le (below_one r n a.1))) h.1) d
  where
    below_one : (i n : ℕ) → i < n + 1 → i ≤ n
    below_one i n h = omega arith

done_here : (k v n kind q r : ℕ) → kind ≡ k → q ≡ v → r ≡ n → Done k v (n + 1) kind q r
done_here k v n kind q r e f g = inr (e, inr (f, omega arith))

-- after all rows of the element, the next source row
done_source : (k v n kind q r : ℕ) → Done k v n kind q r → Done k (v + 1) 0 kind q r
done_source k v n kind q r d =
    ⊎_elim (λ h. inl h)
    (λ h. inr (
      h.0,
      ⊎_elim (λ l. inl (omega arith)) (λ a. inl (omega (arith, a.0))) h.1,
    )) d

done_source_back : (k v n kind q r : ℕ) → r < n → Done k (v + 1) 0 kind q r → Done k v n kind q r
done_source_back k v n kind q r hr d =
    ⊎_elim (λ h. inl h)
    (λ h. inr (
      h.0,
      ⊎_elim
          (λ l. ⊎_elim (λ e. inr (e, hr)) (λ m. inl m) (eq-or-lt_of_le (below_one q v l)))
          (λ a. absurd (not-suc-le-zero a.1)) h.1,
    )) d
  where
    below_one : (i n : ℕ) → i < n + 1 → i ≤ n
    below_one i n h = omega arith

-- after all source rows, the next kind
done_kind : (k v n kind q r : ℕ) → Done k v n kind q r → Done (k + 1) 0 0 kind q r
done_kind k v n kind q r d = ⊎_elim (λ h. inl (omega arith)) (λ h. inl (omega (arith, h.0))) d

done_kind_back : (k h kind q r : ℕ) → (kind ≡ k → q < h) → Done (k + 1) 0 0 kind q r → Done k h 0 kind q r
done_kind_back k h kind q r hq d =
    ⊎_elim
    (λ l. ⊎_elim (λ e. inr (e, inl (hq e))) (λ m. inl m) (eq-or-lt_of_le (below_one kind k l)))
    (λ a. ⊎_elim (λ l. absurd (not-suc-le-zero l)) (λ z. absurd (not-suc-le-zero z.1)) a.1) d
  where
    below_one : (i n : ℕ) → i < n + 1 → i ≤ n
    below_one i n h = omega arith

inside : (n p plus minus : ℕ) → within n p plus minus ≡ true → (minus ≤ p + plus) × (p + plus - minus < n)
inside n p plus minus t =
    let r = both (leb minus (p + plus)) (ltb (p + plus - minus) n) t in
    (leb-true minus (p + plus) r.0, ltb-true (p + plus - minus) n r.1)

-- ---- the row of the result that sees source row v by row r of the element, and no other does
module _ (grows : Bool) (h v o r y : ℕ) (ey : y ≡ source_row (not grows) h v o r) where
  abbrev plus : ℕ
  plus = plus_by grows o r

  abbrev minus : ℕ
  minus = minus_by grows o r

  turned : (grows : Bool) → (plus_by (not grows) o r ≡ minus_by grows o r)
      × (minus_by (not grows) o r ≡ plus_by grows o r)
  turned true = (refl, refl)
  turned false = (refl, refl)

  pub seen_back : y < h → v < h → (within h y plus minus ≡ true) × (moved y plus minus ≡ v)
  unfolding source_row
  seen_back l lv =
      let p = place_in_lem h v (plus_by (not grows) o r) (minus_by (not grows) o r) y ey l in
      let i = inside h v (plus_by (not grows) o r) (minus_by (not grows) o r) p.0 in
      let t = turned grows in
      let e : y ≡ v + minus - plus = p.1 ∙ ap₂ (λ a b. v + a - b) t.0 t.1 in
      let m : plus ≤ v + minus = omega (arith, i.0, t.0, t.1) in
      let q : moved y plus minus ≡ v = omega (arith, e, m) in
      (within_yes h y plus minus (omega (arith, e, m)) (omega (arith, q)), q)

  pub seen_only : (z : ℕ) → z < h → within h z plus minus ≡ true → moved z plus minus ≡ v → y ≡ z
  unfolding source_row
  seen_only z lz t e =
      let i = inside h z plus minus t in
      let s = turned grows in
      let m : minus_by (not grows) o r ≤ v + plus_by (not grows) o r = omega (arith, i.0, s.0, s.1, e) in
      let b : v + plus_by (not grows) o r - minus_by (not grows) o r ≡ z = omega (arith, i.0, s.0, s.1, e) in
      ⊎_elim
      (λ l. (place_in_lem h v (plus_by (not grows) o r) (minus_by (not grows) o r) y ey l).1 ∙ b)
      (λ l. absurd (differ (sym (place_out h v (plus_by (not grows) o r) (minus_by (not grows) o r) y ey l)
      ∙ within_yes h v (plus_by (not grows) o r) (minus_by (not grows) o r) m (omega (arith, b)))))
      (below_or_not y h)
    where
      differ : false ≡ true → ⊥
      differ e = let z : ◌≡◌ {A = ℕ} 0 1 = cc in omega arith

-- ---- steps that join nothing
module _ (grows : Bool) (most : ℕ) (S : Picture) (w h : ℕ) (o : Outline) (words : List ℕ) where
  abbrev Is : ℕ → ℕ → ℕ → Picture → Type 0
  Is k v n T = Part grows most S w h o words k v n T

  part_same : (k v n k' v' n' : ℕ) (T : Picture)
      → ((x y c r : ℕ) → y < h → Leads grows w h o words x y c r
      → (Done k v n (kind_at o words r) (down_to grows o y r) r
      → Done k' v' n' (kind_at o words r) (down_to grows o y r) r)
      × (Done k' v' n' (kind_at o words r) (down_to grows o y r) r
      → Done k v n (kind_at o words r) (down_to grows o y r) r))
      → Is k v n T → Is k' v' n' T
  part_same k v n k' v' n' T same p =
      record {
        to = λ x y z hx hy hz b c r l d. p.to x y z hx hy hz b c r l ((same x y c r hy l).1 d);
        from = λ x y z hx hy hz each. p.from x y z hx hy hz
            (λ c r l d. each c r l ((same x y c r hy l).0 d));
      }

  pub part_start : (T : Picture) → ((x y : ℕ) → x < w → y < h → T x y ≡ start_by grows most) → Is 0 0 0 T
  part_start T e =
      record {
        to = λ x y z hx hy hz b c r l d. absurd (nothing (kind_at o words r) (down_to grows o y r) r d);
        from = λ x y z hx hy hz each. subst (λ m. Bound grows m z) (sym (e x y hx hy))
            (start_bound grows most z hz);
      }
    where
      nothing : (kind q r : ℕ) → Done 0 0 0 kind q r → ⊥
      nothing kind q r d =
          ⊎_elim (λ l. not-suc-le-zero l)
          (λ a. ⊎_elim (λ l. not-suc-le-zero l) (λ z. not-suc-le-zero z.1) a.1) d

  pub part_source : (k v n : ℕ) (T : Picture) → n ≡ o.h → Is k v n T → Is k (v + 1) 0 T
  part_source k v n T e p =
      part_same k v n k (v + 1) 0 T
      (λ x y c r hy l. (
        done_source k v n (kind_at o words r) (down_to grows o y r) r,
        done_source_back k v n (kind_at o words r) (down_to grows o y r) r (omega (arith, l.row, e)),
      )) p

  pub part_kind : (k v : ℕ) (T : Picture) → v ≡ h → Is k v 0 T → Is (k + 1) 0 0 T
  part_kind k v T e p =
      part_same k v 0 (k + 1) 0 0 T
      (λ x y c r hy l. (
        done_kind k v 0 (kind_at o words r) (down_to grows o y r) r,
        done_kind_back k v (kind_at o words r) (down_to grows o y r) r
            (λ z. let i = inside h y _ _ l.down in omega (arith, i.1, e)),
      )) p

  -- no row of this kind
  pub part_none : (k : ℕ) (T : Picture) → ((r : ℕ) → r < o.h → kind_at o words r ≡ k → ⊥) → Is k 0 0 T
      → Is (k + 1) 0 0 T
  part_none k T none p =
      part_same k 0 0 (k + 1) 0 0 T
      (λ x y c r hy l. (
        done_kind k 0 0 (kind_at o words r) (down_to grows o y r) r,
        done_kind_back k 0 (kind_at o words r) (down_to grows o y r) r
            (λ z. absurd (none r l.row z)),
      )) p

  -- a row of the element that is of another kind, or leads to no row of the result
  pub part_other : (k v n : ℕ) (T : Picture) → (kind_at o words n ≡ k → ⊥) → Is k v n T → Is k v (n + 1) T
  part_other k v n T other p =
      part_same k v n k v (n + 1) T
      (λ x y c r hy l. (
        done_more k v n (kind_at o words r) (down_to grows o y r) r,
        λ d. ⊎_elim (λ d. d) (λ z. absurd (other (ap (kind_at o words) (sym z.1.1) ∙ z.0)))
            (done_new k v n (kind_at o words r) (down_to grows o y r) r d),
      )) p

  pub part_out : (k v n y : ℕ) (T : Picture) → y ≡ source_row (not grows) h v o.origin.bin.0 n → h ≤ y
      → Is k v n T → Is k v (n + 1) T
  part_out k v n y T ey out p =
      part_same k v n k v (n + 1) T
      (λ x z c r hz l. (
        done_more k v n (kind_at o words r) (down_to grows o z r) r,
        λ d. ⊎_elim (λ d. d)
            (λ a. absurd (omega (arith, out, hz, only x z c r hz l a.1.1 a.1.0)))
            (done_new k v n (kind_at o words r) (down_to grows o z r) r d),
      )) p
    where
      only : (x z c r : ℕ) → z < h → Leads grows w h o words x z c r → r ≡ n → down_to grows o z r ≡ v → y ≡ z
      only x z c r hz l e q =
          seen_only grows h v o.origin.bin.0 n y ey z hz
          (ap (λ i. within h z (plus_by grows o.origin.bin.0 i) (minus_by grows o.origin.bin.0 i))
          (sym e)
          ∙ l.down) (ap (down_to grows o z) (sym e) ∙ q)

  -- ---- a row of the element joined into the row of the result that sees source row v by it
  module _ (k v n y : ℕ) (T N : Picture) (hv : v < h) (hy : y < h) (hn : n < o.h)
      (wide : o.w ≤ most_cells) (column : o.origin.ping.0 < o.w)
      (ey : y ≡ source_row (not grows) h v o.origin.bin.0 n) (kind : kind_at o words n ≡ k)
      (far count word : ℕ) (B : ℕ → ℕ) (at : List ℕ) (long : w + 139 ≤ far)
      (rooms : Rooms grows k (pad_at grows most w (λ x. S x v)) far B)
      (is_IsWord : word ≡ masked_of (get_or words n 0) o.w)
      (strokes : Strokes grows word o.origin.ping.0 k count at)
      (new_here : (x : ℕ) → x < w
      → N x y ≡ fold (join_by grows) (T x y) (λ j. B (x + get_or at j 0)) count)
      (new_else : (x z : ℕ) → x < w → z < h → (z < y) ⊎ (y < z) → N x z ≡ T x z) where
    -- column x of the row as it is now
    abbrev joined : ℕ → ℕ
    joined x = fold (join_by grows) (T x y) (λ j. B (x + get_or at j 0)) count

    back : (within h y (plus_by grows o.origin.bin.0 n) (minus_by grows o.origin.bin.0 n) ≡ true)
        × (down_to grows o y n ≡ v)
    back = seen_back grows h v o.origin.bin.0 n y ey hy hv

    -- what the row of the element finds at column x
    found : (x c : ℕ) → S (across_to grows o x c) v ≡ S (across_to grows o x c) (down_to grows o y n)
    found x c = ap (S (across_to grows o x c)) (sym back.1)

    on_to : (c : ℕ) → c < 64 → cell_on64 word c ≡ true → (c < o.w) × (cell_on (get_or words n 0) c ≡ true)
    on_to c hc q =
        ⊎_elim
        (λ l. (l, sym (ap (λ m. cell_on64 m c) is_IsWord ∙ masked_on (get_or words n 0) o.w c wide l) ∙ q))
        (λ l. absurd (differ (sym
        (ap (λ m. cell_on64 m c) is_IsWord ∙ masked_off (get_or words n 0) o.w c l hc)
        ∙ q)))
        (below_or_not c o.w)
      where
        differ : false ≡ true → ⊥
        differ e = let z : ◌≡◌ {A = ℕ} 0 1 = cc in omega arith

    on_from : (c : ℕ) → c < o.w → cell_on (get_or words n 0) c ≡ true → cell_on64 word c ≡ true
    on_from c l q = ap (λ m. cell_on64 m c) is_IsWord ∙ masked_on (get_or words n 0) o.w c wide l ∙ q

    here_to : (x z : ℕ) → x < w → Bound grows (joined x) z → Bound grows (T x y) z
        × ((c : ℕ) → Leads grows w h o words x y c n
        → Bound grows (S (across_to grows o x c) (down_to grows o y n)) z)
    here_to x z l q =
        let r = line_to grows most k w (λ x. S x v) far B long rooms word o.origin.ping.0 count at
        (omega arith) strokes x l (T x y) z q in (
          r.0,
          λ c a. subst (λ m. Bound grows m z) (found x c)
              (r.1 c (omega (arith, a.column)) (on_from c a.column a.set) a.across),
        )

    here_from : (x z : ℕ) → x < w → z ≤ most → Bound grows (T x y) z
        → ((c : ℕ) → Leads grows w h o words x y c n
        → Bound grows (S (across_to grows o x c) (down_to grows o y n)) z)
        → Bound grows (joined x) z
    here_from x z l hz q each =
        line_from grows most k w (λ x. S x v) far B long rooms word o.origin.ping.0 count at
        (omega arith) strokes x l (T x y) z hz q
        (λ c hc on t. let d = on_to c hc on in
        subst (λ m. Bound grows m z) (sym (found x c))
        (each c (record { column = d.0; row = hn; set = d.1; across = t; down = back.0 })))

    side : (z : ℕ) → (y ≡ z) ⊎ ((z < y) ⊎ (y < z))
    side z =
        ⊎_elim (λ l. inr (inl l)) (λ l. ⊎_elim (λ e. inl e) (λ m. inr (inr m)) (eq-or-lt_of_le l))
        (below_or_not z y)

    -- in another row of the result nothing more is done
    else_back : (x z c r : ℕ) → z < h → (z < y) ⊎ (y < z) → Leads grows w h o words x z c r
        → Done k v (n + 1) (kind_at o words r) (down_to grows o z r) r
        → Done k v n (kind_at o words r) (down_to grows o z r) r
    else_back x z c r hz apart l d =
        ⊎_elim (λ d. d)
        (λ a. absurd (⊎_elim
        (λ q. omega (arith, q, only a.1.1 a.1.0))
        (λ q. omega (arith, q, only a.1.1 a.1.0)) apart))
        (done_new k v n (kind_at o words r) (down_to grows o z r) r d)
      where
        only : r ≡ n → down_to grows o z r ≡ v → y ≡ z
        only e q =
            seen_only grows h v o.origin.bin.0 n y ey z hz
            (ap (λ i. within h z (plus_by grows o.origin.bin.0 i) (minus_by grows o.origin.bin.0 i))
            (sym e) ∙ l.down) (ap (down_to grows o z) (sym e) ∙ q)

    pub part_join : Is k v n T → Is k v (n + 1) N
    part_join p =
        record {
          to = λ x z m hx hz hm q c r l d. ⊎_elim
              (λ e. at_to x m hx hm (subst (λ z. Bound grows (N x z) m) (sym e) q) z (sym
              e) c r l d)
              (λ a. p.to x z m hx hz hm (subst (λ i. Bound grows i m) (new_else x z hx hz a) q) c r l
              (else_back x z c r hz a l d))
              (side z);
          from = λ x z m hx hz hm each. ⊎_elim
              (λ e. subst (λ z. Bound grows (N x z) m) e
              (at_from x m hx hm (λ c r l d. subst
              (λ z. (c r : ℕ) → Leads grows w h o words x z c r
              → Done k v (n + 1) (kind_at o words r) (down_to grows o z r) r
              → Bound grows (S (across_to grows o x c) (down_to grows o z r)) m) (sym e) each c r
              l d)))
              (λ a. subst (λ i. Bound grows i m) (sym (new_else x z hx hz a))
              (p.from x z m hx hz hm
              (λ c r l d. each c r l (done_more k v n (kind_at o words r) (down_to grows o z r) r d))))
              (side z);
        }
      where
        at_to : (x m : ℕ) → x < w → m ≤ most → Bound grows (N x y) m → (z : ℕ) → z ≡ y
            → (c r : ℕ) → Leads grows w h o words x z c r
            → Done k v (n + 1) (kind_at o words r) (down_to grows o z r) r
            → Bound grows (S (across_to grows o x c) (down_to grows o z r)) m
        at_to x m hx hm q z e c r l d =
            let f = here_to x m hx (subst (λ i. Bound grows i m) (new_here x hx) q) in
            ⊎_elim
            (λ d. p.to x z m hx (subst (λ i. i < h) (sym e) hy) hm
            (subst (λ i. Bound grows (T x i) m) (sym e) f.0) c r l d)
            (λ a. subst (λ i. Bound grows (S (across_to grows o x c) (down_to grows o i r)) m)
            (sym e)
            (subst (λ i. Bound grows (S (across_to grows o x c) (down_to grows o y i)) m)
            (sym a.1.1)
            (f.1 c (subst (λ i. Leads grows w h o words x y c i) a.1.1
            (subst (λ i. Leads grows w h o words x i c r) e l)))))
            (done_new k v n (kind_at o words r) (down_to grows o z r) r d)

        at_from : (x m : ℕ) → x < w → m ≤ most
            → ((c r : ℕ) → Leads grows w h o words x y c r
            → Done k v (n + 1) (kind_at o words r) (down_to grows o y r) r
            → Bound grows (S (across_to grows o x c) (down_to grows o y r)) m)
            → Bound grows (N x y) m
        at_from x m hx hm each =
            subst (λ i. Bound grows i m) (sym (new_here x hx))
            (here_from x m hx hm
            (p.from x y m hx hy hm
            (λ c r l d. each c r l (done_more k v n (kind_at o words r) (down_to grows o y r) r d)))
            (λ c l. each c n l (done_here k v n (kind_at o words n) (down_to grows o y n) n kind back.1
            refl)))
