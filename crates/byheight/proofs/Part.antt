-- The result while it is made: what has been joined so far, row after row.
use Prim.Native.Nat.{ℕ, ◌+◌, ◌-◌, ◌*◌, ◌≤◌, ◌<◌}
use mathlib.Core.Path.{◌≡◌, sym, ap, ◌∙◌, subst}
use mathlib.Core.Bool.{Bool, true, false, not}
use mathlib.Core.List.{List}
use mathlib.Core.Logic.{◌⊎◌, inl, inr, ⊎_elim}
use native.Mathlib.Omega.{arith}
use native.Mathlib.Nat.{eq-or-lt_of_le, not-suc-le-zero, add-sub_cancel_left}
use lib.Dec.{leb}
use lib.ListN.{length, get_or, take}
use borrow.Author.Tests.{ltb-true}
use borrow.Rule.Slice.PartMut.{mid_of, put_mid}
use Rattle.basics.specs.Bytes.{Bytes}
use Rattle.basics.specs.Lists.{firsts}
use Rattle.basics.proofs.Lists.{get_d_firsts}
use Rattle.basics.proofs.Tests.{both}
use Rattle.basics.proofs.SliceParts.{below_or_not, put_before, put_within, put_after, get_mid, length_mid}
use Rattle.picture.proofs.Sizes.{row_room}
use Rattle.element.specs.declared.Outline.{Outline}
use Rattle.element.specs.Descriptor.{most_cells}
use Rattle.morphology.specs.Operations.{within}
use Rattle.rows.specs.Steps.Ways.{weigh_by}
use Rattle.rows.specs.Steps.Fold.{start_by, plus_by, minus_by}
use Rattle.rows.specs.Steps.Row.{source_row}
use Rattle.blocks.proofs.Laid.{get_first, length_laid}
use Rattle.windows.specs.Steps.Bounds.{Bound}
use Rattle.weighblocks.specs.Steps.Cells.{both_at, weighed_row}
use Rattle.heightsigns.specs.Steps.Taken.{Taken}
use Rattle.sourceparts.specs.Steps.Part.{across_to, down_to, Leads}
use Rattle.sourceparts.proofs.Part.{seen_back, seen_only}
use Rattle.sourceparts.proofs.Bytes.{byte_start}
use Rattle.byheight.specs.Steps.Part.{finds_at, Done, Part}
use Rattle.heightsigns.specs.Steps.Padded.{Padded}
use Rattle.heightsigns.proofs.Line.{line_to, line_from}

below_one : (i n : ℕ) → i < n + 1 → i ≤ n
below_one i n h = omega arith

-- ---- what is done, as it grows
module _ (from many v n q r : ℕ) where
  done_more : Done from many v n q r → Done from many v (n + 1) q r
  done_more d =
      ⊎_elim (λ l. inl l)
      (λ a. inr (a.0, ⊎_elim (λ l. inl l) (λ b. inr (b.0, omega (arith, b.1))) a.1)) d

  -- a row of the element more is that row, from source row v
  done_new : Done from many v (n + 1) q r → Done from many v n q r ⊎ ((q ≡ v) × (r ≡ n))
  done_new d =
      ⊎_elim (λ l. inl (inl l))
      (λ a. ⊎_elim (λ l. inl (inr (a.0, inl l)))
      (λ b. ⊎_elim (λ e. inr (b.0, e)) (λ l. inl (inr (a.0, inr (b.0, l))))
      (eq-or-lt_of_le (below_one r n b.1))) a.1) d

  -- after all rows that are listed, the next source row
  done_source : Done from many v n q r → Done from many (v + 1) from q r
  done_source d =
      ⊎_elim (λ l. inl l)
      (λ a. inr (a.0, inl (⊎_elim (λ l. omega arith) (λ b. omega (arith, b.0)) a.1))) d

  done_source_back : n ≡ from + many → Done from many (v + 1) from q r → Done from many v n q r
  done_source_back e d =
      ⊎_elim (λ l. inl l)
      (λ a. ⊎_elim
      (λ l. ⊎_elim (λ z. inr (a.0, inr (z, omega (arith, a.0, e)))) (λ k. inr (a.0, inl k))
      (eq-or-lt_of_le (below_one q v l)))
      (λ b. inl b.1) a.1) d

-- before the first source row, and after the last
done_none : (from many q r : ℕ) → Done from many 0 from q r → r < from
done_none from many q r d =
    ⊎_elim (λ l. l) (λ a. ⊎_elim (λ l. absurd (not-suc-le-zero l)) (λ b. b.1) a.1) d

done_all : (from many v q r : ℕ) → Done from many v from q r → r < from + many
done_all from many v q r d = ⊎_elim (λ l. omega arith) (λ a. a.0) d

module _ (grows : Bool) (s : List ℕ) (w h : ℕ) (o : Outline) (words hs : List ℕ) where
  -- ---- steps that join nothing
  part_same : (f m v n f' m' v' n' : ℕ) (t : List ℕ)
      → ((x y c r : ℕ) → y < h → Leads grows w h o words x y c r
      → (Done f m v n (down_to grows o y r) r → Done f' m' v' n' (down_to grows o y r) r)
      × (Done f' m' v' n' (down_to grows o y r) r → Done f m v n (down_to grows o y r) r))
      → Part grows s w h o words hs f m v n t → Part grows s w h o words hs f' m' v' n' t
  part_same f m v n f' m' v' n' t same p =
      record {
        to = λ x y z hx hy hz b c r l d. p.to x y z hx hy hz b c r l ((same x y c r hy l).1 d);
        follows = λ x y z hx hy hz each. p.follows x y z hx hy hz
            (λ c r l d. each c r l ((same x y c r hy l).0 d));
      }

  pub part_start : (t : List ℕ) (n : ℕ) → n ≡ h * w → t ≡ firsts (λ x. start_by grows 255) n
      → Part grows s w h o words hs 0 0 0 0 t
  part_start t n e q =
      record {
        to = λ x y z hx hy hz b c r l d. absurd (not-suc-le-zero (done_none 0 0 (down_to grows o y r) r d));
        follows = λ x y z hx hy hz each. subst (λ m. Bound grows m z)
            (sym (ap (λ m. get_or m (y * w + x) 0) q
            ∙ get_d_firsts (λ x. start_by grows 255) n (y * w + x) (omega (arith, row_room w hy))))
            (byte_start grows z hz);
      }

  -- the next rows of the element, before the first source row
  pub part_open : (from many : ℕ) (t : List ℕ) → Part grows s w h o words hs from 0 0 from t
      → Part grows s w h o words hs from many 0 from t
  part_open from many t p =
      part_same from 0 0 from from many 0 from t
      (λ x y c r hy l. (
        λ d. inl (done_none from 0 (down_to grows o y r) r d),
        λ d. inl (done_none from many (down_to grows o y r) r d),
      )) p

  -- a cell that leads into the frame leads to a row before the end
  low : (x y c r : ℕ) → Leads grows w h o words x y c r → down_to grows o y r < h
  low x y c r l =
      let q = both (leb (minus_by grows o.origin.bin.0 r) (y + plus_by grows o.origin.bin.0 r)) _
      l.down in
      ltb-true (down_to grows o y r) h q.1

  pub part_next : (from many v to : ℕ) (t : List ℕ) → v ≡ h → to ≡ from + many
      → Part grows s w h o words hs from many v from t → Part grows s w h o words hs to 0 0 to t
  part_next from many v to t e f p =
      part_same from many v from to 0 0 to t
      (λ x y c r hy l. (
        λ d. inl (omega (arith, f, done_all from many v (down_to grows o y r) r d)),
        λ d. inr (
          omega (arith, f, done_none to 0 (down_to grows o y r) r d),
          inl (omega (arith, e, low x y c r l)),
        ),
      )) p

module _ (grows : Bool) (s : List ℕ) (w h : ℕ) (o : Outline) (words hs : List ℕ) (from many : ℕ) where
  abbrev Is : ℕ → ℕ → List ℕ → Type 0
  Is v n t = Part grows s w h o words hs from many v n t

  pub part_source : (v n : ℕ) (t : List ℕ) → n ≡ from + many → Is v n t → Is (v + 1) from t
  part_source v n t e p =
      part_same grows s w h o words hs from many v n from many (v + 1) from t
      (λ x y c r hy l. (
        done_source from many v n (down_to grows o y r) r,
        done_source_back from many v n (down_to grows o y r) r e,
      )) p

  -- the row of the result that row n of the element sees source row v from, and no other does
  only : (v n y : ℕ) → y ≡ source_row (not grows) h v o.origin.bin.0 n
      → (x z c r : ℕ) → z < h → Leads grows w h o words x z c r → r ≡ n → down_to grows o z r ≡ v → y ≡ z
  only v n y ey x z c r hz l e q =
      seen_only grows h v o.origin.bin.0 n y ey z hz
      (ap (λ i. within h z (plus_by grows o.origin.bin.0 i) (minus_by grows o.origin.bin.0 i))
      (sym e) ∙ l.down) (ap (down_to grows o z) (sym e) ∙ q)

  -- a row of the element that leads to no row of the result
  pub part_out : (v n y : ℕ) (t : List ℕ) → y ≡ source_row (not grows) h v o.origin.bin.0 n → h ≤ y
      → Is v n t → Is v (n + 1) t
  part_out v n y t ey out p =
      part_same grows s w h o words hs from many v n from many v (n + 1) t
      (λ x z c r hz l. (
        done_more from many v n (down_to grows o z r) r,
        λ d. ⊎_elim (λ d. d)
            (λ a. absurd (omega (arith, out, hz, only v n y ey x z c r hz l a.1 a.0)))
            (done_new from many v n (down_to grows o z r) r d),
      )) p

  -- ---- a row of the element joined into the row of the result that sees source row v by it
  module _ (v n y : ℕ) (t : List ℕ) (few : w ≤ 1024) (hv : v < h) (hy : y < h) (hn : n < o.h)
      (listed : n < from + many)
      (wide : o.w ≤ most_cells) (column : o.origin.ping.0 < o.w) (len : length t ≡ h * w)
      (ey : y ≡ source_row (not grows) h v o.origin.bin.0 n)
      (b row u : List ℕ) (bytes : Bytes b)
      (is_row : (x : ℕ) → x < w → get_or row x 0 ≡ get_or s (v * w + x) 0) (row_len : length row ≡ w)
      (padded : Padded grows row b) (k m : ℕ) (rising others : List ℕ)
      (up : Taken grows true (get_or words n 0) o.w o.origin.ping.0 hs (n * o.w) k rising)
      (down : Taken grows false (get_or words n 0) o.w o.origin.ping.0 hs (n * o.w) m others)
      (made : u ≡ weighed_row grows b (take k rising) (take m others) (mid_of (y * w) (y * w + w - y * w) t))
    where
      abbrev old : List ℕ
      old = mid_of (y * w) (y * w + w - y * w) t

      abbrev new : List ℕ
      new = put_mid (y * w) (y * w + w - y * w) t u

      size : y * w + w - y * w ≡ w
      size = add-sub_cancel_left (y * w) w

      fits : y * w + (y * w + w - y * w) ≤ length t
      fits = omega (arith, row_room w hy, len, size)

      old_len : length old ≡ w
      old_len = length_mid (y * w) (y * w + w - y * w) t fits ∙ size

      u_len : length u ≡ y * w + w - y * w
      unfolding weighed_row
      u_len = ap length made ∙ length_laid 0 (length old) _ old ∙ old_len ∙ sym size

      old_at : (x : ℕ) → x < w → get_or old x 0 ≡ get_or t (y * w + x) 0
      old_at x l = get_mid (y * w) (y * w + w - y * w) t x (omega (arith, size))

      -- column x of the row as it is now
      abbrev joined : ℕ → ℕ
      joined x = both_at grows (get_or t (y * w + x) 0) b x (take k rising) (take m others)

      new_here : (x : ℕ) → x < w → get_or new (y * w + x) 0 ≡ joined x
      unfolding weighed_row
      new_here x l =
          put_within (y * w) (y * w + w - y * w) t u fits u_len x (omega (arith, size))
          ∙ ap (λ m. get_or m x 0) made
          ∙ get_first (length old) _ old x (omega arith) (omega (arith, old_len))
          ∙ ap (λ a. both_at grows a b x (take k rising) (take m others)) (old_at x l)

      new_else : (x z : ℕ) → x < w → (z < y) ⊎ (y < z) → get_or new (z * w + x) 0 ≡ get_or t (z * w + x) 0
      new_else x z l side =
          ⊎_elim
          (λ q. put_before (y * w) (y * w + w - y * w) t u fits u_len (z * w + x) (omega
          (arith, row_room w q)))
          (λ q. put_after (y * w) (y * w + w - y * w) t u fits u_len (z * w + x)
          (omega (arith, row_room w q, size))) side

      back : (within h y (plus_by grows o.origin.bin.0 n) (minus_by grows o.origin.bin.0 n) ≡ true)
          × (down_to grows o y n ≡ v)
      back = seen_back grows h v o.origin.bin.0 n y ey hy hv

      -- what the row of the element finds at column x
      found : (x c : ℕ) → x < w
          → within w x (plus_by grows o.origin.ping.0 c) (minus_by grows o.origin.ping.0 c) ≡ true
          → get_or row (across_to grows o x c) 0
          ≡ get_or s (down_to grows o y n * w + across_to grows o x c) 0
      found x c l t =
          is_row (across_to grows o x c)
          (ltb-true (across_to grows o x c) w
          (both (leb (minus_by grows o.origin.ping.0 c) (x + plus_by grows
          o.origin.ping.0 c)) _ t).1)
          ∙ ap (λ q. get_or s (q * w + across_to grows o x c) 0) (sym back.1)

      here_to : (x z : ℕ) → x < w → Bound grows (joined x) z → Bound grows (get_or t (y * w + x) 0) z
          × ((c : ℕ) → Leads grows w h o words x y c n → Bound grows (finds_at grows s w o hs x y c n) z)
      here_to x z l q =
          let r = line_to grows row w b row_len few bytes padded (get_or words n 0) o.w
          o.origin.ping.0
          hs (n * o.w) wide (omega arith) x l k m rising others up down (get_or t (y * w + x) 0) z q in (
            r.0,
            λ c a. subst (λ i. Bound grows (weigh_by grows (get_or hs (n * o.w + c) 0) i) z)
                (found x c l a.across) (r.1 c a.column a.set a.across),
          )

      here_from : (x z : ℕ) → x < w → z < 256 → Bound grows (get_or t (y * w + x) 0) z
          → ((c : ℕ) → Leads grows w h o words x y c n → Bound grows (finds_at grows s w o hs x y c n) z)
          → Bound grows (joined x) z
      here_from x z l hz q each =
          line_from grows row w b row_len few bytes padded (get_or words n 0) o.w o.origin.ping.0
          hs (n * o.w) wide (omega arith) x l k m rising others up down (get_or t (y * w + x) 0) z hz q
          (λ c hc on t.
          subst (λ i. Bound grows (weigh_by grows (get_or hs (n * o.w + c) 0) i) z) (sym (found x c l t))
          (each c (record { column = hc; row = hn; set = on; across = t; down = back.0 })))

      side : (z : ℕ) → (y ≡ z) ⊎ ((z < y) ⊎ (y < z))
      side z =
          ⊎_elim (λ l. inr (inl l)) (λ l. ⊎_elim (λ e. inl e) (λ m. inr (inr m)) (eq-or-lt_of_le l))
          (below_or_not z y)

      -- in another row of the result nothing more is done
      else_back : (x z c r : ℕ) → z < h → (z < y) ⊎ (y < z) → Leads grows w h o words x z c r
          → Done from many v (n + 1) (down_to grows o z r) r → Done from many v n (down_to grows o z r) r
      else_back x z c r hz apart l d =
          ⊎_elim (λ d. d)
          (λ a. absurd (⊎_elim
          (λ q. omega (arith, q, only v n y ey x z c r hz l a.1 a.0))
          (λ q. omega (arith, q, only v n y ey x z c r hz l a.1 a.0)) apart))
          (done_new from many v n (down_to grows o z r) r d)

      pub part_join : Is v n t → Is v (n + 1) new
      part_join p =
          record {
            to = λ x z m hx hz hm q c r l d. ⊎_elim
                (λ e. at_to x m hx hm (subst (λ z. Bound grows (get_or new (z * w + x) 0) m) (sym e) q) z (sym
                e) c r l d)
                (λ a. p.to x z m hx hz hm (subst (λ i. Bound grows i m) (new_else x z hx a) q) c r l
                (else_back x z c r hz a l d))
                (side z);
            follows = λ x z m hx hz hm each. ⊎_elim
                (λ e. subst (λ z. Bound grows (get_or new (z * w + x) 0) m) e
                (at_from x m hx hm (λ c r l d. subst
                (λ z. (c r : ℕ) → Leads grows w h o words x z c r
                → Done from many v (n + 1) (down_to grows o z r) r
                → Bound grows (finds_at grows s w o hs x z c r) m) (sym e) each c r
                l d)))
                (λ a. subst (λ i. Bound grows i m) (sym (new_else x z hx a))
                (p.follows x z m hx hz hm
                (λ c r l d. each c r l (done_more from many v n (down_to grows o z r) r d))))
                (side z);
          }
        where
          at_to : (x m : ℕ) → x < w → m < 256 → Bound grows (get_or new (y * w + x) 0) m → (z : ℕ) → z ≡ y
              → (c r : ℕ) → Leads grows w h o words x z c r
              → Done from many v (n + 1) (down_to grows o z r) r
              → Bound grows (finds_at grows s w o hs x z c r) m
          at_to x m hx hm q z e c r l d =
              let f = here_to x m hx (subst (λ i. Bound grows i m) (new_here x hx) q) in
              ⊎_elim
              (λ d. p.to x z m hx (subst (λ i. i < h) (sym e) hy) hm
              (subst (λ i. Bound grows (get_or t (i * w + x) 0) m) (sym e) f.0) c r l d)
              (λ a. subst (λ i. Bound grows (finds_at grows s w o hs x i c r) m) (sym e)
              (subst (λ i. Bound grows (finds_at grows s w o hs x y c i) m) (sym a.1)
              (f.1 c (subst (λ i. Leads grows w h o words x y c i) a.1
              (subst (λ i. Leads grows w h o words x i c r) e l)))))
              (done_new from many v n (down_to grows o z r) r d)

          at_from : (x m : ℕ) → x < w → m < 256
              → ((c r : ℕ) → Leads grows w h o words x y c r
              → Done from many v (n + 1) (down_to grows o y r) r
              → Bound grows (finds_at grows s w o hs x y c r) m)
              → Bound grows (get_or new (y * w + x) 0) m
          at_from x m hx hm each =
              subst (λ i. Bound grows i m) (sym (new_here x hx))
              (here_from x m hx hm
              (p.follows x y m hx hy hm
              (λ c r l d. each c r l (done_more from many v n (down_to grows o y r) r d)))
              (λ c l. each c n l (inr (listed, inr (back.1, omega arith)))))
