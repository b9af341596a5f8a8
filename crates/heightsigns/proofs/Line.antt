-- One row of an element at one column: both lists of cells together find what its set cells find.
use Prim.Native.Nat.{ℕ, ◌+◌, ◌-◌, ◌*◌, ◌/◌, ◌%◌, ◌≤◌, ◌<◌}
use mathlib.Core.Path.{◌≡◌, refl, sym, ap, ap₂, ◌∙◌, subst}
use mathlib.Core.Bool.{Bool, true, false, cond, not, ◌&&◌}
use mathlib.Core.List.{List}
use mathlib.Core.Logic.{◌⊎◌, inl, inr, ⊎_elim}
use native.Mathlib.Omega.{arith}
use lib.Dec.{eqb, leb, ltb}
use lib.ListN.{length, get_or, take, replicate, length-replicate, get_or-replicate}
use lib.Seq.{get_or-take, length-take-le}
use borrow.Author.Tests.{lt-ltb, le-leb, leb-true, ltb-true, ltb-false}
use Rattle.basics.specs.Bytes.{Bytes}
use Rattle.basics.proofs.Tests.{both}
use Rattle.basics.proofs.SliceParts.{below_or_not}
use Rattle.element.specs.Record.{cell_on}
use Rattle.morphology.specs.Operations.{moved, within}
use Rattle.morphology.proofs.Weights.{lower_end, raise_end}
use Rattle.rows.specs.Steps.Ways.{weigh_by}
use Rattle.rows.specs.Steps.Fold.{start_by, plus_by, minus_by}
use Rattle.blocks.specs.Steps.Laid.{laid}
use Rattle.blocks.proofs.Laid.{get_in, get_before, get_after, length_laid}
use Rattle.windows.specs.Steps.Bounds.{Bound}
use Rattle.windows.proofs.Bounds.{fold_to, fold_from}
use Rattle.packedline.specs.Steps.Cells.{place_of}
use Rattle.packedline.specs.Steps.Padded.{faced_byte}
use Rattle.weighblocks.specs.Steps.Lift.{lift_by}
use Rattle.weighblocks.specs.Steps.Cells.{found_by, at_cells, both_at, Near}
use Rattle.heightsigns.specs.Steps.Sides.{side_of, size_of}
use Rattle.heightsigns.specs.Steps.Taken.{entry_of, Taken}
use Rattle.heightsigns.proofs.Lift.{lift_is, rises_below}
use Rattle.sourceparts.proofs.Bytes.{byte_start}
use Rattle.heightsigns.specs.Steps.Padded.{Padded}

-- ---- the row, as it is filled in
pub row_padded : (grows : Bool) (s u : List ℕ) → length s ≤ 1024
    → u ≡ laid 64 (length s) (λ i. faced_byte false (get_or s i 0)) (replicate 1152 (start_by grows 255))
    → Padded grows s u
row_padded grows s u few eu =
    record {
      values = ap length eu ∙ length_laid 64 (length s) f r ∙ long;
      inside = λ i h. ap (λ l. get_or l (64 + i) 0) eu
          ∙ get_in 64 (length s) f r i (subst (λ n. 64 + length s ≤ n) (sym long) (omega arith)) h;
      before = λ q h. ap (λ l. get_or l q 0) eu
          ∙ get_before 64 (length s) f r q (subst (λ n. q < n) (sym long) (omega arith)) h
          ∙ get_or-replicate 1152 q (start_by grows 255) 0 (omega arith);
      after = λ q h k. ap (λ l. get_or l q 0) eu
          ∙ get_after 64 (length s) f r q (subst (λ n. q < n) (sym long) k) h
          ∙ get_or-replicate 1152 q (start_by grows 255) 0 k;
    }
  where
    f : ℕ → ℕ
    f i = faced_byte false (get_or s i 0)

    r : List ℕ
    r = replicate 1152 (start_by grows 255)

    long : length r ≡ 1152
    long = length-replicate {A = ℕ} 1152 (start_by grows 255)

-- ---- places
place_is : (grows : Bool) (o c : ℕ) → place_of grows o c ≡ 64 + plus_by grows o c - minus_by grows o c
place_is true o c = refl
place_is false o c = refl

pub place_lt : (grows : Bool) (o c : ℕ) → o < 64 → c < 64 → place_of grows o c < 128
place_lt true o c h k = omega arith
place_lt false o c h k = omega arith

minus_lt : (grows : Bool) (o c : ℕ) → o < 64 → c < 64 → minus_by grows o c < 64
minus_lt true o c h k = k
minus_lt false o c h k = h

size_lt : (g : ℕ) → size_of g < 256
size_lt g = by (ltb g 128) refl
  where
    by : (t : Bool) → ltb g 128 ≡ t → cond t g (256 - g) < 256
    by true e = omega (arith, ltb-true g 128 e)
    by false e = omega (arith, ltb-false g 128 e)

entry_place : (grows : Bool) (o c g : ℕ) → entry_of grows o c g / 256 ≡ place_of grows o c
entry_place grows o c g = high (place_of grows o c) (size_of g) (size_lt g)
  where
    high : (p a : ℕ) → a < 256 → (256 * p + a) / 256 ≡ p
    high p a h = omega arith

entry_size : (grows : Bool) (o c g : ℕ) → entry_of grows o c g % 256 ≡ size_of g
entry_size grows o c g = low (place_of grows o c) (size_of g) (size_lt g)
  where
    low : (p a : ℕ) → a < 256 → (256 * p + a) % 256 ≡ a
    low p a h = omega arith

-- what counts beyond the frame contributes nothing, at any height
weigh_start : (grows : Bool) (g : ℕ) → weigh_by grows g (start_by grows 255) ≡ start_by grows 255
weigh_start true g = raise_end g
weigh_start false g = lower_end g 255 (omega arith)

sides : (g : ℕ) → (side_of true g ≡ true) ⊎ (side_of false g ≡ true)
sides g = by (side_of true g)
  where
    by : (t : Bool) → (t ≡ true) ⊎ (not t ≡ true)
    by true = inl refl
    by false = inr refl

-- no number that was found has a place more than 127 on
pub cells_near : (grows rises : Bool) (word wide o : ℕ) (hs : List ℕ) (first count : ℕ) (cells : List ℕ)
    → wide ≤ 64 → o < 64 → Taken grows rises word wide o hs first count cells → Near (take count cells)
cells_near grows rises word wide o hs first count cells hw ho taken j h =
    let l : j < count = subst (λ n. j < n) (length-take-le count cells (omega
    (arith, taken.few, taken.long))) h in
    let f = taken.inside j l in
    let g = get_or hs (first + f.0) 0 in
    subst (λ k. k / 256 < 128) (sym (get_or-take count cells j 0 l ∙ f.1.1.1))
    (subst (λ p. p < 128) (sym (entry_place grows o f.0 g))
    (place_lt grows o f.0 ho (omega (arith, f.1.0))))

-- a height that raises is below the sign
risen_small : (g : ℕ) → side_of true g ≡ true → size_of g < 128
risen_small g s =
    let e = rises_below (eqb g 0) (ltb g 128) s in
    subst (λ b. cond b g (256 - g) < 128) (sym e) (ltb-true g 128 e)

pub cells_under : (grows : Bool) (word wide o : ℕ) (hs : List ℕ) (first count : ℕ) (cells : List ℕ)
    → Taken grows true word wide o hs first count cells
    → (j : ℕ) → j < length (take count cells) → get_or (take count cells) j 0 % 256 < 128
cells_under grows word wide o hs first count cells taken j h =
    let l : j < count = subst (λ n. j < n) (length-take-le count cells (omega
    (arith, taken.few, taken.long))) h in
    let f = taken.inside j l in
    let g = get_or hs (first + f.0) 0 in
    subst (λ k. k % 256 < 128) (sym (get_or-take count cells j 0 l ∙ f.1.1.1))
    (subst (λ p. p < 128) (sym (entry_size grows o f.0 g))
    (risen_small g (both (cell_on word f.0) (side_of true g) f.1.1.0).1))

module _ (grows : Bool) (s : List ℕ) (w : ℕ) (b : List ℕ) (len : length s ≡ w) (few : w ≤ 1024)
    (bytes : Bytes b) (padded : Padded grows s b) (word wide o : ℕ) (hs : List ℕ) (first : ℕ)
    (hw : wide ≤ 64) (ho : o < 64) (x : ℕ) (hx : x < w) where
  abbrev height : ℕ → ℕ
  height c = get_or hs (first + c) 0

  abbrev in_row : ℕ → Bool
  in_row c = within w x (plus_by grows o c) (minus_by grows o c)

  abbrev value : ℕ → ℕ
  value c = get_or s (moved x (plus_by grows o c) (minus_by grows o c)) 0

  -- ---- a cell's place in the padded row: in the row, or beyond the frame
  at_in : (c : ℕ) → c < 64 → in_row c ≡ true → get_or b (x + place_of grows o c) 0 ≡ value c
  at_in c hc t =
      let a = plus_by grows o c in
      let d = minus_by grows o c in
      let r = both (leb d (x + a)) (ltb (x + a - d) w) t in
      let l = leb-true d (x + a) r.0 in
      let k = ltb-true (x + a - d) w r.1 in
      ap (λ q. get_or b (x + q) 0) (place_is grows o c)
      ∙ ap (λ i. get_or b i 0) (on x a d l (minus_lt grows o c ho hc))
      ∙ padded.inside (x + a - d) (omega (arith, k, len))
    where
      on : (x a d : ℕ) → d ≤ x + a → d < 64 → x + (64 + a - d) ≡ 64 + (x + a - d)
      on x a d h k = omega arith

  at_bound : (c v : ℕ) → c < 64 → v < 256
      → (in_row c ≡ true → Bound grows (weigh_by grows (height c) (value c)) v)
      → Bound grows (weigh_by grows (height c) (get_or b (x + place_of grows o c) 0)) v
  at_bound c v hc hv given =
      let a = plus_by grows o c in
      let d = minus_by grows o c in
      ⊎_elim
      (λ l. out (ap (λ q. get_or b (x + q) 0) (place_is grows o c)
      ∙ padded.before (x + (64 + a - d)) (omega (arith, l, minus_lt grows o c ho hc))))
      (λ l. ⊎_elim
      (λ k. let t = ap₂ ◌&&◌ (le-leb d (x + a) l) (lt-ltb (x + a - d) w k) in
      subst (λ i. Bound grows (weigh_by grows (height c) i) v) (sym (at_in c hc t)) (given t))
      (λ k. out (ap (λ q. get_or b (x + q) 0) (place_is grows o c)
      ∙ padded.after (x + (64 + a - d)) (omega (arith, l, k, minus_lt grows o c ho hc, len))
      (subst (λ q. x + q < 1152) (place_is grows o c) (omega (arith, place_lt grows o c ho hc)))))
      (below_or_not (x + a - d) w))
      (below_or_not (x + a) d)
    where
      out : get_or b (x + place_of grows o c) 0 ≡ start_by grows 255
          → Bound grows (weigh_by grows (height c) (get_or b (x + place_of grows o c) 0)) v
      out q =
          subst (λ i. Bound grows i v)
          (sym (ap (weigh_by grows (height c)) q ∙ weigh_start grows (height c))) (byte_start grows v hv)

  -- ---- what the number of a cell finds
  found_is : (rises : Bool) (c k : ℕ) → c < wide → side_of rises (height c) ≡ true
      → k ≡ entry_of grows o c (height c)
      → found_by grows rises b x k ≡ weigh_by grows (height c) (get_or b (x + place_of grows o c) 0)
  found_is rises c k hc side q =
      let p = x + place_of grows o c in
      let small = bytes p in
      ap (found_by grows rises b x) q
      ∙ ap₂ (λ a d. lift_by grows rises a (get_or b (x + d) 0))
      (entry_size grows o c (height c)) (entry_place grows o c (height c))
      ∙ lift_is grows rises (height c) (get_or b p 0) side (omega arith)

  -- ---- one list of cells
  module _ (rises : Bool) (count : ℕ) (cells : List ℕ)
      (taken : Taken grows rises word wide o hs first count cells) where
    abbrev some : List ℕ
    some = take count cells

    some_long : length some ≡ count
    some_long = length-take-le count cells (omega (arith, taken.few, taken.long))

    finds : (j : ℕ) → j < count → found_by grows rises b x (get_or some j 0)
        ≡ found_by grows rises b x (get_or cells j 0)
    finds j h = ap (found_by grows rises b x) (get_or-take count cells j 0 h)

    cells_to : (v0 v : ℕ) → Bound grows (at_cells grows rises v0 b x some (length some)) v → Bound grows v0 v
        × ((c : ℕ) → c < wide → cell_on word c ≡ true → side_of rises (height c) ≡ true → in_row c ≡ true
        → Bound grows (weigh_by grows (height c) (value c)) v)
    unfolding at_cells
    cells_to v0 v h =
        let f = fold_to grows v0 (λ j. found_by grows rises b x (get_or some j 0)) v (length some) h in (
          f.0,
          λ c hc on side t.
              let k = taken.covered c hc (ap₂ ◌&&◌ on side) in
              subst (λ i. Bound grows i v)
              (finds k.0 k.1.0 ∙ found_is rises c _ hc side k.1.1
              ∙ ap (weigh_by grows (height c)) (at_in c (omega arith) t))
              (f.1 k.0 (subst (λ n. k.0 < n) (sym some_long) k.1.0)),
        )

    cells_from_lem : (v0 v : ℕ) → v < 256 → Bound grows v0 v
        → ((c : ℕ) → c < wide → cell_on word c ≡ true → in_row c ≡ true
        → Bound grows (weigh_by grows (height c) (value c)) v)
        → Bound grows (at_cells grows rises v0 b x some (length some)) v
    unfolding at_cells
    cells_from_lem v0 v hv start each =
        fold_from grows v0 (λ j. found_by grows rises b x (get_or some j 0)) v (length some) start
        (λ j h.
        let l : j < count = subst (λ n. j < n) some_long h in
        let f = taken.inside j l in
        let t = both (cell_on word f.0) (side_of rises (height f.0)) f.1.1.0 in
        subst (λ i. Bound grows i v)
        (sym (finds j l ∙ found_is rises f.0 _ f.1.0 t.1 f.1.1.1))
        (at_bound f.0 v (omega (arith, f.1.0)) hv (λ q. each f.0 f.1.0 t.0 q)))

  -- ---- both lists
  module _ (m n : ℕ) (rising others : List ℕ) (up : Taken grows true word wide o hs first m rising)
      (down : Taken grows false word wide o hs first n others) where
    abbrev joined : ℕ → ℕ
    joined v0 = both_at grows v0 b x (take m rising) (take n others)

    pub line_to : (v0 v : ℕ) → Bound grows (joined v0) v → Bound grows v0 v
        × ((c : ℕ) → c < wide → cell_on word c ≡ true → in_row c ≡ true
        → Bound grows (weigh_by grows (height c) (value c)) v)
    unfolding both_at
    line_to v0 v h =
        let f = cells_to false n others down
        (at_cells grows true v0 b x (take m rising) (length (take m rising))) v h in
        let g = cells_to true m rising up v0 v f.0 in
        (g.0, λ c hc on t. ⊎_elim (λ q. g.1 c hc on q t) (λ q. f.1 c hc on q t) (sides (height c)))

    pub line_from : (v0 v : ℕ) → v < 256 → Bound grows v0 v
        → ((c : ℕ) → c < wide → cell_on word c ≡ true → in_row c ≡ true
        → Bound grows (weigh_by grows (height c) (value c)) v)
        → Bound grows (joined v0) v
    unfolding both_at
    line_from v0 v hv start each =
        cells_from_lem false n others down (at_cells grows true v0 b x (take m rising) (length
        (take m rising))) v hv
        (cells_from_lem true m rising up v0 v hv start each) each
