-- A row by a run of cells, and the rows of a picture.
use Prim.Native.Nat.{ℕ, ◌+◌, ◌-◌, ◌*◌, ◌/◌, ◌%◌, ◌≤◌, ◌<◌}
use mathlib.Core.Path.{◌≡◌, refl, sym, ap, ap₂, ◌∙◌, subst}
use mathlib.Core.Bool.{Bool, true, false}
use mathlib.Core.List.{List, [], ◌∷◌, ◌++◌}
use native.Mathlib.Nat.{add-sub_cancel_left}
use native.Mathlib.Omega.{arith}
use lib.Dec.{T, eqb}
use lib.Pow.{pow_pos, shr_le}
use lib.ListN.{length, get_or, take, drop, replicate}
use lib.Seq.{get_or-take, get_or-drop, drop_at, take_at}
use Rattle.basics.specs.Bits.{bit, on}
use Rattle.basics.specs.Lists.{firsts, joined}
use Rattle.basics.proofs.Bits.{bit_not}
use Rattle.basics.proofs.Lists.{list_is, length_firsts}
use Rattle.basics.proofs.Joined.{length_joined}
use Rattle.picture.specs.declared.Depth.TheVariants.{OneBit}
use Rattle.picture.specs.Frame.{frame, row_bytes}
use Rattle.picture.specs.Points.{value_at, value_in}
use Rattle.picture.specs.Bytes.{Picture, row_of, faced}
use Rattle.picture.proofs.Rows.{row_same, row_length}
use Rattle.element.specs.declared.Outline.{Outline}
use Rattle.element.specs.Record.{shape_by, shape_of}
use Rattle.morphology.specs.Step.{Place, In}
use Rattle.morphology.specs.Operations.{flat}
use Rattle.rows.specs.Steps.Ways.{swept_by}
use Rattle.rows.proofs.Written.{rows_written}
use Rattle.bitrow.specs.Steps.Row.{swept_bits, bit_row}
use Rattle.windows.specs.Steps.Bounds.{Bound}
use Rattle.sizes.specs.Spectrum.{rect}
use Rattle.sizes.proofs.Near.{Full, Near, rect_full, same_near}
use Rattle.rowruns.proofs.Points.{value_one}

-- ---- the copy is the row
pub copied : (t s : List ℕ)
    → s ≡ firsts (λ i. get_or t i 0) (length t) ++ replicate (128 - length t) 0 → take (length t) s ≡ t
copied t s es =
    ap (take (length t)) es
    ∙ take_at (firsts (λ i. get_or t i 0) (length t)) (replicate (128 - length t) 0) (length t)
    (length_firsts _ (length t))
    ∙ sym (list_is (λ i. get_or t i 0) (length t) t refl (λ i h. refl))

-- ---- a row word of 64 set cells
set_cell : (j : ℕ) → j < 64 → bit 18446744073709551615 j ≡ 1
set_cell j h = bit_not 64 0 j (pow_pos 64) h ∙ ap (λ n. 1 - n) (none j)
  where
    none : (j : ℕ) → bit 0 j ≡ 0
    none j = omega (arith, shr_le 0 j)

-- k cells in one row, the origin at the first
abbrev pub run_outline : ℕ → Outline
run_outline k = record { w = k; h = 1; origin = record { ping = record { 0 = 0 }; bin = record { 0 = 0 } } }

run_full : (k : ℕ) → k ≤ 64 → Full k 1 (shape_by (run_outline k) (18446744073709551615 ∷ []))
unfolding shape_of
run_full k few =
    record {
      wide_is = refl;
      high_is = refl;
      column_first = refl;
      row_first = refl;
      each_set = λ c r hc hr. cell c r (omega arith) hr;
    }
  where
    cell : (c r : ℕ) → c < 64 → r < 1 → T (on (get_or (18446744073709551615 ∷ []) r 0) (63 - c))
    cell c r hc hr =
        let e : 0 ≡ r = omega arith in
        subst (λ r. T (on (get_or (18446744073709551615 ∷ []) r 0) (63 - c))) e
        (subst (λ n. T (eqb n 1)) (sym (set_cell (63 - c) (omega arith))) tt)

-- ---- one row: the code's element is the run, and the copy is the row
pub row_run : (grows : Bool) (k w : ℕ) (t s u : List ℕ) → k ≤ 64 → s ≡ t
    → u ≡ bit_row (record { over = false; grows = grows }) s w 1 (run_outline k) (18446744073709551615 ∷ []) 0
    → u ≡ row_of OneBit (λ x. swept_by grows flat 1 (frame w 1) (rect k 1) (value_at OneBit t w) x 0) w
unfolding bit_row swept_bits faced
row_run grows k w t s u few es eu =
    eu ∙ row_same OneBit _ _ w (λ x hx.
    same_near grows k 1 k 1 _ (rect k 1) (run_full k few) (rect_full k 1) (frame w 1) (frame w 1)
    (value_at OneBit s w) (value_at OneBit t w) (value_one s w 1) (value_one t w 1)
    (record { x = x; y = 0 }) (record { x = x; y = 0 }) (record { ping = hx; bin = omega arith })
    (record { ping = hx; bin = omega arith })
    (λ v l each r ir n. subst (λ l. Bound grows (value_at OneBit l w r.x r.y) v) es (each r ir n))
    (λ v l each r ir n. subst (λ l. Bound grows (value_at OneBit l w r.x r.y) v) (sym es) (each r ir
    n)))

-- ---- row y of a picture, the rows before which are made
module _ (grows : Bool) (k w h : ℕ) (t₀ t : List ℕ) (n y : ℕ) (en : n ≡ row_bytes OneBit w) (hy : y < h)
  where
    abbrev R : Picture
    R = swept_by grows flat 1 (frame w h) (rect k 1) (value_at OneBit t₀ w)

    abbrev part : List ℕ
    part = take (y * n + n - y * n) (drop (y * n) t)

    past : t ≡ rows_written OneBit R w t₀ y → drop (y * n) t ≡ drop (y * n) t₀
    unfolding rows_written
    past e =
        ap₂ (λ m l. drop (y * m) l) en e
        ∙ drop_at (joined (λ y. row_of OneBit (λ x. R x y) w) y) (drop (y * row_bytes OneBit w) t₀)
        (y * row_bytes OneBit w)
        (length_joined _ (row_bytes OneBit w) (λ y. row_length OneBit (λ x. R x y) w) y)
        ∙ ap (λ m. drop (y * m) t₀) (sym en)

    seen : t ≡ rows_written OneBit R w t₀ y → (x : ℕ) → x < w
        → value_at OneBit part w x 0 ≡ value_at OneBit t₀ w x y
    unfolding value_at value_in
    seen e x hx =
        ap (λ b. bit b (7 - x % 8))
        (ap (λ i. get_or part i 0) (none (x / 8) ((w + 7) / 8))
        ∙ get_or-take (y * n + n - y * n) (drop (y * n) t) (x / 8) 0
        (subst (λ m. x / 8 < m) (sym (add-sub_cancel_left (y * n) n)) (omega arith))
        ∙ ap (λ l. get_or l (x / 8) 0) (past e) ∙ get_or-drop (y * n) t₀ (x / 8) 0
        ∙ ap (λ m. get_or t₀ (y * m + x / 8) 0) en)
      where
        none : (i r : ℕ) → 0 * r + i ≡ i
        none i r = omega arith

    pub row_made : t ≡ rows_written OneBit R w t₀ y → (ys : List ℕ)
        → ys ≡ row_of OneBit (λ x. swept_by grows flat 1 (frame w 1) (rect k 1) (value_at OneBit part w) x 0)
        w
        → ys ≡ row_of OneBit (λ x. R x y) w
    row_made e ys q =
        q ∙ row_same OneBit _ _ w (λ x hx.
        same_near grows k 1 k 1 (rect k 1) (rect k 1) (rect_full k 1) (rect_full k 1) (frame w 1) (frame w h)
        (value_at OneBit part w) (value_at OneBit t₀ w) (value_one part w 1) (value_one t₀ w h)
        (record { x = x; y = 0 }) (record { x = x; y = y }) (record { ping = hx; bin = omega arith })
        (record { ping = hx; bin = hy })
        (λ v l each r ir m.
        subst (λ b. Bound grows b v) (seen e r.x ir.ping ∙ ap (value_at OneBit t₀ w r.x) (level
        grows x r m))
        (each (record { x = r.x; y = 0 }) (record { ping = ir.ping; bin = omega arith }) (lowered grows x
        r m)))
        (λ v l each r ir m.
        subst (λ b. Bound grows b v)
        (sym (ap (value_at OneBit part w r.x) (first r ir) ∙ seen e r.x ir.ping))
        (each (record { x = r.x; y = y }) (record { ping = ir.ping; bin = hy }) (raised grows x r ir m))))
      where
        level : (grows : Bool) (x : ℕ) (r : Place) → Near grows k 1 (record { x = x; y = y }) r → y ≡ r.y
        level true x r m = let a = m.upper in let b = m.lower in omega arith
        level false x r m = let a = m.upper in let b = m.lower in omega arith

        first : (r : Place) → In (frame w 1) r → r.y ≡ 0
        first r i = let a = i.bin in omega arith

        lowered : (grows : Bool) (x : ℕ) (r : Place) → Near grows k 1 (record { x = x; y = y }) r
            → Near grows k 1 (record { x = x; y = 0 }) (record { x = r.x; y = 0 })
        lowered true x r m =
            let a = m.left in let b = m.right in
            record { left = a; right = b; upper = omega arith; lower = omega arith }
        lowered false x r m =
            let a = m.left in let b = m.right in
            record { left = a; right = b; upper = omega arith; lower = omega arith }

        raised : (grows : Bool) (x : ℕ) (r : Place) → In (frame w 1) r
            → Near grows k 1 (record { x = x; y = 0 }) r
            → Near grows k 1 (record { x = x; y = y }) (record { x = r.x; y = y })
        raised true x r i m =
            let a = m.left in let b = m.right in
            record { left = a; right = b; upper = omega arith; lower = omega arith }
        raised false x r i m =
            let a = m.left in let b = m.right in
            record { left = a; right = b; upper = omega arith; lower = omega arith }
