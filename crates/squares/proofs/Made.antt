-- Rows by runs of k cells and then runs of k rows: the square of side k, and the padding stays 0.
use Prim.Native.Nat.{ℕ, ◌+◌, ◌-◌, ◌*◌, ◌/◌, ◌%◌, ◌≤◌, ◌<◌}
use mathlib.Core.Path.{◌≡◌, sym, ap, ap₂, ◌∙◌, subst}
use mathlib.Core.Bool.{Bool, true, false}
use mathlib.Core.List.{List}
use mathlib.Core.Logic.{⊎_elim}
use native.Mathlib.Nat.{le_refl}
use native.Mathlib.Omega.{arith}
use lib.ListN.{length, get_or}
use Rattle.basics.specs.Bits.{bit}
use Rattle.basics.specs.Bytes.{Bytes}
use Rattle.basics.proofs.SliceParts.{below_or_not}
use Rattle.picture.specs.declared.Depth.TheVariants.{OneBit}
use Rattle.picture.specs.Frame.{Frame, frame, row_bytes, picture_bytes}
use Rattle.picture.specs.Points.{value_at, value_in}
use Rattle.picture.specs.Bytes.{Picture, written}
use Rattle.picture.proofs.Points.{written_padding}
use Rattle.morphology.specs.Step.{Place}
use Rattle.morphology.specs.Operations.{flat}
use Rattle.morphology.specs.Order.{Bounded}
use Rattle.rows.specs.Steps.Ways.{swept_by}
use Rattle.rows.proofs.Swept.{swept_bounded}
use Rattle.windows.specs.Steps.Bounds.{Bound}
use Rattle.sizes.specs.Spectrum.{rect, square}
use Rattle.sizes.proofs.Near.{Near, rect_full, near_to, near_from, same_near}
use Rattle.sizes.proofs.Squares.{rect_join}
use Rattle.rowruns.proofs.Points.{value_one, same_lists, written_long, written_rest}
use Rattle.rowruns.proofs.Points.{written_bytes, written_point}

module _ (grows : Bool) (k w h n : ℕ) (some : 1 ≤ w) (cells : 1 ≤ k) (en : n ≡ row_bytes OneBit w)
    (t u v : List ℕ) (bt : Bytes t) (room : picture_bytes OneBit w h ≤ length t) where
  abbrev F : Frame
  F = frame w h

  -- whole bytes across
  abbrev G : Frame
  G = frame (n * 8) h

  abbrev A : Picture
  A = value_at OneBit t w

  abbrev across : Picture
  across = swept_by grows flat 1 F (rect k 1) A

  abbrev down : Picture
  down = swept_by grows flat 1 G (rect 1 k) (value_at OneBit u (n * 8))

  abbrev result : Picture
  result = swept_by grows flat 1 F (square k) A

  one : Bounded 1 F A
  one = value_one t w h

  across_one : Bounded 1 F across
  across_one = swept_bounded grows 1 F (rect k 1) A one

  down_one : Bounded 1 G down
  down_one = swept_bounded grows 1 G (rect 1 k) (value_at OneBit u (n * 8)) (value_one u (n * 8) h)

  result_one : Bounded 1 F result
  result_one = swept_bounded grows 1 F (square k) A one

  few : (P : Picture) → Bounded 1 F P → (x y : ℕ) → x < w → y < h → P x y ≤ 1
  few P b x y hx hy = b (record { x = x; y = y }) (record { ping = hx; bin = hy })

  whole : (n : ℕ) → (n * 8 + 7) / 8 ≡ n
  whole n = omega arith

  -- the same rows, by their points and by their bytes
  same_rows : (l : List ℕ) (x y : ℕ) → value_at OneBit l (n * 8) x y ≡ value_at OneBit l w x y
  unfolding value_at value_in
  same_rows l x y = ap (λ r. bit (get_or l (y * r + x / 8) 0) (7 - x % 8)) (whole n ∙ en)

  room_u : u ≡ written OneBit across w h t → picture_bytes OneBit (n * 8) h ≤ length u
  room_u e =
      subst (λ m. m ≤ length u) (ap (λ r. h * r) (sym (whole n ∙ en)))
      (subst (λ m. picture_bytes OneBit w h ≤ m) (sym (ap length e ∙ written_long across w h across_one t
      bt room))
      room)

  module _ (eu : u ≡ written OneBit across w h t) (ev : v ≡ written OneBit down (n * 8) h u) where
    bu : Bytes u
    bu = subst Bytes (sym eu) (written_bytes across w h across_one t bt room)

    -- what the rows hold before the columns are joined
    inside : (x y : ℕ) → x < w → y < h → value_at OneBit u (n * 8) x y ≡ across x y
    inside x y hx hy =
        same_rows u x y ∙ ap (λ l. value_at OneBit l w x y) eu ∙ written_point across w h across_one t bt
        room x y hx hy

    padding : (x y : ℕ) → w ≤ x → x < n * 8 → y < h → value_at OneBit u (n * 8) x y ≡ 0
    padding x y hx hr hy =
        same_rows u x y ∙ ap (λ l. value_at OneBit l w x y) eu
        ∙ written_padding across w h t (few across across_one) x y hx (omega arith) hy

    -- and afterwards
    column : (grows : Bool) (x y : ℕ) (r : Place) → Near grows 1 k (record { x = x; y = y }) r → r.x ≡ x
    column true x y r m = let a = m.left in let b = m.right in omega arith
    column false x y r m = let a = m.left in let b = m.right in omega arith

    -- a column of the frame has the same rows in either
    in_frame : (x y : ℕ) → x < w → y < h → down x y ≡ result x y
    in_frame x y hx hy =
        same_near grows 1 k 1 k (rect 1 k) (rect 1 k) (rect_full 1 k) (rect_full 1 k) G F
        (value_at OneBit u (n * 8)) across (value_one u (n * 8) h) across_one p p
        (record { ping = omega (arith, en); bin = hy }) (record { ping = hx; bin = hy })
        (λ v l each r ir m. subst (λ b. Bound grows b v) (inside r.x r.y ir.ping ir.bin)
        (each r (record { ping = let a = ir.ping in omega (arith, en); bin = ir.bin }) m))
        (λ v l each r ir m.
        let hr : r.x < w = subst (λ z. z < w) (sym (column grows x y r m)) hx in
        subst (λ b. Bound grows b v) (sym (inside r.x r.y hr ir.bin))
        (each r (record { ping = hr; bin = ir.bin }) m))
        ∙ rect_join 1 k k 1 (omega arith) cells cells (omega arith) grows F A one p
        (record { ping = hx; bin = hy })
        ∙ ap₂ (λ a b. swept_by grows flat 1 F (rect a b) A x y) (first k) (second k)
      where
        p : Place
        p = record { x = x; y = y }

        first : (k : ℕ) → 1 + k - 1 ≡ k
        first k = omega arith

        second : (k : ℕ) → k + 1 - 1 ≡ k
        second k = omega arith

    off : (x y : ℕ) → w ≤ x → x < n * 8 → y < h → down x y ≡ 0
    off x y hx hr hy =
        nothing grows (near_to 1 k (rect 1 k) (rect_full 1 k) G (value_at OneBit u (n * 8)) p _ grows
        (itself grows (down x y)) p (record { ping = hr; bin = hy }) (here grows))
        (near_from 1 k (rect 1 k) (rect_full 1 k) G (value_at OneBit u (n * 8)) p 0 grows (omega arith)
        (λ r ir m.
        subst (λ b. Bound grows b 0)
        (sym (padding r.x r.y
        (subst (λ z. w ≤ z) (sym (column grows x y r m)) hx) ir.ping ir.bin)) (itself grows 0)))
      where
        p : Place
        p = record { x = x; y = y }

        itself : (grows : Bool) (n : ℕ) → Bound grows n n
        itself true n = le_refl n
        itself false n = le_refl n

        here : (grows : Bool) → Near grows 1 k p p
        here true =
            record { left = omega arith; right = omega arith; upper = omega arith; lower = omega arith }
        here false =
            record { left = omega arith; right = omega arith; upper = omega arith; lower = omega arith }

        nothing : (grows : Bool) → Bound grows (value_at OneBit u (n * 8) x y) (down x y)
            → Bound grows (down x y) 0 → down x y ≡ 0
        nothing true a b = let e = padding x y hx hr hy in omega arith
        nothing false a b = let e = padding x y hx hr hy in omega arith

    pub square_made : v ≡ written OneBit result w h t
    square_made =
        same_lists n h v (written OneBit result w h t)
        (subst Bytes (sym ev) (written_bytes down (n * 8) h down_one u bu (room_u eu)))
        (written_bytes result w h result_one t bt room)
        (ap length ev ∙ written_long down (n * 8) h down_one u bu (room_u eu) ∙ ap length eu
        ∙ written_long across w h across_one t bt room ∙ sym (written_long result w h result_one t bt room))
        (omega (arith, en))
        (λ x y hx hy.
        ap (λ l. value_at OneBit l (n * 8) x y) ev ∙ written_point down (n * 8) h down_one u bu (room_u
        eu) x y hx hy
        ∙ ⊎_elim
        (λ l. in_frame x y l hy
        ∙ sym (same_rows (written OneBit result w h t) x y ∙ written_point result w h result_one t bt
        room x y l hy))
        (λ l. off x y l hx hy
        ∙ sym (same_rows (written OneBit result w h t) x y
        ∙ written_padding result w h t (few result result_one) x y l (omega (arith, en)) hy))
        (below_or_not x w))
        (λ i l. ap (λ z. get_or z i 0) ev
        ∙ written_rest down (n * 8) h down_one u bu (room_u eu) i
        (subst (λ m. m ≤ i) (ap (λ r. h * r) (sym (whole n))) l)
        ∙ ap (λ z. get_or z i 0) eu
        ∙ written_rest across w h across_one t bt room i (subst (λ m. m ≤ i) (ap (λ r. h * r) en) l)
        ∙ sym (written_rest result w h result_one t bt room i (subst (λ m. m ≤ i) (ap (λ r. h * r) en) l)))
