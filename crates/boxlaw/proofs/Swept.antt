-- What a rectangle joins: the points of the frame from so many columns and rows before a point to so many
-- past it.
use Prim.Native.Nat.{ℕ, ◌+◌, ◌-◌, ◌≤◌, ◌<◌, min, max}
use mathlib.Core.Path.{◌≡◌, refl, sym, ap, ap₂, ◌∙◌, subst}
use mathlib.Core.Bool.{Bool, true, false, cond, ◌&&◌}
use native.Mathlib.Omega.{arith}
use lib.Dec.{leb, ltb}
use borrow.Author.Tests.{leb-true, ltb-true}
use Rattle.basics.proofs.Tests.{both}
use Rattle.picture.specs.Frame.{Frame, frame}
use Rattle.picture.specs.Bytes.{Picture}
use Rattle.element.specs.declared.Outline.{Outline}
use Rattle.element.specs.Shape.{Shape}
use Rattle.morphology.specs.Operations.{fold, gather, moved, within, flat, erode_by, dilate_by}
use Rattle.rows.specs.Steps.Ways.{swept_by}
use Rattle.rows.specs.Steps.Fold.{join_by, start_by, plus_by, minus_by}
use Rattle.rows.proofs.Places.{within_yes}
use Rattle.windows.specs.Steps.Bounds.{Bound}
use Rattle.windows.proofs.Bounds.{fold_to, fold_from}
use Rattle.boxrow.specs.Steps.Along.{before_of}
use Rattle.boxlaw.specs.Steps.Box.{box_shape}

-- ---- along one axis: where the cells of a run lead, and which cell leads to a place
leads : (grows : Bool) (p o wide c : ℕ) → o < wide → c < wide → minus_by grows o c ≤ p + plus_by grows o c
    → (p ≤ moved p (plus_by grows o c) (minus_by grows o c) + before_of grows o wide)
    × (moved p (plus_by grows o c) (minus_by grows o c) + before_of grows o wide < p + wide)
leads true p o wide c ho hc h = (omega arith, omega arith)
leads false p o wide c ho hc h = (omega arith, omega arith)

cell_for : (grows : Bool) (p o wide q : ℕ) → o < wide → p ≤ q + before_of grows o wide
    → q + before_of grows o wide < p + wide
    → (c : ℕ) × ((c < wide) × ((minus_by grows o c ≤ p + plus_by grows o c)
    × (moved p (plus_by grows o c) (minus_by grows o c) ≡ q)))
cell_for true p o wide q ho l h = (p + o - q, (omega arith, (omega arith, omega arith)))
cell_for false p o wide q ho l h = (q + o - p, (omega arith, (omega arith, omega arith)))

-- ---- a fold over rows of folds over cells
module _ (grows : Bool) (z : ℕ) (B : Shape) (taken : ℕ → ℕ → Bool) (value : ℕ → ℕ → ℕ) (v : ℕ) where
  abbrev cell_at : ℕ → ℕ → ℕ
  cell_at c r = cond (taken c r) (value c r) z

  taken_to : (c r : ℕ) → taken c r ≡ true → Bound grows (cell_at c r) v → Bound grows (value c r) v
  taken_to c r e b = subst (λ t. Bound grows (cond t (value c r) z) v) e b

  taken_from : (c r : ℕ) → Bound grows z v → (taken c r ≡ true → Bound grows (value c r) v)
      → Bound grows (cell_at c r) v
  taken_from c r h k = by (taken c r) refl
    where
      by : (t : Bool) → taken c r ≡ t → Bound grows (cond t (value c r) z) v
      by true e = k e
      by false e = h

  gather_to : Bound grows (gather (join_by grows) z B taken value) v → (c r : ℕ) → c < B.wide → r < B.high
      → taken c r ≡ true → Bound grows (value c r) v
  unfolding gather
  gather_to b c r hc hr e =
      taken_to c r e
      ((fold_to grows z (λ c. cell_at c r) v B.wide
      ((fold_to grows z (λ r. fold (join_by grows) z (λ c. cell_at c r) B.wide) v B.high b).1 r hr)).1 c
      hc)

  gather_from : Bound grows z v
      → ((c r : ℕ) → c < B.wide → r < B.high → taken c r ≡ true → Bound grows (value c r) v)
      → Bound grows (gather (join_by grows) z B taken value) v
  unfolding gather
  gather_from h each =
      fold_from grows z (λ r. fold (join_by grows) z (λ c. cell_at c r) B.wide) v B.high h
      (λ r hr. fold_from grows z (λ c. cell_at c r) v B.wide h
      (λ c hc. taken_from c r h (λ e. each c r hc hr e)))

-- ---- both operations, by a rectangle
module _ (top w h : ℕ) (o : Outline) (A : Picture) (x y v : ℕ) where
  abbrev X : Bool → ℕ → ℕ
  X grows c = moved x (plus_by grows o.origin.ping.0 c) (minus_by grows o.origin.ping.0 c)

  abbrev Y : Bool → ℕ → ℕ
  Y grows r = moved y (plus_by grows o.origin.bin.0 r) (minus_by grows o.origin.bin.0 r)

  abbrev in_x : Bool → ℕ → Bool
  in_x grows c = within w x (plus_by grows o.origin.ping.0 c) (minus_by grows o.origin.ping.0 c)

  abbrev in_y : Bool → ℕ → Bool
  in_y grows r = within h y (plus_by grows o.origin.bin.0 r) (minus_by grows o.origin.bin.0 r)

  abbrev swept : Bool → ℕ
  swept grows = swept_by grows flat top (frame w h) (box_shape o) A x y

  cells_to : (grows : Bool) → Bound grows (swept grows) v → (c r : ℕ) → c < o.w → r < o.h
      → in_x grows c && in_y grows r ≡ true → Bound grows (A (X grows c) (Y grows r)) v
  unfolding dilate_by erode_by box_shape
  cells_to true b c r hc hr e =
      gather_to true 0 (box_shape o) (λ c r. in_x true c && in_y true r) (λ c r. A (X true c) (Y true r)) v b
      c r hc hr e
  cells_to false b c r hc hr e =
      gather_to false top (box_shape o) (λ c r. in_x false c && in_y false r) (λ c r. A (X false c) (Y false
      r)) v
      b c r hc hr e

  cells_from_lem : (grows : Bool) → Bound grows (start_by grows top) v
      → ((c r : ℕ) → c < o.w → r < o.h → in_x grows c && in_y grows r ≡ true
      → Bound grows (A (X grows c) (Y grows r)) v) → Bound grows (swept grows) v
  unfolding dilate_by erode_by box_shape
  cells_from_lem true s each =
      gather_from true 0 (box_shape o) (λ c r. in_x true c && in_y true r) (λ c r. A (X true c) (Y true r)) v
      s each
  cells_from_lem false s each =
      gather_from false top (box_shape o) (λ c r. in_x false c && in_y false r) (λ c r. A (X false c) (Y false
      r)) v
      s each

  -- in columns and rows
  module _ (grows : Bool) (column : o.origin.ping.0 < o.w) (row : o.origin.bin.0 < o.h) where
    abbrev left : ℕ
    left = before_of grows o.origin.ping.0 o.w

    abbrev above : ℕ
    above = before_of grows o.origin.bin.0 o.h

    pub box_to : Bound grows (swept grows) v → (a b : ℕ) → a < w → b < h
        → x ≤ a + left → a + left < x + o.w → y ≤ b + above → b + above < y + o.h → Bound grows (A a b) v
    box_to s a b ha hb l m k n =
        let c = cell_for grows x o.origin.ping.0 o.w a column l m in
        let r = cell_for grows y o.origin.bin.0 o.h b row k n in
        subst (λ q. Bound grows (A q b) v) c.1.1.1
        (subst (λ q. Bound grows (A (X grows c.0) q) v) r.1.1.1
        (cells_to grows s c.0 r.0 c.1.0 r.1.0
        (ap₂ ◌&&◌
        (within_yes w x _ _ c.1.1.0 (subst (λ q. q < w) (sym c.1.1.1) ha))
        (within_yes h y _ _ r.1.1.0 (subst (λ q. q < h) (sym r.1.1.1) hb)))))

    pub box_from : Bound grows (start_by grows top) v
        → ((a b : ℕ) → a < w → b < h → x ≤ a + left → a + left < x + o.w → y ≤ b + above
        → b + above < y + o.h → Bound grows (A a b) v)
        → Bound grows (swept grows) v
    box_from s each =
        cells_from_lem grows s (λ c r hc hr e.
        let q = both (in_x grows c) (in_y grows r) e in
        let p = inside w x o.origin.ping.0 c q.0 in
        let k = inside h y o.origin.bin.0 r q.1 in
        let m = leads grows x o.origin.ping.0 o.w c column hc p.0 in
        let n = leads grows y o.origin.bin.0 o.h r row hr k.0 in
        each (X grows c) (Y grows r) p.1 k.1 m.0 m.1 n.0 n.1)
      where
        inside : (n p o c : ℕ) → within n p (plus_by grows o c) (minus_by grows o c) ≡ true
            → (minus_by grows o c ≤ p + plus_by grows o c) × (moved p (plus_by grows o c) (minus_by grows o c)
            < n)
        inside n p o c e =
            let q = both (leb (minus_by grows o c) (p + plus_by grows o c))
            (ltb (moved p (plus_by grows o c) (minus_by grows o c)) n) e in
            (leb-true _ _ q.0, ltb-true _ _ q.1)
