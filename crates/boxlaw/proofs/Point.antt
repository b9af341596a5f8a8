-- One point of the result: the run of windows over the padded row of joined rows is what the rectangle joins.
use Prim.Native.Nat.{ℕ, ◌+◌, ◌-◌, ◌*◌, ◌/◌, ◌≤◌, ◌<◌, min}
use mathlib.Core.Path.{◌≡◌, refl, sym, ap, ap₂, ◌∙◌, subst}
use mathlib.Core.Bool.{Bool, true, false, cond}
use mathlib.Core.List.{List}
use mathlib.Core.Logic.{◌⊎◌, inl, inr, ⊎_elim}
use native.Mathlib.Omega.{arith}
use Rattle.basics.proofs.SliceParts.{below_or_not}
use Rattle.picture.specs.Frame.{top, frame, row_bytes}
use Rattle.picture.specs.Points.{column_byte, value_in, value_at}
use Rattle.element.specs.declared.Outline.{Outline}
use Rattle.morphology.specs.Operations.{fold, gather, flat, erode_by}
use Rattle.rows.specs.Steps.Ways.{swept_by}
use Rattle.rows.specs.Steps.Fold.{join_by, start_by}
use Rattle.windows.specs.Steps.Bounds.{Bound}
use Rattle.windows.proofs.Seen.{Window}
use Rattle.joins.specs.Steps.Joins.{depth_if}
use Rattle.columns.specs.Steps.Down.{also_at}
use Rattle.boxrow.specs.Steps.Along.{before_of}
use Rattle.boxrow.proofs.Widths.{before_lt}
use Rattle.boxseen.proofs.Seen.{Sees, fold_most, also_to, also_from, also_most}
use Rattle.boxlaw.specs.Steps.Box.{box_shape, boxed}
use Rattle.boxlaw.proofs.Swept.{box_to, box_from}
use Rattle.boxlaw.proofs.Padded.{Points}

start_bound : (grows : Bool) (most v : ℕ) → v ≤ most → Bound grows (start_by grows most) v
start_bound true most v h = omega arith
start_bound false most v h = h

-- equal bounds, equal values; an eroded value is bounded by the greatest one
same : (grows : Bool) (most a b : ℕ) → (grows ≡ false → a ≤ most) → (grows ≡ false → b ≤ most)
    → ((v : ℕ) → Bound grows (start_by grows most) v → Bound grows a v → Bound grows b v)
    → ((v : ℕ) → Bound grows (start_by grows most) v → Bound grows b v → Bound grows a v) → a ≡ b
same true most a b ha hb to from =
    let x : b ≤ a = to a (omega arith) (omega arith) in
    let y : a ≤ b = from b (omega arith) (omega arith) in omega arith
same false most a b ha hb to from =
    let x : a ≤ b = to a (ha refl) (omega arith) in
    let y : b ≤ a = from b (hb refl) (omega arith) in omega arith

module _ (packed grows : Bool) (s : List ℕ) (w h : ℕ) (o : Outline) (x y lo count row : ℕ)
    (column : o.origin.ping.0 < o.w) (bin : o.origin.bin.0 < o.h) (few : o.w ≤ 64) (hx : x < w)
    (sees : Sees h y (before_of grows o.origin.bin.0 o.h) o.h lo count row)
    (P : ℕ → ℕ) (left : ℕ) where
  abbrev A : ℕ → ℕ → ℕ
  A a b = value_at (depth_if packed) s w a b

  abbrev most : ℕ
  most = top (depth_if packed)

  abbrev value : ℕ → ℕ
  value a =
      value_in (depth_if packed)
      (also_at packed grows s (row_bytes (depth_if packed) w) lo count row (column_byte (depth_if packed) a))
      a

  abbrev before : ℕ
  before = before_of grows o.origin.ping.0 o.w

  abbrev right : ℕ
  right = swept_by grows flat most (frame w h) (box_shape o) A x y

  module _ (points : Points grows most w P value) (win : Window grows o.w left P (64 - before + x)) where
    short : before < o.w
    short = before_lt grows o.origin.ping.0 o.w column

    to : (v : ℕ) → Bound grows (start_by grows most) v → Bound grows left v → Bound grows right v
    to v hs b =
        box_from most w h o A x y v grows column bin hs
        (λ a c ha hc l m k n.
        also_to packed grows s w lo count row a v
        (subst (λ z. Bound grows z v) (ap P (place before x a (omega (arith, short)) l) ∙ points.inside a ha)
        ((win v).0 b (a + before - x) (omega arith))) c (sees.all c hc k n))
      where
        place : (f x a : ℕ) → f ≤ 64 → x ≤ a + f → 64 - f + x + (a + f - x) ≡ 64 + a
        place f x a h l = omega arith

    from : (v : ℕ) → Bound grows (start_by grows most) v → Bound grows right v → Bound grows left v
    from v hs b =
        (win v).1 (λ k hk. ⊎_elim
        (λ l. subst (λ z. Bound grows z v) (sym (points.front (64 - before + x + k) (omega (
          arith,
          short,
        )))) hs)
        (λ l. ⊎_elim
        (λ m. subst (λ z. Bound grows z v)
        (sym (ap P (inner before x k (omega (arith, short)) l) ∙ points.inside (x + k - before) m))
        (also_from packed grows s w lo count row (x + k - before) v hs
        (reached k hk l m row sees.more.0 sees.more.1.0 sees.more.1.1)
        (λ c p q. let r = sees.only c p q in reached k hk l m c r.0 r.1.0 r.1.1)))
        (λ m. subst (λ z. Bound grows z v)
        (sym (ap P (outer before x k w (omega (arith, short)) l m)
        ∙ points.past (x + k - before - w) (omega (arith, short)))) hs)
        (below_or_not (x + k - before) w))
        (below_or_not (x + k) before))
      where
        inner : (f x k : ℕ) → f ≤ 64 → f ≤ x + k → 64 - f + x + k ≡ 64 + (x + k - f)
        inner f x k h l = omega arith

        outer : (f x k w : ℕ) → f ≤ 64 → f ≤ x + k → w ≤ x + k - f → 64 - f + x + k ≡ 64 + w + (x + k - f - w)
        outer f x k w h l m = omega arith

        reached : (k : ℕ) → k < o.w → before ≤ x + k → x + k - before < w → (c : ℕ) → c < h
            → y ≤ c + before_of grows o.origin.bin.0 o.h
            → c + before_of grows o.origin.bin.0 o.h < y + o.h → Bound grows (A (x + k - before) c) v
        reached k hk l m c hc p q =
            box_to most w h o A x y v grows column bin b (x + k - before) c m hc
            (omega arith) (omega arith) p q

    left_most : grows ≡ false → left ≤ most
    left_most e =
        by grows e (value x) (points.inside x hx) (win left).0 before short (also_most' grows e)
      where
        also_most' : (g : Bool) → g ≡ false
            → value_in (depth_if packed)
            (also_at packed g s (row_bytes (depth_if packed) w) lo count row
            (column_byte (depth_if packed) x))
            x ≤ most
        also_most' true e = let z : ◌≡◌ {A = ℕ} 1 0 = ap (λ b. cond b 1 0) e in absurd (omega arith)
        also_most' false e = also_most packed s w lo count row x

        by : (g : Bool) → g ≡ false → (u : ℕ) → P (64 + x) ≡ u
            → (Bound g left left → (k : ℕ) → k < o.w → Bound g (P (64 - before + x + k)) left)
            → (f : ℕ) → f < o.w → u ≤ most → left ≤ most
        by true e u eu each f hf hu = let z : ◌≡◌ {A = ℕ} 1 0 = ap (λ b. cond b 1 0) e in absurd (omega arith)
        by false e u eu each f hf hu =
            let q = each (omega arith) before short in
            let z : P (64 - before + x + before) ≡ u = ap P (home before x (omega (arith, short))) ∙ eu in
            omega arith
          where
            home : (f x : ℕ) → f ≤ 64 → 64 - f + x + f ≡ 64 + x
            home f x h = omega arith

    right_most : (g : Bool) → g ≡ false → swept_by g flat most (frame w h) (box_shape o) A x y ≤ most
    unfolding erode_by gather
    right_most true e = let z : ◌≡◌ {A = ℕ} 1 0 = ap (λ b. cond b 1 0) e in absurd (omega arith)
    right_most false e = fold_most most _ (box_shape o).high

    pub point_is : left ≡ boxed packed grows s w h o x y
    unfolding boxed
    point_is = same grows most left right left_most (right_most grows) to from
