-- Rectangles after one another are a larger rectangle, in every frame: no way between two points of
-- the frame leaves it, since all steps lead one way. So larger squares keep no more.
use Prim.Native.Nat.{ℕ, zero, suc, ◌+◌, ◌-◌, ◌≤◌, ◌<◌, min, max}
use mathlib.Core.Path.{◌≡◌, refl, sym, ap, ap₂, ◌∙◌, subst}
use mathlib.Core.Bool.{Bool, true, false}
use native.Mathlib.Nat.{le_trans, le_of_eq}
use native.Mathlib.Omega.{arith}
use Rattle.picture.specs.Frame.{Frame}
use Rattle.picture.specs.Bytes.{Picture}
use Rattle.morphology.specs.Step.{Place, In}
use Rattle.morphology.specs.Operations.{flat, erode, dilate}
use Rattle.morphology.specs.Order.{LiesWithin, Alike, Bounded}
use Rattle.morphology.proofs.Order.{flat_paired, dilate_mono, dilate_alike, opening_within, erode_bounded}
use Rattle.morphology.proofs.Places.{same_place}
use Rattle.rows.specs.Steps.Ways.{swept_by}
use Rattle.rows.proofs.Swept.{swept_bounded}
use Rattle.windows.specs.Steps.Bounds.{Bound}
use Rattle.windows.proofs.Bounds.{bounds_same}
use Rattle.sizes.specs.Spectrum.{rect, square, survived}
use Rattle.sizes.proofs.Near.{From, Near, rect_full, near_to, near_from, swept_small, same_near}

-- ---- one after another

-- a place on the way from p to r: near p, and r near it
amid : Bool → ℕ → ℕ → Place → Place → Place
amid true a b p r = record { x = max r.x (p.x - (a - 1)); y = max r.y (p.y - (b - 1)) }
amid false a b p r = record { x = min r.x (p.x + (a - 1)); y = min r.y (p.y + (b - 1)) }

module _ (a b c d : ℕ) (ha : 1 ≤ a) (hb : 1 ≤ b) (hc : 1 ≤ c) (hd : 1 ≤ d) where
  first_near : (grows : Bool) (p r : Place) → Near grows (a + c - 1) (b + d - 1) p r
      → Near grows a b p (amid grows a b p r)
  unfolding amid
  first_near true p r n =
      let l = n.left in let u = n.upper in
      record { left = omega arith; right = omega arith; upper = omega arith; lower = omega arith }
  first_near false p r n =
      let l = n.left in let u = n.upper in
      record { left = omega arith; right = omega arith; upper = omega arith; lower = omega arith }

  then_near : (grows : Bool) (p r : Place) → Near grows (a + c - 1) (b + d - 1) p r
      → Near grows c d (amid grows a b p r) r
  unfolding amid
  then_near true p r n =
      let l = n.left in let u = n.upper in let e = n.right in let f = n.lower in
      record { left = omega arith; right = omega arith; upper = omega arith; lower = omega arith }
  then_near false p r n =
      let l = n.left in let u = n.upper in let e = n.right in let f = n.lower in
      record { left = omega arith; right = omega arith; upper = omega arith; lower = omega arith }

  amid_in : (grows : Bool) (F : Frame) (p r : Place) → In F p → In F r
      → Near grows (a + c - 1) (b + d - 1) p r
      → In F (amid grows a b p r)
  unfolding amid
  amid_in true F p r ip ir n =
      let x = ip.ping in let y = ip.bin in let u = ir.ping in let v = ir.bin in
      record { ping = omega arith; bin = omega arith }
  amid_in false F p r ip ir n =
      let x = ip.ping in let y = ip.bin in let u = ir.ping in let v = ir.bin in
      record { ping = omega arith; bin = omega arith }

  both_near : (grows : Bool) (p q r : Place) → Near grows a b p q → Near grows c d q r
      → Near grows (a + c - 1) (b + d - 1) p r
  both_near true p q r n m =
      let l = n.left in let u = n.upper in let e = n.right in let f = n.lower in
      let l' = m.left in let u' = m.upper in let e' = m.right in let f' = m.lower in
      record { left = omega arith; right = omega arith; upper = omega arith; lower = omega arith }
  both_near false p q r n m =
      let l = n.left in let u = n.upper in let e = n.right in let f = n.lower in
      let l' = m.left in let u' = m.upper in let e' = m.right in let f' = m.lower in
      record { left = omega arith; right = omega arith; upper = omega arith; lower = omega arith }

  -- first by the one and then by the other is by the sum of both
  module _ (grows : Bool) (F : Frame) (A : Picture) (bound : Bounded 1 F A) where
    abbrev once : Picture
    once = swept_by grows flat 1 F (rect c d) A

    pub rect_join : Alike F (swept_by grows flat 1 F (rect a b) once)
        (swept_by grows flat 1 F (rect (a + c - 1) (b + d - 1)) A)
    rect_join p i =
        same_near grows a b (a + c - 1) (b + d - 1) (rect a b) (rect (a + c - 1) (b + d - 1))
        (rect_full a b) (rect_full (a + c - 1) (b + d - 1)) F F once A
        (swept_bounded grows 1 F (rect c d) A bound) bound p p i i
        (λ v l each r ir n.
        near_to c d (rect c d) (rect_full c d) F A (amid grows a b p r) v grows
        (each (amid grows a b p r) (amid_in grows F p r i ir n) (first_near grows p r n))
        r ir (then_near grows p r n))
        (λ v l each q iq n.
        near_from c d (rect c d) (rect_full c d) F A q v grows l
        (λ r ir m. each r ir (both_near grows p q r n m)))

-- squares no less than the frame are the same
pub clipped : (grows : Bool) (F : Frame) (k m : ℕ) → F.pings ≤ k → F.bins ≤ k → F.pings ≤ m → F.bins ≤ m
    → (A : Picture) → Bounded 1 F A
    → Alike F (swept_by grows flat 1 F (square k) A) (swept_by grows flat 1 F (square m) A)
clipped grows F k m hk hk' hm hm' A b p i =
    same_near grows k k m m (square k) (square m) (rect_full k k) (rect_full m m) F F A A b b p p i i
    (λ v l each r ir n. each r ir (as_near grows k m hk hk' r ir n))
    (λ v l each r ir n. each r ir (as_near grows m k hm hm' r ir n))
  where
    as_near : (grows : Bool) (k m : ℕ) → F.pings ≤ k → F.bins ≤ k → (r : Place) → In F r
        → Near grows m m p r → Near grows k k p r
    as_near true k m hk hk' r ir n =
        let l = n.left in let u = n.upper in let x = i.ping in let y = i.bin in
        record { left = l; right = omega arith; upper = u; lower = omega arith }
    as_near false k m hk hk' r ir n =
        let l = n.left in let u = n.upper in let x = ir.ping in let y = ir.bin in
        record { left = l; right = omega arith; upper = u; lower = omega arith }

-- ---- openings by squares
module _ (F : Frame) (A : Picture) (b : Bounded 1 F A) where
  -- one cell leaves the picture as it is
  pub by_one : (grows : Bool) (C : Picture) → Bounded 1 F C → Alike F (swept_by grows flat 1 F (square 1)
      C) C
  by_one grows C bc p i =
      bounds_same grows _ _ (swept_small grows F (square 1) C bc p i)
      (let l = bc p i in omega arith)
      (λ v l h. near_to 1 1 (square 1) (rect_full 1 1) F C p v grows h p i (itself grows))
      (λ v l h. near_from 1 1 (square 1) (rect_full 1 1) F C p v grows l
      (λ q iq n. subst (λ (r : Place). Bound grows (C r.x r.y) v) (only grows q n) h))
    where
      itself : (grows : Bool) → Near grows 1 1 p p
      itself true =
          record { left = omega arith; right = omega arith; upper = omega arith; lower = omega arith }
      itself false =
          record { left = omega arith; right = omega arith; upper = omega arith; lower = omega arith }

      only : (grows : Bool) (q : Place) → Near grows 1 1 p q → p ≡ q
      only true q n =
          let l = n.left in let r = n.right in let u = n.upper in let d = n.lower in
          same_place (omega arith) (omega arith)
      only false q n =
          let l = n.left in let r = n.right in let u = n.upper in let d = n.lower in
          same_place (omega arith) (omega arith)

  pub side_one : Alike F (survived F A 1) A
  side_one p i =
      dilate_alike flat F (square 1) (erode 1 F (square 1) A) A (by_one false A b) p ∙ by_one true A b p i

  module _ (k : ℕ) (some : 1 ≤ k) where
    abbrev eroded : Picture
    eroded = erode 1 F (square k) A

    more : 2 + k - 1 ≡ k + 1
    more = omega arith

    more' : k + 2 - 1 ≡ k + 1
    more' = omega arith

    -- side k + 1 is side k and one step by the square of side 2
    erode_more : Alike F (erode 1 F (square (k + 1)) A) (erode 1 F (square 2) eroded)
    erode_more p i =
        ap (λ n. erode 1 F (square n) A p.x p.y) (sym more)
        ∙ sym (rect_join 2 2 k k (omega arith) (omega arith) some some false F A b p i)

    dilate_more : (C : Picture) → Bounded 1 F C
        → Alike F (dilate F (square (k + 1)) C) (dilate F (square k) (dilate F (square 2) C))
    dilate_more C bc p i =
        ap (λ n. dilate F (square n) C p.x p.y) (sym more')
        ∙ sym (rect_join k k 2 2 some some (omega arith) (omega arith) true F C bc p i)

    -- so that it opens what side k eroded once more
    pub next_side : LiesWithin F (survived F A (k + 1)) (survived F A k)
    next_side p i =
        le_trans
        (le_of_eq
        (dilate_alike flat F (square (k + 1)) _ (erode 1 F (square 2) eroded) erode_more p
        ∙ dilate_more (erode 1 F (square 2) eroded) (erode_bounded flat 1 F (square 2) eroded) p i))
        (dilate_mono flat (λ g u v h. h) F (square k) _ eroded
        (opening_within flat flat 1 (flat_paired 1) F (square 2) eroded (erode_bounded flat 1 F (square
        k) A))
        p i)

  -- larger squares keep no more
  pub larger_keep_no_more : (k : ℕ) → 1 ≤ k → (d : ℕ) → LiesWithin F (survived F A (k + d)) (survived F A k)
  larger_keep_no_more k some zero p i =
      le_of_eq (ap (λ n. survived F A n p.x p.y) (none k))
    where
      none : (k : ℕ) → k + 0 ≡ k
      none k = omega arith
  larger_keep_no_more k some (suc d) p i =
      le_trans (le_of_eq (ap (λ n. survived F A n p.x p.y) (one_more k d)))
      (le_trans (next_side (k + d) (omega arith) p i) (larger_keep_no_more k some d p i))
    where
      one_more : (k d : ℕ) → k + suc d ≡ k + d + 1
      one_more k d = omega arith
