-- A marker is not refused exactly where it lies within the mask;
-- an opening always does within its own picture.
use Prim.Native.Nat.{ℕ, ◌≤◌, ◌<◌}
use mathlib.Core.Path.{◌≡◌, refl, ap₂}
use mathlib.Core.Bool.{Bool, true, false}
use mathlib.Core.Logic.{◌↔◌}
use native.Mathlib.Omega.{arith}
use native.Mathlib.Decide.{dec_le}
use lib.Dec.{T, ltb, ltb→lt, lt→ltb}
use Rattle.basics.specs.Tests.{any}
use Rattle.basics.proofs.Any.{any_same, any_intro, any_elim}
use Rattle.picture.specs.Frame.{Frame}
use Rattle.picture.specs.Bytes.{Picture}
use Rattle.element.specs.Shape.{Shape}
use Rattle.morphology.specs.Step.{Place, In}
use Rattle.morphology.specs.Operations.{flat, opening}
use Rattle.morphology.specs.Order.{LiesWithin, Alike, Bounded}
use Rattle.morphology.proofs.Order.{flat_paired, opening_within}
use Rattle.grown.specs.Marker.{outside}

not_passed : (b : Bool) → ¬ T b → b ≡ false
not_passed true n = absurd (n tt)
not_passed false n = refl

failed : (b : Bool) → b ≡ false → ¬ T b
failed b e t = subst_T b e t
  where
    subst_T : (b : Bool) → b ≡ false → T b → ⊥
    subst_T true e t = let z : ◌≡◌ {A = ℕ} 0 1 = cc in absurd (omega arith)
    subst_T false e t = t

module _ (F : Frame) (mask marker : Picture) where
  -- a point of the marker outside the mask
  abbrev Outside : Type 0
  Outside = (p : Place) × In F p × (mask p.x p.y < marker p.x p.y)

  pub outside_found : T (outside F mask marker) ↔ Outside
  unfolding outside
  outside_found = (
    λ t.
        let j = any_elim (λ y. any (λ x. ltb (mask x y) (marker x y)) F.pings) F.bins t in
        let k = any_elim (λ x. ltb (mask x j.0) (marker x j.0)) F.pings j.2 in
        (record { x = k.0; y = j.0 }, record { ping = k.1; bin = j.1 }, ltb→lt _ _ k.2),
    λ o.
        let p = o.0 in
        any_intro (λ y. any (λ x. ltb (mask x y) (marker x y)) F.pings) F.bins p.y o.1.bin
        (any_intro (λ x. ltb (mask x p.y) (marker x p.y)) F.pings p.x o.1.ping
        (lt→ltb _ _ o.2)),
  )

  pub outside_none : (outside F mask marker ≡ false) ↔ LiesWithin F marker mask
  outside_none = (
    λ e p i. by p i e (dec_le (marker p.x p.y) (mask p.x p.y)),
    λ within. not_passed (outside F mask marker)
        (λ t. let o = outside_found.0 t in let h = within o.0 o.1 in omega arith),
  )
    where
      by : (p : Place) → In F p → outside F mask marker ≡ false
          → Dec (marker p.x p.y ≤ mask p.x p.y) → marker p.x p.y ≤ mask p.x p.y
      by p i e (yes l) = l
      by p i e (no n) = absurd (failed (outside F mask marker) e (outside_found.1 (p, i, omega arith)))

-- the opening of a one-bit picture is a marker inside it: never MARKER
pub opening_inside : (F : Frame) (B : Shape) (A : Picture) → Bounded 1 F A
    → outside F A (opening 1 F B A) ≡ false
opening_inside F B A b =
    (outside_none F A (opening 1 F B A)).1 (opening_within flat flat 1 (flat_paired 1) F B A b)

-- nor of either in what lies outside
pub outside_alike : (F : Frame) (mask mask' marker marker' : Picture) → Alike F mask mask'
    → Alike F marker marker' → outside F mask marker ≡ outside F mask' marker'
unfolding outside
outside_alike F mask mask' marker marker' hm hk =
    any_same _ _ F.bins (λ y ly. any_same _ _ F.pings (λ x lx.
    let p : Place = record { x = x; y = y } in
    let i : In F p = record { ping = lx; bin = ly } in
    ap₂ ltb (hm p i) (hk p i)))
