-- A value lifted by the sign and the size of a height is the value that the weighted rule makes of it.
use Prim.Native.Nat.{ℕ, ◌+◌, ◌-◌, ◌≤◌, min}
use mathlib.Core.Path.{◌≡◌, refl, sym, ap, ◌∙◌}
use mathlib.Core.Bool.{Bool, true, false, cond, not}
use mathlib.Core.Logic.{⊎_elim}
use native.Mathlib.Omega.{arith}
use native.Mathlib.Nat.{eq-zero-or-pos}
use lib.Dec.{eqb, ltb}
use borrow.Author.Tests.{eqb-true, eq-eqb, ne_eqb}
use Rattle.morphology.specs.Weighted.{lower, raise, held_less, held_more}
use Rattle.morphology.proofs.Weights.{lower_end, lower_inside, raise_end}
use Rattle.morphology.proofs.Weights.{raise_inside, loudest_or, lower_zero, raise_zero}
use Rattle.rows.specs.Steps.Ways.{weigh_by}
use Rattle.weighblocks.specs.Steps.Lift.{lift_by}
use Rattle.heightsigns.specs.Steps.Sides.{rises_of, side_of, size_of}

-- ---- a height below the sign, and one from there on
more_up : (g v : ℕ) → ltb g 128 ≡ true → held_more g v ≡ min 255 (v + g)
unfolding held_more
more_up g v e = rw e

less_up : (g v : ℕ) → ltb g 128 ≡ true → held_less g v ≡ v - g
unfolding held_less
less_up g v e = rw e

more_down : (g v : ℕ) → ltb g 128 ≡ false → held_more g v ≡ v - (256 - g)
unfolding held_more
more_down g v e = rw e

less_down : (g v : ℕ) → ltb g 128 ≡ false → held_less g v ≡ min 255 (v + (256 - g))
unfolding held_less
less_down g v e = rw e

-- ---- a height that raises
rise_grow : (g v : ℕ) → ltb g 128 ≡ true → v ≤ 255 → cond (eqb v 0) 0 (min 255 (v + g)) ≡ raise g v
rise_grow g v e h =
    ⊎_elim
    (λ z. ap (λ b. cond b 0 (min 255 (v + g))) (eq-eqb v 0 z) ∙ sym (ap (raise g) z ∙ raise_end g))
    (λ p. ap (λ b. cond b 0 (min 255 (v + g))) (ne_eqb v 0 (λ z. omega arith))
    ∙ sym (raise_inside g v p ∙ more_up g v e))
    (eq-zero-or-pos v)

rise_shrink : (g v : ℕ) → ltb g 128 ≡ true → v ≤ 255 → cond (eqb v 255) 255 (v - g) ≡ lower g v
rise_shrink g v e h =
    ⊎_elim
    (λ z. let q : v ≡ 255 = omega arith in
    ap (λ b. cond b 255 (v - g)) (eq-eqb v 255 q) ∙ sym (lower_end g v z))
    (λ p. ap (λ b. cond b 255 (v - g)) (ne_eqb v 255 (λ z. omega arith))
    ∙ sym (lower_inside g v p ∙ less_up g v e))
    (loudest_or v)

-- ---- one that does not: the end stays by itself
second : (a b : Bool) → cond a false b ≡ false → b ≡ true → a ≡ true
second true b p q = refl
second false b p q = let z : ◌≡◌ {A = ℕ} 0 1 = cc in absurd (omega arith)

zero_of : (g : ℕ) → rises_of g ≡ false → ltb g 128 ≡ true → g ≡ 0
zero_of g n e = eqb-true g 0 (second (eqb g 0) (ltb g 128) n e)

fall_grow : (g v : ℕ) → rises_of g ≡ false → v ≤ 255 → v - size_of g ≡ raise g v
fall_grow g v n h = by (ltb g 128) refl
  where
    by : (t : Bool) → ltb g 128 ≡ t → v - cond t g (256 - g) ≡ raise g v
    by true e =
        let z = zero_of g n e in
        let r : raise g v ≡ v = ap (λ g. raise g v) z ∙ raise_zero v h in omega arith
    by false e =
        ⊎_elim
        (λ z. let r : raise g v ≡ 0 = ap (raise g) z ∙ raise_end g in omega arith)
        (λ p. sym (raise_inside g v p ∙ more_down g v e)) (eq-zero-or-pos v)

fall_shrink : (g v : ℕ) → rises_of g ≡ false → v ≤ 255 → min 255 (v + size_of g) ≡ lower g v
fall_shrink g v n h = by (ltb g 128) refl
  where
    by : (t : Bool) → ltb g 128 ≡ t → min 255 (v + cond t g (256 - g)) ≡ lower g v
    by true e =
        let z = zero_of g n e in
        let r : lower g v ≡ v = ap (λ g. lower g v) z ∙ lower_zero v h in omega arith
    by false e =
        ⊎_elim (λ z. omega (arith, lower_end g v z))
        (λ p. sym (lower_inside g v p ∙ less_down g v e)) (loudest_or v)

-- ---- at either side
pub rises_below : (a b : Bool) → cond a false b ≡ true → b ≡ true
rises_below true b p = let z : ◌≡◌ {A = ℕ} 0 1 = cc in absurd (omega arith)
rises_below false b p = p

falls : (a : Bool) → not a ≡ true → a ≡ false
falls true p = let z : ◌≡◌ {A = ℕ} 0 1 = cc in absurd (omega arith)
falls false p = refl

pub lift_is : (grows rises : Bool) (g v : ℕ) → side_of rises g ≡ true → v ≤ 255
    → lift_by grows rises (size_of g) v ≡ weigh_by grows g v
lift_is true true g v s h =
    let e = rises_below (eqb g 0) (ltb g 128) s in
    ap (λ b. cond (eqb v 0) 0 (min 255 (v + cond b g (256 - g)))) e ∙ rise_grow g v e h
lift_is true false g v s h = fall_grow g v (falls (rises_of g) s) h
lift_is false true g v s h =
    let e = rises_below (eqb g 0) (ltb g 128) s in
    ap (λ b. cond (eqb v 255) 255 (v - cond b g (256 - g))) e ∙ rise_shrink g v e h
lift_is false false g v s h = fall_shrink g v (falls (rises_of g) s) h
