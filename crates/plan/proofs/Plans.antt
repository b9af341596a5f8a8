-- What went into a plan comes out of it.
use Prim.Native.Nat.{ℕ, ◌+◌, ◌*◌, ◌/◌, ◌%◌, ◌≤◌, ◌<◌}
use mathlib.Core.Path.{◌≡◌, refl, sym, ap, ap₂, ◌∙◌}
use mathlib.Core.Bool.{Bool, true, false, cond}
use native.Mathlib.Omega.{arith}
use borrow.Author.Tests.{le-leb, lt-leb}
use Rattle.element.specs.declared.Outline.{Outline}
use Rattle.plan.specs.Steps.Plan.{Small, digits, plan_of, outline_by, grows_by}

-- each digit, whatever stands above the fourth
module _ (w h x y g n : ℕ) (lw : w < 128) (lh : h < 128) (lx : x < 128) (ly : y < 128)
    (e : n ≡ ((y * 128 + x) * 128 + h) * 128 + w + g * 268435456) where
  first : n % 128 ≡ w
  first = omega arith

  second : n / 128 % 128 ≡ h
  second = omega arith

  third : n / 16384 % 128 ≡ x
  third = omega arith

  fourth : n / 2097152 % 128 ≡ y
  fourth = omega arith

  few : ((y * 128 + x) * 128 + h) * 128 + w < 268435456
  few = omega arith

-- one more in the fifth digit, or none
digits_more : (w h x y : ℕ) → digits w h x (128 + y) ≡ digits w h x y + 1 * 268435456
unfolding digits
digits_more w h x y = omega arith

digits_none : (w h x y : ℕ) → digits w h x (0 + y) ≡ digits w h x y + 0 * 268435456
unfolding digits
digits_none w h x y = omega arith

abbrev outlined : ℕ → ℕ → ℕ → ℕ → Outline
outlined w h x y = record {
  w = w;
  h = h;
  origin = record { ping = record { 0 = x }; bin = record { 0 = y } };
}

module _ (o : Outline) (small : Small o) where
  abbrev own : ℕ
  own = digits o.w o.h o.origin.ping.0 o.origin.bin.0

  out : (g n : ℕ) → n ≡ own + g * 268435456 → outline_by n ≡ o
  unfolding outline_by digits
  out g n e =
      let w = o.w in
      let h = o.h in
      let x = o.origin.ping.0 in
      let y = o.origin.bin.0 in
      ap₂ (λ a b. outlined a b (n / 16384 % 128) (n / 2097152 % 128))
      (first w h x y g n small.wide small.high small.column small.row e)
      (second w h x y g n small.wide small.high small.column small.row e)
      ∙ ap₂ (outlined w h) (third w h x y g n small.wide small.high small.column small.row e)
      (fourth w h x y g n small.wide small.high small.column small.row e)

  pub plan_outline : (grows : Bool) → outline_by (plan_of grows o) ≡ o
  unfolding plan_of digits
  plan_outline true = out 1 _ (digits_more o.w o.h o.origin.ping.0 o.origin.bin.0)
  plan_outline false = out 0 _ (digits_none o.w o.h o.origin.ping.0 o.origin.bin.0)

  least : own < 268435456
  unfolding digits
  least = few o.w o.h o.origin.ping.0 o.origin.bin.0 0 _
      small.wide small.high small.column small.row refl

  pub plan_grows : (grows : Bool) → grows_by (plan_of grows o) ≡ grows
  unfolding grows_by plan_of
  plan_grows true =
      le-leb 268435456 (digits o.w o.h o.origin.ping.0 (128 + o.origin.bin.0))
      (omega (arith, digits_more o.w o.h o.origin.ping.0 o.origin.bin.0))
  plan_grows false =
      lt-leb 268435456 (digits o.w o.h o.origin.ping.0 (0 + o.origin.bin.0))
      (omega (arith, least, digits_none o.w o.h o.origin.ping.0 o.origin.bin.0))
