-- The places that another column sees, found one after another.
use Prim.Native.Nat.{ℕ, ◌+◌, ◌-◌, ◌*◌, ◌%◌, ◌≤◌, ◌<◌}
use mathlib.Core.Path.{◌≡◌, refl, sym, ap, ◌∙◌, subst}
use mathlib.Core.Bool.{Bool, true, false, cond, ◌&&◌, and-false}
use mathlib.Core.List.{List}
use mathlib.Core.Logic.{⊎_elim}
use native.Mathlib.Omega.{arith}
use native.Mathlib.Nat.{eq-or-lt_of_le, not-suc-le-zero, div-add-mod', mul-le-mul}
use lib.Dec.{leb}
use lib.ListN.{length, get_or, set, length-set}
use lib.Seq.{get_or-set_same, get_or-set_other}
use borrow.Author.Tests.{lt-ltb, le-ltb, lt-leb, le-leb}
use Rattle.cellwise.specs.Steps.Spots.{near_of, Picked}

pub kept : (at : List ℕ) (n v j : ℕ) → j < n → get_or (set at n v) j 0 ≡ get_or at j 0
kept at n v j h = get_or-set_other at n j v 0 (λ e. absurd (omega arith))

pub below_one : (i n : ℕ) → i < n + 1 → i ≤ n
below_one i n h = omega arith

pub differ : {b : Bool} → b ≡ true → b ≡ false → ⊥
differ e f = let z : ◌≡◌ {A = ℕ} 0 1 = cc in omega arith

pub rem_le : (p w : ℕ) → p % w ≤ p
rem_le p w = omega (arith, div-add-mod' p w)

-- a row of the element, in places
pub base_few : (q h w : ℕ) → q < h → h ≤ 64 → w ≤ 1024 → q * w ≤ 64512
base_few q h w a b c = mul-le-mul {n₁ = q} {m₁ = w} {n₂ = 63} {m₂ = 1024} (omega arith) c

-- ---- the places that another column sees: none, one more
module _ (w back x : ℕ) where
  pub near_is : (p : ℕ) → back ≤ p % w + x → p % w + x - back < w → near_of w back x p ≡ true
  unfolding near_of
  near_is p h k = simp (le-leb _ _ h, lt-ltb _ _ k)

  pub near_low : (p : ℕ) → p % w + x < back → near_of w back x p ≡ false
  unfolding near_of
  near_low p h = simp (lt-leb _ _ h)

  pub near_high : (p : ℕ) → w ≤ p % w + x - back → near_of w back x p ≡ false
  unfolding near_of
  near_high p h = ap (λ t. leb back (p % w + x) && t) (le-ltb _ _ h) ∙ and-false (leb back (p % w + x))

  pub picked_none : (at into : List ℕ) → length into ≡ 16 → Picked w back x at 0 0 into
  picked_none at into e =
      record {
        long = e;
        few = omega arith;
        inside = λ i h. absurd (not-suc-le-zero h);
        covered = λ j h. absurd (not-suc-le-zero h);
      }

  pub picked_more : (at : List ℕ) (k n m : ℕ) (into u : List ℕ) (p : ℕ) → Picked w back x at k n into → k < 16
      → p ≡ get_or at k 0 → m ≡ cond (near_of w back x p) (n + 1) n
      → u ≡ cond (near_of w back x p) (set into n (p + x - back)) into → Picked w back x at (k + 1) m u
  picked_more at k n m into u p l small ep em eu = by (near_of w back x p) refl
    where
      by : (t : Bool) → near_of w back x p ≡ t → Picked w back x at (k + 1) m u
      by false e =
          let z : m ≡ n = em ∙ ap (λ t. cond t (n + 1) n) e in
          let q : u ≡ into = eu ∙ ap (λ t. cond t (set into n (p + x - back)) into) e in
          record {
            long = ap length q ∙ l.long;
            few = omega (arith, l.few);
            inside = λ i h. let f = l.inside i (subst (λ v. i < v) z h) in
                (f.0, (omega (arith, f.1.0), (f.1.1.0, ap (λ v. get_or v i 0) q ∙ f.1.1.1)));
            covered = λ j h s. ⊎_elim
                (λ i. absurd (differ s (ap (near_of w back x) (ap (λ v. get_or at v 0) i ∙ sym ep) ∙ e)))
                (λ i. let f = l.covered j i s in
                (f.0, (subst (λ v. f.0 < v) (sym z) f.1.0, ap (λ v. get_or v f.0 0) q ∙ f.1.1)))
                (eq-or-lt_of_le (below_one j k h));
          }
      by true e =
          let z : m ≡ n + 1 = em ∙ ap (λ t. cond t (n + 1) n) e in
          let q : u ≡ set into n (p + x - back) = eu ∙ ap (λ t. cond t (set into n (p + x - back)) into) e in
          record {
            long = ap length q ∙ length-set into n (p + x - back) ∙ l.long;
            few = omega (arith, l.few);
            inside = λ i h. ⊎_elim
                (λ a. (k, (omega arith, (ap (near_of w back x) (sym ep) ∙ e, new q i a))))
                (λ a. let f = l.inside i a in (
                  f.0,
                  (
                    omega (arith, f.1.0),
                    (
                      f.1.1.0,
                      ap (λ v. get_or v i 0) q
                          ∙ kept into n (p + x - back) i a ∙ f.1.1.1,
                    ),
                  ),
                ))
                (eq-or-lt_of_le (below_one i n (subst (λ v. i < v) z h)));
            covered = λ j h s. ⊎_elim
                (λ i. (n, (omega arith, new q n refl ∙ ap (λ v. get_or at v 0 + x - back) (sym i))))
                (λ i. let f = l.covered j i s in (
                  f.0,
                  (
                    omega (arith, f.1.0),
                    ap (λ v. get_or v f.0 0) q
                        ∙ kept into n (p + x - back) f.0 f.1.0 ∙ f.1.1,
                  ),
                ))
                (eq-or-lt_of_le (below_one j k h));
          }
        where
          new : u ≡ set into n (p + x - back) → (i : ℕ) → i ≡ n → get_or u i 0 ≡ get_or at k 0 + x - back
          new q i a =
              ap (λ v. get_or v i 0) q ∙ ap (λ v. get_or (set into n (p + x - back)) v 0) a
              ∙ get_or-set_same into n (p + x - back) 0 (omega (arith, l.long, l.few))
              ∙ ap (λ v. v + x - back) ep
