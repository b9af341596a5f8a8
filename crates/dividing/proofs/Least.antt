-- The first number that passes.
use Prim.Native.Nat.{ℕ, zero, suc, ◌+◌, ◌-◌, ◌≤◌, ◌<◌}
use mathlib.Core.Path.{◌≡◌, refl, sym, ap, ◌∙◌, subst}
use mathlib.Core.Bool.{Bool, true, false, cond, false≢true}
use native.Mathlib.Omega.{arith}
use native.Mathlib.Nat.{not-suc-le-zero}
use borrow.Author.Tests.{lt-ltb, le-ltb, ltb-true, ltb-false, ne_eqb, eq-eqb}
use lib.Dec.{ltb, eqb}
use Rattle.std.specs.Prelude.{Option, Some, None, MatchOption, unwrap_or, is_some, is_none}
use Rattle.std.specs.Option.{IfSome}
use Rattle.dividing.specs.Least.{least_from, below}

module _ (p : ℕ → Bool) where
  pub least_few : (n i : ℕ) → least_from p i n ≤ i + n
  unfolding least_from
  least_few zero i = omega arith
  least_few (suc n) i = by (p i) (least_few n (suc i))
    where
      by : (b : Bool) → least_from p (suc i) n ≤ suc i + n → cond b i (least_from p (suc i) n) ≤ i + suc n
      by true h = omega arith
      by false h = omega (arith, h)

  -- the first that passes, by how many do not
  least_is : (d n i : ℕ) → d < n → p (i + d) ≡ true → ((k : ℕ) → i ≤ k → k < i + d → p k ≡ false)
      → least_from p i n ≡ i + d
  unfolding least_from
  least_is d zero i h e f = absurd (not-suc-le-zero h)
  least_is zero (suc n) i h e f =
      ap (λ b. cond b i (least_from p (suc i) n)) (ap p (here i) ∙ e) ∙ here i
    where
      here : (i : ℕ) → i ≡ i + 0
      here i = omega arith
  least_is (suc d) (suc n) i h e f =
      ap (λ b. cond b i (least_from p (suc i) n)) (f i (omega arith) (omega arith))
      ∙ least_is d n (suc i) (omega (arith, h)) (ap p (next i d) ∙ e)
      (λ k a b. f k (omega (arith, a)) (omega (arith, b)))
      ∙ next i d
    where
      next : (i d : ℕ) → suc i + d ≡ i + suc d
      next i d = omega arith

  least_none : (n i : ℕ) → ((k : ℕ) → i ≤ k → k < i + n → p k ≡ false) → least_from p i n ≡ i + n
  unfolding least_from
  least_none zero i f = omega arith
  least_none (suc n) i f =
      ap (λ b. cond b i (least_from p (suc i) n)) (f i (omega arith) (omega arith))
      ∙ least_none n (suc i) (λ k a b. f k (omega (arith, a)) (omega (arith, b)))
      ∙ next i n
    where
      next : (i n : ℕ) → suc i + n ≡ i + suc n
      next i n = omega arith

  -- what a search of the numbers from one on finds
  pub found_least : (start end : ℕ) (r : Option ℕ)
      → MatchOption r ((k : ℕ) → start ≤ k → k < end → p k ≡ false)
      (λ i. (start ≤ i) × (i < end) × (p i ≡ true) × ((k : ℕ) → start ≤ k → k < i → p k ≡ false))
      → r ≡ below end (least_from p start (end - start))
  unfolding below
  found_least start end None f =
      let q = least_none (end - start) start (λ k a b. f k a (omega (arith, a, b))) in
      sym (ap (λ b. cond b (Some (least_from p start (end - start))) None)
      (le-ltb (least_from p start (end - start)) end (omega (arith, q))))
  found_least start end (Some i) f =
      let n = more start i f.0 in
      let q = least_is (i - start) (end - start) start (omega (arith, f.0, f.1)) (ap p (sym n) ∙ f.2)
      (λ k a b. f.3 k a (omega (arith, b, n))) ∙ sym n in
      ap Some (sym q)
      ∙ sym (ap (λ b. cond b (Some (least_from p start (end - start))) None)
      (lt-ltb (least_from p start (end - start)) end (omega (arith, q, f.1))))
    where
      more : (start i : ℕ) → start ≤ i → i ≡ start + (i - start)
      more start i h = omega arith

-- a number below the end, or none: which of the two it is
module _ (end n : ℕ) where
  pub some_below : (i : ℕ) → Some i ≡ below end n → (i ≡ n) × (i < end)
  unfolding below
  some_below i e = by (ltb n end) refl e
    where
      by : (b : Bool) → ltb n end ≡ b → Some i ≡ cond b (Some n) None → (i ≡ n) × (i < end)
      by true t q =
          let m = sym (subst (λ (r : Option ℕ). IfSome r (λ m. m ≡ i)) q refl) in
          let z = ltb-true n end t in (m, omega (arith, m, z))
      by false t q = absurd (false≢true (sym (ap is_some q)))

  pub none_below : None ≡ below end n → end ≤ n
  unfolding below
  none_below e = by (ltb n end) refl e
    where
      by : (b : Bool) → ltb n end ≡ b → None ≡ cond b (Some n) None → end ≤ n
      by true t q = absurd (false≢true (ap is_some q))
      by false t q = ltb-false n end t

  pub is_some_below : (r : Option ℕ) → r ≡ below end n → is_some r ≡ ltb n end
  unfolding below
  is_some_below r e = ap is_some e ∙ by (ltb n end)
    where
      by : (b : Bool) → is_some (cond b (Some n) None) ≡ b
      by true = refl
      by false = refl

  pub is_none_below : n ≤ end → (r : Option ℕ) → r ≡ below end n → is_none r ≡ eqb n end
  unfolding below
  is_none_below h r e = ap is_none e ∙ by (ltb n end) refl
    where
      by : (b : Bool) → ltb n end ≡ b → is_none (cond b (Some n) None) ≡ eqb n end
      by true t = let z = ltb-true n end t in sym (ne_eqb n end (omega (arith, z)))
      by false t = let z = ltb-false n end t in sym (eq-eqb n end (omega (arith, z, h)))

-- the number again, where none stands for the end
pub or_end : (end n : ℕ) (r : Option ℕ) → r ≡ below end n → n ≤ end → unwrap_or r end ≡ n
unfolding below
or_end end n r e h = ap (λ (r : Option ℕ). unwrap_or r end) e ∙ by (ltb n end) refl
  where
    by : (b : Bool) → ltb n end ≡ b → unwrap_or (cond b (Some n) None) end ≡ n
    by true t = refl
    by false t = let z = ltb-false n end t in omega (arith, z, h)

-- ---- a choice whose test is known
pub cond_yes : {A : Type 0} (b : Bool) (x y : A) → b ≡ true → cond b x y ≡ x
cond_yes b x y e = ap (λ t. cond t x y) e

pub cond_no : {A : Type 0} (b : Bool) (x y : A) → b ≡ false → cond b x y ≡ y
cond_no b x y e = ap (λ t. cond t x y) e
