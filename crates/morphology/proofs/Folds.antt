-- What is joined over the cells of an element, by its universal property:
-- once for the least and for the greatest.
use Prim.Native.Nat.{ℕ, zero, suc, ◌≤◌, ◌<◌, min, max}
use mathlib.Core.Path.{◌≡◌, refl, sym, ap₂, ◌∙◌, subst}
use mathlib.Core.Bool.{Bool, true, false, ◌&&◌, cond}
use mathlib.Core.Logic.{◌↔◌, ◌⊎◌, inl, inr, ⊎_elim}
use native.Mathlib.Nat.{not-suc-le-zero, le_of_suc-le-suc, eq-or-lt_of_le}
use native.Mathlib.Omega.{arith}
use lib.Dec.{T}
use Rattle.element.specs.Shape.{Shape}
use Rattle.morphology.specs.Operations.{fold, gather}
use Rattle.basics.proofs.Truth.{cond_holds, cond_taken}

-- P holds of what is joined exactly where it holds of both parts
pub record Shared {A : Type 0} (join : A → A → A) (P : A → Type 0) : Type 0 where
  pub both : {a b : A} → P a → P b → P (join a b)
  pub parts : {a b : A} → P (join a b) → P a × P b

pub least_shared : (v : ℕ) → Shared min (λ a. v ≤ a)
least_shared v = record { both = λ p q. omega arith; parts = λ h. (omega arith, omega arith) }

pub most_shared : (v : ℕ) → Shared max (λ a. a ≤ v)
most_shared v = record { both = λ p q. omega arith; parts = λ h. (omega arith, omega arith) }

module _ {A : Type 0} (join : A → A → A) (P : A → Type 0) (S : Shared join P) (z : A) where
  fold_holds : (f : ℕ → A) (n : ℕ) → P z → ((i : ℕ) → i < n → P (f i)) → P (fold join z f n)
  unfolding fold
  fold_holds f zero h each = h
  fold_holds f (suc n) h each =
      S.both (fold_holds f n h (λ i l. each i (omega arith))) (each n (omega arith))

  fold_parts : (f : ℕ → A) (n : ℕ) → P (fold join z f n) → P z × ((i : ℕ) → i < n → P (f i))
  unfolding fold
  fold_parts f zero h = (h, λ i l. absurd (not-suc-le-zero l))
  fold_parts f (suc n) h =
      let s = S.parts h in
      let p = fold_parts f n s.0 in (
        p.0,
        λ i l. ⊎_elim (λ e. subst (λ k. P (f k)) (sym e) s.1)
            (p.1 i) (eq-or-lt_of_le (le_of_suc-le-suc l)),
      )

  module _ (B : Shape) (taken : ℕ → ℕ → Bool) (value : ℕ → ℕ → A) where
    -- P holds of what is gathered exactly where it holds of z and of each value that is taken
    pub gathered : P (gather join z B taken value)
        ↔ (P z × ((c r : ℕ) → c < B.wide → r < B.high → T (taken c r) → P (value c r)))
    unfolding gather
    gathered = (
      λ h.
          let rows = fold_parts _ B.high h in (
            rows.0,
            λ c r lc lr t. cond_taken P (taken c r)
                (value c r) z t ((fold_parts _ B.wide (rows.1 r lr)).1 c lc),
          ),
      λ h. fold_holds _ B.high h.0 (λ r lr. fold_holds _ B.wide h.0
          (λ c lc. cond_holds P (taken c r) (value c r) z (h.1 c r lc lr) (λ t. h.0))),
    )

-- where a join is one of its parts, what is gathered is z or the value of a cell that is taken
pub record FoundCell {A : Type 0} (B : Shape) (taken : ℕ → ℕ → Bool)
    (value : ℕ → ℕ → A) (a : A) : Type 0 where
  pub column : ℕ
  pub row : ℕ
  pub in_width : column < B.wide
  pub in_height : row < B.high
  pub is_taken : T (taken column row)
  pub is : a ≡ value column row

module _ {A : Type 0} (join : A → A → A) (one_of_lem : (a b : A) → (join a b ≡ a) ⊎ (join a b ≡ b))
    (z : A) where
  fold_found : (f : ℕ → A) (n : ℕ) → (fold join z f n ≡ z) ⊎ ((i : ℕ) × (i < n) × (fold join z f n ≡ f i))
  unfolding fold
  fold_found f zero = inl refl
  fold_found f (suc n) =
      ⊎_elim (λ e. ⊎_elim (λ k. inl (e ∙ k)) (λ k. inr (k.0, omega arith, e ∙ k.2)) (fold_found f n))
      (λ e. inr (n, omega arith, e)) (one_of_lem (fold join z f n) (f n))

  pub gather_found : (B : Shape) (taken : ℕ → ℕ → Bool) (value : ℕ → ℕ → A)
      → (gather join z B taken value ≡ z) ⊎ FoundCell B taken value (gather join z B taken value)
  unfolding gather
  gather_found B taken value =
      ⊎_elim inl (λ r.
      ⊎_elim (λ e. inl (r.2 ∙ e)) (λ c.
      ⊎_elim (λ e. inl (r.2 ∙ (c.2 ∙ e)))
      (λ t. inr (record {
        column = c.0;
        row = r.0;
        in_width = c.1;
        in_height = r.1;
        is_taken = t.0;
        is = r.2 ∙ (c.2 ∙ t.1);
      }))
      (chosen (taken c.0 r.0) (value c.0 r.0)))
      (fold_found (λ c. cond (taken c r.0) (value c r.0) z) B.wide))
      (fold_found (λ r. fold join z (λ c. cond (taken c r) (value c r) z) B.wide) B.high)
    where
      chosen : (b : Bool) (a : A) → (cond b a z ≡ z) ⊎ (T b × (cond b a z ≡ a))
      chosen true a = inr (tt, refl)
      chosen false a = inl refl

-- a function that carries one join to another carries what is gathered
module _ {A C : Type 0} (join : A → A → A) (join' : C → C → C) (h : A → C)
    (carries : (a b : A) → h (join a b) ≡ join' (h a) (h b)) (z : A) where
  fold_carried : (f : ℕ → A) (g : ℕ → C) → ((i : ℕ) → h (f i) ≡ g i) → (n : ℕ)
      → h (fold join z f n) ≡ fold join' (h z) g n
  unfolding fold
  fold_carried f g same zero = refl
  fold_carried f g same (suc n) =
      carries (fold join z f n) (f n) ∙ ap₂ join' (fold_carried f g same n) (same n)

  pub gather_carried : (B : Shape) (taken : ℕ → ℕ → Bool) (value : ℕ → ℕ → A)
      → h (gather join z B taken value) ≡ gather join' (h z) B taken (λ c r. h (value c r))
  unfolding gather
  gather_carried B taken value =
      fold_carried _ _ (λ r. fold_carried _ _ (λ c. carried (taken c r) (value c r)) B.wide) B.high
    where
      carried : (b : Bool) (a : A) → h (cond b a z) ≡ cond b (h a) (h z)
      carried true a = refl
      carried false a = refl

-- to leave a cell out is to take z for it
pub gather_without : {A : Type 0} (join : A → A → A) (z : A) (B : Shape) (taken kept : ℕ → ℕ → Bool)
    (value : ℕ → ℕ → A)
    → gather join z B (λ c r. taken c r && kept c r) value
    ≡ gather join z B taken (λ c r. cond (kept c r) (value c r) z)
unfolding gather
gather_without {A} join z B taken kept value =
    carried _ _ (λ r. carried _ _ (λ c. without (taken c r) (kept c r) (value c r)) B.wide) B.high
  where
    carried : (f g : ℕ → A) → ((i : ℕ) → f i ≡ g i) → (n : ℕ) → fold join z f n ≡ fold join z g n
    carried = fold_carried join join (λ a. a) (λ a b. refl) z

    without : (t k : Bool) (a : A) → cond (t && k) a z ≡ cond t (cond k a z) z
    without true k a = refl
    without false k a = refl
