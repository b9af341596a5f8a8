-- The one lemma of refusals in order.
use Prim.Native.Nat.{ℕ, ◌<◌}
use mathlib.Core.Path.{◌≡◌, refl, ap, ◌∙◌, subst}
use mathlib.Core.Bool.{true, false, cond}
use mathlib.Core.List.{List, [], ◌∷◌}
use mathlib.Core.Logic.{◌⊎◌, inl, inr, ⊎_elim, ◌↔◌}
use native.Mathlib.Omega.{arith}
use borrow.Author.Tests.{eqb-true}
use Rattle.answer.specs.declared.Told.{Told}
use Rattle.answer.specs.Answer.{plain, is_done}
use Rattle.answer.specs.Refuse.{Test, refuse, FirstHolds, here, later, NoneHolds, end, next}

-- no test holds, and the answer is what follows;
-- or some test is the first to hold, and the answer is its number
abbrev Outcome : List Test → Told → Type 0
Outcome ts after =
    (NoneHolds ts × (refuse ts after ≡ after)) ⊎ ((n : ℕ) × (FirstHolds ts n × (refuse ts after ≡ plain n)))

pub refused : (ts : List Test) (after : Told) → Outcome ts after
refused [] after = inl (end, refl)
refused ((true, n) ∷ ts) after = inr (n, (here, refl))
refused ((false, m) ∷ ts) after =
    ⊎_elim (λ o. inl (next o.0, o.1)) (λ o. inr (o.0, (later o.1.0, o.1.1))) (refused ts after)

pub number_of : (m n : ℕ) → plain m ≡ plain n → m ≡ n
unfolding plain
number_of m n e = ap (λ (t : Told). t.number) e

first_given : {ts : List Test} {n : ℕ} (after : Told) → FirstHolds ts n → refuse ts after ≡ plain n
first_given after here = refl
first_given after (later f) = first_given after f

pub none_given : {ts : List Test} (after : Told) → NoneHolds ts → refuse ts after ≡ after
none_given after end = refl
none_given after (next f) = none_given after f

-- a number is given exactly when its condition holds and none before it does
given_first : (ts : List Test) (n : ℕ) → 0 < n → refuse ts (plain 0) ≡ plain n → FirstHolds ts n
given_first [] n some e = let z = number_of 0 n e in absurd (omega arith)
given_first ((true, m) ∷ ts) n some e =
    subst (λ (k : ℕ). FirstHolds ((true, m) ∷ ts) k) (number_of m n e) here
given_first ((false, m) ∷ ts) n some e = later (given_first ts n some e)

pub exactly : (ts : List Test) (n : ℕ) → 0 < n → (refuse ts (plain 0) ≡ plain n) ↔ FirstHolds ts n
exactly ts n some = (given_first ts n some, first_given (plain 0))

-- and done is answered exactly when no condition holds, since no refusal has the number 0
abbrev pub Numbered : List Test → Type 0
Numbered [] = Unit {0}
Numbered (t ∷ ts) = (0 < t.1) × Numbered ts

given_none : (ts : List Test) → Numbered ts → refuse ts (plain 0) ≡ plain 0 → NoneHolds ts
given_none [] some e = end
given_none ((true, m) ∷ ts) some e = let z = number_of m 0 e in absurd (omega (arith, some.0))
given_none ((false, m) ∷ ts) some e = next (given_none ts some.1 e)

pub done_exactly : (ts : List Test) → Numbered ts → (refuse ts (plain 0) ≡ plain 0) ↔ NoneHolds ts
done_exactly ts some = (given_none ts some, none_given (plain 0))

-- the same as a fact on each test
abbrev pub NoneOf : List Test → Type 0
NoneOf [] = Unit {0}
NoneOf (t ∷ ts) = (t.0 ≡ false) × NoneOf ts

-- where the answer is done no test held, and what follows is done too
pub passed_all : (ts : List Test) (after : Told) → Numbered ts → is_done (refuse ts after) ≡ true
    → NoneOf ts × (is_done after ≡ true)
unfolding plain
passed_all [] after some e = (tt, e)
passed_all ((true, n) ∷ ts) after some e = let z = eqb-true n 0 e in absurd (omega (arith, some.0))
passed_all ((false, n) ∷ ts) after some e = let p = passed_all ts after some.1 e in ((refl, p.0), p.1)

pub none_of : (ts : List Test) → Numbered ts → is_done (refuse ts (plain 0)) ≡ true → NoneOf ts
none_of ts some e = (passed_all ts (plain 0) some e).0

pub none_refuses : (ts : List Test) (after : Told) → NoneOf ts → refuse ts after ≡ after
none_refuses [] after none = refl
none_refuses ((b, n) ∷ ts) after none =
    ap (λ b. cond b (plain n) (refuse ts after)) none.0 ∙ none_refuses ts after none.1
