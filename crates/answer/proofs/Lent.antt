-- A lent buffer is as it was where the call is refused, and has what was made where it is done.
use Prim.Native.Nat.{ℕ, ◌<◌}
use mathlib.Core.Path.{◌≡◌, refl, sym, ap, ◌∙◌}
use mathlib.Core.Bool.{true, false, cond}
use mathlib.Core.List.{List, [], ◌∷◌, ◌++◌}
use native.Mathlib.Omega.{arith}
use borrow.Author.Tests.{ne_eqb}
use Rattle.answer.specs.declared.Told.{Told}
use Rattle.answer.specs.Answer.{plain, is_done}
use Rattle.answer.specs.Refuse.{Test, refuse, FirstHolds, here, later, NoneHolds, end, next}
use Rattle.answer.specs.Lent.{unless_refused, if_done}
use Rattle.answer.proofs.Order.{Numbered}

-- a refusal has another number than 0
pub not_done : (n : ℕ) → 0 < n → is_done (plain n) ≡ false
unfolding plain
not_done n h = ne_eqb n 0 (λ e. omega arith)

pub all_done : is_done (plain 0) ≡ true
unfolding plain
all_done = refl

-- ---- a buffer by the answer, as the code finds it
module _ (was made : List ℕ) (given answer : Told) (e : answer ≡ given) where
  pub kept_by : is_done answer ≡ false → was ≡ unless_refused given was made
  unfolding unless_refused
  kept_by q = ap (λ b. cond b made was) (sym q ∙ ap is_done e)

  pub made_by_lem : (u : List ℕ) → is_done answer ≡ true → u ≡ made → u ≡ unless_refused given was made
  unfolding unless_refused
  made_by_lem u q m = m ∙ ap (λ b. cond b made was) (sym q ∙ ap is_done e)

-- a buffer that goes by an answer goes by what that answer is told as
pub as_told : {x : List ℕ} (t u : Told) (was made : List ℕ) → x ≡ unless_refused t was made → t ≡ u
    → x ≡ unless_refused u was made
as_told t u was made p q = p ∙ ap (λ (v : Told). unless_refused v was made) q

-- ---- a buffer by the tests
pub lent_kept : {ts : List Test} {n : ℕ} (was made : List ℕ) → Numbered ts → FirstHolds ts n
    → unless_refused (refuse ts (plain 0)) was made ≡ was
unfolding unless_refused
lent_kept was made some (here {n}) = ap (λ b. cond b made was) (not_done n some.0)
lent_kept was made some (later f) = lent_kept was made some.1 f

pub lent_made : {ts : List Test} (was made : List ℕ) → NoneHolds ts
    → unless_refused (refuse ts (plain 0)) was made ≡ made
unfolding unless_refused
lent_made was made end = ap (λ b. cond b made was) all_done
lent_made was made (next f) = lent_made was made f

-- ---- tests in two parts
pub in_parts : (ts us : List Test) (after : Told) → refuse ts (refuse us after) ≡ refuse (ts ++ us) after
in_parts [] us after = refl
in_parts (t ∷ ts) us after = ap (λ k. cond t.0 (plain t.1) k) (in_parts ts us after)

-- of which the second waits on the first
pub two_parts : (ts us : List Test) → Numbered ts
    → if_done (refuse ts (plain 0)) (refuse us (plain 0)) ≡ refuse (ts ++ us) (plain 0)
two_parts [] us some = ap (λ b. cond b (refuse us (plain 0)) (plain 0)) all_done
two_parts ((true, n) ∷ ts) us some = ap (λ b. cond b (refuse us (plain 0)) (plain n)) (not_done n some.0)
two_parts ((false, n) ∷ ts) us some = two_parts ts us some.1

pub none_holds : (ts : List Test) → Numbered ts → is_done (refuse ts (plain 0)) ≡ true → NoneHolds ts
none_holds [] some e = end
none_holds ((true, n) ∷ ts) some e =
    let q = not_done n some.0 in
    let z : ◌≡◌ {A = ℕ} 0 1 = cc in
    absurd (omega arith)
none_holds ((false, n) ∷ ts) some e = next (none_holds ts some.1 e)
