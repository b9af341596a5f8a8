-- Demand 1 where SPLIT is among the answers: it has an offset, so that the tests settle the number.
-- The check of a chain is such a call, and a chained run waits on it.
use Prim.Native.Nat.{ℕ}
use mathlib.Core.Path.{◌≡◌, refl, sym, ap, ◌∙◌}
use mathlib.Core.Bool.{Bool, true, false, not, cond}
use mathlib.Core.List.{List, [], ◌∷◌, ◌++◌}
use native.Mathlib.Omega.{arith}
use borrow.Author.Tests.{eqb-true, ne_eqb}
use lib.Dec.{lit≤}
use Rattle.answer.specs.declared.Told.{Told}
use Rattle.answer.specs.Answer.{told, told_refusal, plain, is_done}
use Rattle.answer.specs.Refuse.{Test, refuse}
use Rattle.answer.specs.Lent.{if_done, unless_refused}
use Rattle.answer.proofs.Order.{Numbered, number_of, exactly, done_exactly}
use Rattle.answer.proofs.Lent.{in_parts}
use Rattle.element.specs.Descriptor.{shape_in}
use Rattle.morphology.specs.Check.{Verdict, Taken, Split, check_of}
use Rattle.morphology.specs.Worked.{taken_by}
use Rattle.faults.specs.Verdicts.{answer_of}
use Rattle.chain.specs.Reading.{check_tests, links_in, checked}
use Rattle.chain.proofs.Checking.{check_numbered}
use Rattle.demands.specs.Demands.{ExactlyNumbered, Kept}
use Rattle.demands.specs.Chains.{split_tests}
use Rattle.demands.proofs.Laws.{first_some}

-- ---- an answer without its offset
unfoldable pub bare : Told → Told
bare t = plain t.number

pub bare_refuse : (ts : List Test) (after : Told) → bare (refuse ts after) ≡ refuse ts (bare after)
unfolding plain bare
bare_refuse [] after = refl
bare_refuse ((true, n) ∷ ts) after = refl
bare_refuse ((false, n) ∷ ts) after = bare_refuse ts after

pub bare_waits : (first after : Told) → bare (if_done first after) ≡ if_done (bare first) (bare after)
unfolding plain bare
bare_waits first after = by (is_done first)
  where
    by : (b : Bool) → bare (cond b after first) ≡ cond b (bare after) (bare first)
    by true = refl
    by false = refl

pub bare_done : bare (plain 0) ≡ plain 0
unfolding plain bare
bare_done = refl

-- ---- all but SPLIT have dx 0 and dy 0
abbrev pub NoOffset : Told → Type 0
NoOffset t = (t.number ≡ 7 → ⊥) → t ≡ plain t.number

pub refuse_plain : (ts : List Test) (after : Told) → NoOffset after → NoOffset (refuse ts after)
unfolding plain
refuse_plain [] after p = p
refuse_plain ((true, n) ∷ ts) after p = λ s. refl
refuse_plain ((false, n) ∷ ts) after p = refuse_plain ts after p

pub waits_plain : (first after : Told) → NoOffset first → NoOffset after → NoOffset (if_done first after)
waits_plain first after p q = by (is_done first)
  where
    by : (b : Bool) → NoOffset (cond b after first)
    by true = q
    by false = p

pub done_plain : NoOffset (plain 0)
unfolding plain
done_plain = λ s. refl

-- ---- the demand, of an answer whose number is that of the tests
pub both_numbered : (ts us : List Test) → Numbered ts → Numbered us → Numbered (ts ++ us)
both_numbered [] us a b = b
both_numbered (t ∷ ts) us a b = (a.0, both_numbered ts us a.1 b)

module _ (ts : List Test) (t : Told) (some : Numbered ts) (b : bare t ≡ refuse ts (plain 0)) where
  number_is : (n : ℕ) → refuse ts (plain 0) ≡ plain n → t.number ≡ n
  unfolding bare
  number_is n e = number_of t.number n (b ∙ e)

  pub numbered_exactly : NoOffset t → ExactlyNumbered ts t
  unfolding bare plain
  numbered_exactly p =
      record {
        refused =
            λ n h. (λ e. (exactly ts n h).0 (sym b ∙ ap plain e), λ f. number_is n ((exactly ts n h).1 f));
        done = (
          λ e. (done_exactly ts some).0 (sym b ∙ ap bare e),
          λ f. let z = number_is 0 ((done_exactly ts some).1 f) in p (λ s. omega arith) ∙ ap plain z,
        );
        offset = p;
      }

  pub numbered_kept : (before after made : List ℕ) → after ≡ unless_refused t before made
      → Kept ts before after
  unfolding unless_refused
  numbered_kept before after made e n f =
      let s = first_some ts n some f in
      let z = number_is n ((exactly ts n s).1 f) in
      e ∙ ap (λ b. cond b made before) (ne_eqb t.number 0 (λ q. omega arith))

-- ---- the check of a chain
bare_verdict : (v : Verdict) → bare (told (answer_of v)) ≡ refuse ((not (taken_by v), 7) ∷ []) (plain 0)
unfolding plain bare told answer_of taken_by told_refusal
bare_verdict Taken = refl
bare_verdict (Split x y) = refl

verdict_plain : (v : Verdict) → NoOffset (told (answer_of v))
unfolding plain told answer_of told_refusal
verdict_plain Taken = λ s. refl
verdict_plain (Split x y) = λ s. absurd (s refl)

module _ (element : List ℕ) (k : ℕ) (chain : List ℕ) where
  abbrev verdict : Verdict
  verdict = check_of (shape_in element) (links_in k chain)

  pub split_numbered : Numbered (split_tests element k chain)
  split_numbered = both_numbered (check_tests element k chain) _ (check_numbered element k chain)
      (lit≤ tt, tt)

  pub check_bare : bare (checked element k chain) ≡ refuse (split_tests element k chain) (plain 0)
  unfolding checked
  check_bare =
      bare_refuse (check_tests element k chain) (told (answer_of verdict))
      ∙ ap (refuse (check_tests element k chain)) (bare_verdict verdict)
      ∙ in_parts (check_tests element k chain) _ (plain 0)

  pub check_plain : NoOffset (checked element k chain)
  unfolding checked
  check_plain = refuse_plain (check_tests element k chain) _ (verdict_plain verdict)

  -- its answer, where it is done
  pub check_done : is_done (checked element k chain) ≡ true → checked element k chain ≡ plain 0
  check_done e =
      let z = eqb-true (checked element k chain).number 0 e in
      check_plain (λ s. omega arith) ∙ ap plain z
