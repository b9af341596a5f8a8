-- What an outcome that the contract of `chainfor::find_chain` allows means.
use Prim.Native.Nat.{ℕ, zero, suc, ◌+◌, ◌≤◌, ◌<◌}
use mathlib.Core.Path.{◌≡◌, refl, sym, ap, ap₂, ◌∙◌}
use mathlib.Core.Bool.{Bool, true, false, cond, not, ◌&&◌, false≢true}
use mathlib.Core.List.{List, [], ◌∷◌, ◌++◌}
use mathlib.Core.Logic.{◌⊎◌, inl, inr, ⊎_elim}
use native.Mathlib.Omega.{arith}
use borrow.Author.Tests.{ltb-true}
use lib.Dec.{ltb}
use lib.ListN.{length, take, drop}
use lib.Seq.{take_at}
use Rattle.answer.specs.declared.Told.{Told}
use Rattle.std.specs.Prelude.{Result, Ok, Err}
use Rattle.std.proofs.lemmas.Result.{IfOk-at_ok}
use Rattle.answer.specs.declared.Refusal.TheVariants.{NoChain}
use Rattle.answer.specs.Answer.{told, told_refusal, plain, is_done}
use Rattle.answer.specs.Refuse.{refuse}
use Rattle.answer.specs.Lent.{unless_refused}
use Rattle.answer.proofs.Order.{refused, done_exactly}
use Rattle.answer.proofs.Lent.{not_done, all_done}
use Rattle.basics.specs.Bytes.{Bytes}
use Rattle.element.specs.Shape.{Shape}
use Rattle.element.specs.Descriptor.{well_made, shape_in}
use Rattle.faults.specs.Verdicts.{answer_of}
use Rattle.morphology.specs.Step.{Place}
use Rattle.morphology.specs.Chain.{Chained}
use Rattle.morphology.specs.Check.{Verdict, Taken, Split, check_of}
use Rattle.morphology.proofs.Places.{FaultAt, SaysAt}
use Rattle.morphology.proofs.Scan.{check_says_at}
use Rattle.chain.specs.Reading.{check_tests, links_in, checked}
use Rattle.chain.proofs.Checking.{well_chained, check_number, check_numbered}
use Rattle.hulls.specs.Hull.{hull_in}
use Rattle.chainfor.specs.declared.Found.{Found}
use Rattle.chainfor.specs.declared.Unfound.{Unfound}
use Rattle.chainfor.specs.declared.Unfound.TheVariants.{Refused}
use Rattle.candidates.specs.Candidates.{try_no, links_of, chain_by}
use Rattle.dividing.specs.Least.{least_from}
use Rattle.chainfor.specs.Find.{tries, accepts, first_try, is_tried, sum_way, sum_links, sum_chain, sums}
use Rattle.chainfor.specs.Find.{within, is_found, chain_for, links_for, find_tests, find_answer, gave_up}
use Rattle.chainfor.specs.Find.{told_found, gives_up, FoundAs}
use Rattle.chainfor.specs.Find.{is_searched, chain_left}
use Rattle.chainfor.proofs.Finding.{find_done, chain_few}
use Rattle.chainlaw.specs.Boxes.{Filled, InReach}
use Rattle.chainlaw.proofs.Found.{box_found}
use Rattle.chainlaw.proofs.None.{accepted_within}

-- ---- an accepted chain
module _ (d : List ℕ) (k : ℕ) (c : List ℕ) where
  E : Shape
  E = shape_in d

  -- done, or refused, by what the check met
  met : (checked d k c ≡ told (answer_of (check_of (shape_in d) (links_in k c)))
      × (refuse (check_tests d k c) (plain 0) ≡ plain 0))
      ⊎ ((n : ℕ) × ((n ≡ 4) ⊎ (n ≡ 6)) × (checked d k c ≡ plain n))
  unfolding checked
  met =
      ⊎_elim (λ o. inl (o.1, (done_exactly (check_tests d k c) (check_numbered d k c)).1 o.0))
      (λ o. inr (o.0, check_number d k c o.0 o.1.0, o.1.1))
      (refused (check_tests d k c) (told (answer_of (check_of (shape_in d) (links_in k c)))))

  six : (n : ℕ) → (n ≡ 4) ⊎ (n ≡ 6) → is_done (plain n) ≡ true → ⊥
  six n o e = ⊎_elim (λ q. false≢true (sym (not_done n (omega (arith, q))) ∙ e))
      (λ q. false≢true (sym (not_done n (omega (arith, q))) ∙ e)) o

  pub done_plain : is_done (checked d k c) ≡ true → checked d k c ≡ plain 0
  unfolding answer_of told told_refusal
  done_plain e =
      ⊎_elim (λ o. by (check_of (shape_in d) (links_in k c)) o.0)
      (λ o. absurd (six o.0 o.1 (sym (ap is_done o.2) ∙ e))) met
    where
      by : (v : Verdict) → checked d k c ≡ told (answer_of v) → checked d k c ≡ plain 0
      by Taken q = q
      by (Split x y) q = absurd (false≢true (sym (ap is_done q) ∙ e))

  -- it has its limits, and no offset is at fault
  pub faultless : checked d k c ≡ plain 0
      → Chained (shape_in d) (links_in k c) × ((e : Place) → ¬ FaultAt (shape_in d) (links_in k c) e)
  unfolding answer_of told told_refusal
  faultless z =
      let e = ap is_done z ∙ all_done in
      ⊎_elim (λ o.
      let C = well_chained d c k o.1 in
      (C, by (check_of (shape_in d) (links_in k c)) o.0 e (check_says_at (shape_in d) (links_in k c) C)))
      (λ o. absurd (six o.0 o.1 (sym (ap is_done o.2) ∙ e))) met
    where
      by : (v : Verdict) → checked d k c ≡ told (answer_of v) → is_done (checked d k c) ≡ true
          → SaysAt (shape_in d) (links_in k c) v → (e : Place) → ¬ FaultAt (shape_in d) (links_in k c) e
      by Taken q e h = h
      by (Split x y) q e h = absurd (false≢true (sym (ap is_done q) ∙ e))

-- the first that passes does
least_passes : (p : ℕ → Bool) (n i : ℕ) → least_from p i n < i + n → p (least_from p i n) ≡ true
unfolding least_from
least_passes p zero i h = absurd (omega (arith, h))
least_passes p (suc n) i h = by (p i) refl h (least_passes p n (suc i))
  where
    by : (b : Bool) → p i ≡ b → cond b i (least_from p (suc i) n) < i + suc n
        → (least_from p (suc i) n < suc i + n → p (least_from p (suc i) n) ≡ true)
        → p (cond b i (least_from p (suc i) n)) ≡ true
    by true q l f = q
    by false q l f = f (omega (arith, l))

-- what was found is accepted: a candidate, or else a sum
found_accepted : (d : List ℕ) → is_searched d ≡ true → is_done (checked d (links_for d) (chain_for d)) ≡ true
unfolding is_searched links_for chain_for is_tried first_try accepts sums
found_accepted d e = by (is_tried d) refl e
  where
    candidate : is_tried d ≡ true
        → is_done (checked d (links_of (hull_in d) (try_no (first_try d (hull_in d))))
        (chain_by (hull_in d) (try_no (first_try d (hull_in d))))) ≡ true
    candidate q =
        least_passes (accepts d (hull_in d)) tries 0
        (ltb-true (least_from (accepts d (hull_in d)) 0 tries) tries q)

    by : (b : Bool) → is_tried d ≡ b → cond b true (sums d (sum_way d)) ≡ true
        → is_done (checked d (cond b (links_of (hull_in d) (try_no (first_try d (hull_in d))))
        (sum_links (sum_way d)))
        (cond b (chain_by (hull_in d) (try_no (first_try d (hull_in d)))) (sum_chain (sum_way d)))) ≡ true
    by true q s = candidate q
    by false q s = s

-- ---- what the tests tell
tell : (m f s : Bool) (n : ℕ) → refuse ((not m, 4) ∷ (not f, 18) ∷ (s, 8) ∷ []) (plain 0) ≡ plain n
    → (n ≡ 0 → (m ≡ true) × (f ≡ true)) × (n ≡ 18 → (m ≡ true) × (f ≡ false))
unfolding plain
tell true true true n e =
    let z : 8 ≡ n = ap (λ (t : Told). t.number) e in
    (λ q. absurd (omega (arith, z, q)), λ q. absurd (omega (arith, z, q)))
tell true true false n e =
    let z : 0 ≡ n = ap (λ (t : Told). t.number) e in (λ q. (refl, refl), λ q. absurd (omega (arith, z, q)))
tell true false s n e =
    let z : 18 ≡ n = ap (λ (t : Told). t.number) e in
    (λ q. absurd (omega (arith, z, q)), λ q. (refl, refl))
tell false f s n e =
    let z : 4 ≡ n = ap (λ (t : Told). t.number) e in
    (λ q. absurd (omega (arith, z, q)), λ q. absurd (omega (arith, z, q)))

module _ (d t u : List ℕ) (r : Result Found Unfound) (f : FoundAs d (length t) r)
    (w : u ≡ chain_left d t) where
  said : (n : ℕ) → told_found r ≡ plain n
      → (n ≡ 0 → (well_made d ≡ true) × (is_found d ≡ true)) × (n ≡ 18
      → (well_made d ≡ true) × (is_found d ≡ false))
  unfolding find_answer find_tests
  said n e = tell (well_made d) (is_found d) (ltb (length t) (length (chain_for d))) n (sym f.answered ∙ e)

  split_and : (a b : Bool) → (a && b) ≡ true → (a ≡ true) × (b ≡ true)
  split_and true b e = (refl, e)
  split_and false b e = absurd (false≢true e)

  -- what is written is a chain that the check accepts
  pub written_accepted : (x : Found) → r ≡ Ok x → checked d x.links (take x.bytes u) ≡ plain 0
  unfolding is_found chain_left unless_refused told_found
  written_accepted x o =
      let e : told_found r ≡ plain 0 = ap (λ (r : Result Found Unfound). told_found r) o in
      let q = sym f.answered ∙ e in
      let so = IfOk-at_ok (λ (x : Found). (x.links ≡ links_for d) × (x.bytes ≡ length (chain_for d)))
      o f.found in
      let done = ap is_done q ∙ all_done in
      let v : u ≡ chain_for d ++ drop (length (chain_for d)) t =
      w ∙ ap (λ b. cond b (chain_for d ++ drop (length (chain_for d)) t) t) done in
      let i = split_and (within (hull_in d)) (is_searched d) ((said 0 e).0 refl).1 in
      let passed = found_accepted d i.1 in
      λ i. (ap₂ (λ k c. checked d k c) so.0
      (ap₂ take so.1 v ∙ take_at (chain_for d) (drop (length (chain_for d)) t) (length (chain_for d)) refl)
      ∙ done_plain d (links_for d) (chain_for d) passed) i

  -- where the call is refused as NOCHAIN, and so the search did not give up, there is none
  pub none_exists : Bytes d → r ≡ Err (Refused NoChain)
      → (k : ℕ) (c : List ℕ) → checked d k c ≡ plain 0 → ⊥
  unfolding is_found gave_up told_found told_refusal gives_up
  none_exists bytes o k c a =
      let s = (said 18 (ap (λ (r : Result Found Unfound). told_found r) o)).1 refl in
      let g : gives_up r ≡ false = ap (λ (r : Result Found Unfound). gives_up r) o in
      let z = faultless d k c a in
      let h = accepted_within d bytes s.0 (links_in k c) z.0 z.1 in
      false≢true (sym g ∙ f.tried
      ∙ ap₂ (λ m n. m && n) s.0 (ap₂ (λ m n. m && not n) h
      (sym (ap (λ b. b && is_searched d) h) ∙ s.1)))

  -- a rectangle that can have a chain gets one, where there is room
  pub rectangle_found : Bytes d → well_made d ≡ true → (a b c e : ℕ) → Filled (shape_in d) a b c e
      → InReach (shape_in d) a b c e → 60 ≤ length t → told_found r ≡ plain 0
  rectangle_found bytes made a b c e F R long =
      f.answered
      ∙ find_done d (length t) made (box_found d bytes made a b c e F R) (omega
      (arith, (chain_few d).1, long))
