-- What is found, refusal by refusal.
use Prim.Native.Nat.{ℕ, ◌+◌, ◌-◌, ◌*◌, ◌/◌, ◌%◌, ◌≤◌, ◌<◌, min, max}
use mathlib.Core.Path.{◌≡◌, refl, sym, ap, ap₂, ◌∙◌, subst}
use mathlib.Core.Bool.{Bool, true, false, cond, not, ◌&&◌, false≢true}
use mathlib.Core.List.{List, ◌++◌}
use native.Mathlib.Omega.{arith}
use borrow.Author.Tests.{lt-ltb, le-ltb}
use lib.Dec.{leb, ltb, eqb}
use lib.ListN.{length, drop}
use Rattle.std.specs.Prelude.{Option, Some, None, is_some, Result, Ok, Err}
use Rattle.std.specs.Option.{IfSome}
use Rattle.std.proofs.lemmas.Result.{IfOk-weaker}
use Rattle.answer.specs.Answer.{plain, is_done}
use Rattle.answer.specs.Lent.{unless_refused}
use Rattle.answer.proofs.Lent.{not_done, all_done}
use Rattle.element.specs.declared.Element.{Element}
use Rattle.element.specs.Descriptor.{well_made, origin_column_of, origin_row_of}
use Rattle.element.specs.Record.{element_of}
use Rattle.hulls.specs.declared.Hull.{Hull}
use Rattle.candidates.specs.declared.Try.{Try}
use Rattle.chainfor.specs.declared.Found.{Found}
use Rattle.chainfor.specs.declared.Unfound.{Unfound}
use Rattle.hulls.specs.Hull.{hull_in}
use Rattle.hulls.proofs.Hulls.{rows_in_lem}
use Rattle.candidates.specs.Candidates.{try_no, needed, links_of, length_of, link_byte, chain_by}
use Rattle.dividing.specs.Least.{below}
use Rattle.dividing.proofs.Least.{cond_yes, cond_no}
use Rattle.takeapart.specs.declared.Way.{Way}
use Rattle.takeapart.specs.Sum.{walked}
use Rattle.chainfor.specs.Find.{tries, first_try, is_tried, sum_way, sum_links, sum_chain, sums}
use Rattle.chainfor.specs.Find.{is_searched, within, is_found, chain_for, links_for, find_tests, find_answer}
use Rattle.chainfor.specs.Find.{told_found, gives_up, gave_up, FoundAs, chain_left}
use Rattle.chainfor.specs.Steps.Summed.{sum_answer, SumAs, sum_left}
use Rattle.chainfor.proofs.Sums.{sum_few, sum_short}
use Rattle.basics.specs.Lists.{firsts, joined}
use Rattle.chainfor.proofs.Search.{sixty, chain_is, chain_length}

-- ---- the answer, by what was found
module _ (d : List ℕ) (room : ℕ) where
  pub find_unmade : well_made d ≡ false → find_answer d room ≡ plain 4
  unfolding find_answer find_tests
  find_unmade e = simp e

  pub find_none : well_made d ≡ true → is_found d ≡ false → find_answer d room ≡ plain 18
  unfolding find_answer find_tests
  find_none e f = simp (e, f)

  pub find_short : well_made d ≡ true → is_found d ≡ true → room < length (chain_for d)
      → find_answer d room ≡ plain 8
  unfolding find_answer find_tests
  find_short e f h = simp (e, f, lt-ltb room (length (chain_for d)) h)

  pub find_done : well_made d ≡ true → is_found d ≡ true → length (chain_for d) ≤ room
      → find_answer d room ≡ plain 0
  unfolding find_answer find_tests
  find_done e f h = simp (e, f, le-ltb room (length (chain_for d)) h)

  pub unmade_tried : well_made d ≡ false → false ≡ gave_up d
  unfolding gave_up
  unmade_tried e = simp e

-- ---- what was found, by the search
none : (b : Bool) → (b && false) ≡ false
none true = refl
none false = refl

module _ (d : List ℕ) (H : Hull) (eh : H ≡ hull_in d) where
  pub far : (b : Bool) → within H ≡ b → within (hull_in d) ≡ b
  far b e = sym (ap within eh) ∙ e

  pub far_within : within H ≡ false → (is_found d ≡ false) × (false ≡ gave_up d)
  unfolding is_found gave_up
  far_within e = (
    ap (λ b. b && is_searched d) (far false e),
    sym (ap (λ b. well_made d && (b && not (is_searched d))) (far false e) ∙ none (well_made d)),
  )

  -- the candidate that the search found, or none
  tried_is : (r : Option ℕ) → r ≡ below tries (first_try d H) → is_some r ≡ is_tried d
  unfolding is_tried below
  tried_is r e =
      ap is_some e ∙ by (ltb (first_try d H) tries) ∙ ap (λ (h : Hull). ltb (first_try d h) tries) eh
    where
      by : (b : Bool) → is_some (cond b (Some (first_try d H)) None) ≡ b
      by true = refl
      by false = refl

  pub tried_none : None ≡ below tries (first_try d H) → is_tried d ≡ false
  tried_none e = sym (tried_is None e)

  pub tried_some : (t : ℕ) → Some t ≡ below tries (first_try d H) → (t ≡ first_try d H) × (is_tried d ≡ true)
  unfolding below
  tried_some t e = (by (ltb (first_try d H) tries) e, sym (tried_is (Some t) e))
    where
      by : (b : Bool) → Some t ≡ cond b (Some (first_try d H)) None → t ≡ first_try d H
      by true q =
          sym (subst (λ (r : Option ℕ). IfSome r (λ n. n ≡ t)) q refl)
      by false q = absurd (false≢true (sym (ap is_some q)))

  pub near_found : within H ≡ true → is_tried d ≡ true → (is_found d ≡ true) × (false ≡ gave_up d)
  unfolding is_found gave_up is_searched
  near_found e t =
      let f = ap (λ b. cond b true (sums d (sum_way d))) t in (
        ap₂ (λ a b. a && b) (far true e) f,
        sym (ap₂ (λ a b. well_made d && (a && not b)) (far true e) f ∙ none (well_made d)),
      )

  -- the chain that is written
  module _ (t : ℕ) (c : Try) (et : t ≡ first_try d H) (ec : c ≡ try_no t)
      (some : is_tried d ≡ true) where
    pub links_found : (k : ℕ) → k ≡ links_of H c → k ≡ links_for d
    unfolding links_for
    links_found k e =
        e ∙ ap₂ (λ (h : Hull) (x : Try). links_of h x) eh (ec ∙ ap try_no (et ∙ ap (first_try d) eh))
        ∙ sym (cond_yes (is_tried d) _ (sum_links (sum_way d)) some)

    pub chain_found : (k m : ℕ) → k ≡ links_of H c → m ≡ length_of H c
        → joined (λ i. firsts (link_byte H c i) m) k ≡ chain_for d
    unfolding chain_for
    chain_found k m ek em =
        chain_is H c k m ek em ∙ ap₂ (λ (h : Hull) (x : Try). chain_by h x) eh (ec ∙ ap try_no (et
        ∙ ap (first_try d) eh))
        ∙ sym (cond_yes (is_tried d) _ (sum_chain (sum_way d)) some)

    pub length_found : (k m : ℕ) → k ≡ links_of H c → m ≡ length_of H c → k * m ≡ length (chain_for d)
    length_found k m ek em =
        ap₂ (λ a b. a * b) ek em ∙ sym (chain_length H c) ∙ ap length (sym (chain_is H c k m ek em)
        ∙ chain_found k m ek em)

-- ---- the outcome
module _ (d t : List ℕ) (u : Unfound) (n : ℕ) where
  pub refused_so : 0 < n → find_answer d (length t) ≡ plain n → told_found (Err u) ≡ plain n
      → gives_up (Err u) ≡ gave_up d → FoundAs d (length t) (Err u) × (t ≡ chain_left d t)
  unfolding chain_left unless_refused
  refused_so h e a g =
      let f = ap is_done e ∙ not_done n h in (
        record { answered = a ∙ sym e; found = tt; tried = g },
        sym (ap (λ q. cond q (chain_for d ++ drop (length (chain_for d)) t) t) f),
      )

module _ (d t u : List ℕ) (f : Found) where
  pub done_so : find_answer d (length t) ≡ plain 0 → f.links ≡ links_for d → f.bytes ≡ length (chain_for d)
      → false ≡ gave_up d → u ≡ chain_for d ++ drop (length (chain_for d)) t
      → FoundAs d (length t) (Ok f) × (u ≡ chain_left d t)
  unfolding chain_left unless_refused told_found gives_up
  done_so e l b g w =
      let f = ap is_done e ∙ all_done in (
        record { answered = sym e; found = (l, b); tried = g },
        w ∙ sym (ap (λ q. cond q (chain_for d ++ drop (length (chain_for d)) t) t) f),
      )

-- ---- how much there is at the most
links_few : (H : Hull) (c : Try) → links_of H c ≤ 5
unfolding links_of needed
links_few H c = by c.own
  where
    some : (a b e f : Bool) → cond a 1 (cond b 2 (cond e 3 (cond f 4 5))) ≤ 5
    some true b e f = omega arith
    some false true e f = omega arith
    some false false true f = omega arith
    some false false false true = omega arith
    some false false false false = omega arith

    by : (b : Bool) → cond b 1 (needed c.side (max H.across.span H.down.span)) ≤ 5
    by true = omega arith
    by false =
        let n = max H.across.span H.down.span in
        let m = c.side in
        some (leb n m) (leb n (2 * m)) (leb n (3 * m)) (leb n (4 * m))

side_few : (t : ℕ) → (try_no t).side ≤ 7
unfolding try_no
side_few t = by (eqb t 0) (eqb t 1)
  where
    by : (a b : Bool)
        → (cond {A = Try} a (record { side = 7; origin = 7; cut = 0; own = true })
        (cond b (record { side = 7; origin = 7; cut = 0; own = false })
        (record { side = 7 - (t - 2) / 7; origin = 7 - (t - 2) % 7; cut = 7 - (t - 2) % 7; own = false }))
        ).side ≤ 7
    by true b = omega arith
    by false true = omega arith
    by false false = omega arith

pub chain_few : (d : List ℕ) → (links_for d ≤ 5) × (length (chain_for d) ≤ 60)
unfolding links_for chain_for length_of
chain_few d =
    let H = hull_in d in
    let c = try_no (first_try d H) in
    let s = side_few (first_try d H) in
    let W = sum_way d in
    by (is_tried d) (links_of H c) (sum_links W) (chain_by H c) (sum_chain W) (links_few H c) (sum_few W)
    (subst (λ n. n ≤ 60) (sym (chain_length H c))
    (sixty (links_of H c) (4 + (min c.side H.down.span + 1)) (links_few H c) (omega (arith, s))))
    (sum_short W)
  where
    by : (b : Bool) (k l : ℕ) (x y : List ℕ) → k ≤ 5 → l ≤ 5 → length x ≤ 60 → length y ≤ 60
        → (cond b k l ≤ 5) × (length (cond b x y) ≤ 60)
    by true k l x y p q u v = (p, u)
    by false k l x y p q u v = (q, v)

pub found_few : (d : List ℕ) (room : ℕ) (f : Found) → FoundAs d room (Ok f) → (f.links ≤ 5) × (f.bytes ≤ 60)
found_few d room f so =
    let h = chain_few d in (
      subst (λ n. n ≤ 5) (sym so.found.0) h.0,
      subst (λ n. n ≤ 60) (sym so.found.1) h.1,
    )

-- ---- a sum
pub way_is : (d : List ℕ) (e : Element) → e ≡ element_of d
    → walked e.rows e.outline.origin.ping.0 e.outline.origin.bin.0 ≡ sum_way d
unfolding sum_way element_of
way_is d e q =
    ap (λ (x : Element). walked x.rows x.outline.origin.ping.0 x.outline.origin.bin.0) q
    ∙ ap (λ (r : List ℕ). walked r (origin_column_of d) (origin_row_of d)) (rows_in_lem d)

module _ (d : List ℕ) (made : well_made d ≡ true) (near : within (hull_in d) ≡ true)
    (none : is_tried d ≡ false) where
  -- the answers are those of the sum
  sum_answer_lem : (room : ℕ) → sum_answer d (sum_way d) room ≡ find_answer d room
  unfolding find_answer find_tests is_found is_searched chain_for sum_answer
  sum_answer_lem room = sym (simp (made, near, none))

  sum_tried : not (sums d (sum_way d)) ≡ gave_up d
  unfolding gave_up is_searched
  sum_tried = sym (simp (made, near, none))

  links_sum : sum_links (sum_way d) ≡ links_for d
  unfolding links_for
  links_sum = sym (cond_no (is_tried d) _ (sum_links (sum_way d)) none)

  chain_sum : sum_chain (sum_way d) ≡ chain_for d
  unfolding chain_for
  chain_sum = sym (cond_no (is_tried d) _ (sum_chain (sum_way d)) none)

  pub summed_so : (t u : List ℕ) (w : Way) (r : Result Found Unfound) → w ≡ sum_way d
      → SumAs d w (length t) r → u ≡ sum_left d w t → FoundAs d (length t) r × (u ≡ chain_left d t)
  unfolding chain_left sum_left
  summed_so t u w r e s v =
      let a = ap (λ (x : Way). sum_answer d x (length t)) e ∙ sum_answer_lem (length t) in
      let c = ap sum_chain e ∙ chain_sum in (
        record {
          answered = s.answered ∙ a;
          found =
              IfOk-weaker r _ (λ f. (f.links ≡ links_for d) × (f.bytes ≡ length (chain_for d)))
              (λ f p. (p.0 ∙ ap sum_links e ∙ links_sum, p.1 ∙ ap length c)) s.found;
          tried = s.tried ∙ ap (λ (x : Way). not (sums d x)) e ∙ sum_tried;
        },
        v ∙ ap₂ (λ x l. unless_refused x t (l ++ drop (length l) t)) a c,
      )
