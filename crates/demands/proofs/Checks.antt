-- What an answer of the check of a chain means, over the bytes that it is handed: from morphology's `accepts`
-- and `splits`, which say it of the definition of the check.
use Prim.Native.Nat.{ℕ}
use mathlib.Core.Path.{◌≡◌, refl, sym, ap, ◌∙◌, subst}
use mathlib.Core.Logic.{◌↔◌, ◌⊎◌, inl, inr, ⊎_elim}
use native.Mathlib.Omega.{arith}
use mathlib.Core.List.{List}
use lib.Dec.{lit≤}
use Rattle.picture.specs.declared.Depth.{Depth}
use Rattle.picture.specs.declared.Depth.TheVariants.{OneBit}
use Rattle.picture.specs.Frame.{top}
use Rattle.answer.specs.declared.Told.{Told}
use Rattle.answer.specs.Answer.{Answer, told, told_refusal, plain}
use Rattle.answer.proofs.Order.{refused, none_given, done_exactly}
use Rattle.element.specs.Shape.{Shape, Offset}
use Rattle.element.specs.Descriptor.{shape_in}
use Rattle.faults.specs.Verdicts.{answer_of}
use Rattle.chain.specs.Reading.{check_tests, links_in, checked}
use Rattle.chain.proofs.Checking.{well_chained, check_number, check_numbered}
use Rattle.morphology.specs.Chain.{First, Chained}
use Rattle.morphology.specs.Check.{value, Verdict, Taken, Split, check_of}
use Rattle.morphology.specs.Demand.{Same, Differs}
use Rattle.morphology.proofs.Bridge.{fault_place}
use Rattle.morphology.proofs.Verdicts.{fault_is_difference, accepts, splits}
use Rattle.demands.specs.Demands.{ExactlyNumbered}
use Rattle.demands.specs.Chains.{WellMade, Strength, split_at, split_tests}
use Rattle.demands.proofs.ByNumber.{bare, NoOffset, numbered_exactly}
use Rattle.demands.proofs.ByNumber.{split_numbered, check_bare, check_plain}

-- r is an answer that the contract of `chain::check_chain` allows
module _ (element chain : List ℕ) (k : ℕ) (r : Answer) (promised : told r ≡ checked element k chain) where
  abbrev E : Shape
  E = shape_in element

  abbrev Bs : List Shape
  Bs = links_in k chain

  pub outcome : (WellMade element k chain × (told r ≡ told (answer_of (check_of E Bs))))
      ⊎ ((n : ℕ) × ((n ≡ 4) ⊎ (n ≡ 6)) × (told r ≡ plain n))
  unfolding checked
  outcome =
      ⊎_elim (λ o. inl (o.0, promised ∙ o.1))
      (λ o. inr (o.0, check_number element k chain o.0 o.1.0, promised ∙ o.1.1))
      (refused (check_tests element k chain) (told (answer_of (check_of E Bs))))

  pub chained : WellMade element k chain → Chained E Bs
  chained w =
      well_chained element chain k
      ((done_exactly (check_tests element k chain) (check_numbered element k chain)).1 w)

  made_told : WellMade element k chain → told r ≡ told (answer_of (check_of E Bs))
  unfolding checked
  made_told w = promised ∙ none_given (told (answer_of (check_of E Bs))) w

  -- it is done exactly when element and chain are well made and do the same,
  -- on every picture, at both depths, in every frame within the limits
  pub done_is_same : (told r ≡ plain 0)
      ↔ (WellMade element k chain × ((depth : Depth) → Same (top depth) E Bs))
  unfolding answer_of told plain told_refusal
  done_is_same = (
    λ t. ⊎_elim (λ o. (o.0, (accepts E Bs (chained o.0)).0 (taken (check_of E Bs) (sym o.1 ∙ t))))
        (λ o. absurd (refusal o.0 o.1 (sym o.2 ∙ t))) outcome,
    λ s. made_told s.0 ∙ ap (λ v. told (answer_of v)) ((accepts E Bs (chained s.0)).1 s.1),
  )
    where
      taken : (v : Verdict) → told (answer_of v) ≡ plain 0 → v ≡ Taken
      taken Taken t = refl
      taken (Split x y) t = let z : ◌≡◌ {A = ℕ} 7 0 = ap (λ (u : Told). u.number) t in absurd (omega arith)

      refusal : (n : ℕ) → (n ≡ 4) ⊎ (n ≡ 6) → plain n ≡ plain 0 → ⊥
      refusal n o t = let z : n ≡ 0 = ap (λ (u : Told). u.number) t in
          ⊎_elim (λ e. omega arith) (λ e. omega arith) o

  -- it is SPLIT dx, dy exactly when they are well made and that offset is the first, in row order,
  -- at which a lone echo of that strength, in some frame within the limits, is dilated differently
  pub split_is_first : (depth : Depth) (strength : ℕ) → Strength depth strength → (e : Offset)
      → (told r ≡ split_at e) ↔ (WellMade element k chain × First (Differs strength E Bs) e)
  unfolding answer_of told plain told_refusal
  split_is_first depth strength heard e = (
    λ t. ⊎_elim (λ o. (o.0, first (chained o.0) (check_of E Bs) refl (sym o.1 ∙ t)))
        (λ o. absurd (refusal o.0 o.1 (sym o.2 ∙ t))) outcome,
    λ s.
        let C = chained s.0 in
        let p = fault_place E Bs C e
        ((fault_is_difference E Bs C strength heard.some e).1 s.1.holds) in
        made_told s.0
        ∙ ap (λ v. told (answer_of v)) ((splits E Bs C strength heard.some p.0.x
        p.0.y).1 (subst (First (Differs strength E Bs)) (sym p.1) s.1))
        ∙ ap split_at p.1,
  )
    where
      first : Chained E Bs → (v : Verdict) → v ≡ check_of E Bs → told (answer_of v) ≡ split_at e
          → First (Differs strength E Bs) e
      first C Taken q t = let z : ◌≡◌ {A = ℕ} 0 7 = ap (λ (u : Told). u.number) t in absurd (omega arith)
      first C (Split x y) q t =
          subst (First (Differs strength E Bs))
          (λ i. record { dx = (t i).dx; dy = (t i).dy }) ((splits E Bs C strength heard.some x y).0 (sym q))

      refusal : (n : ℕ) → (n ≡ 4) ⊎ (n ≡ 6) → plain n ≡ split_at e → ⊥
      refusal n o t = let z : n ≡ 7 = ap (λ (u : Told). u.number) t in
          ⊎_elim (λ q. omega arith) (λ q. omega arith) o

  -- and it is SPLIT at some offset exactly when they are well made and do not do the same
  pub split_is_not_same : ((e : Offset) × (told r ≡ split_at e))
      ↔ (WellMade element k chain × (¬ ((depth : Depth) → Same (top depth) E Bs)))
  unfolding answer_of told plain told_refusal
  split_is_not_same = (
    λ s. (
      ((split_is_first OneBit 1 one s.0).0 s.1).0,
      λ same.
          let w = ((split_is_first OneBit 1 one s.0).0 s.1).0 in
          let z : ◌≡◌ {A = ℕ} 7 0 = ap (λ (u : Told). u.number) (sym s.1 ∙ done_is_same.1 (w, same)) in
          omega arith,
    ),
    λ s. by (check_of E Bs) refl s.0 s.1,
  )
    where
      one : Strength OneBit 1
      one = record { some = lit≤ tt; most = lit≤ tt }

      by : (v : Verdict) → v ≡ check_of E Bs → WellMade element k chain
          → (¬ ((depth : Depth) → Same (top depth) E Bs)) → (e : Offset) × (told r ≡ split_at e)
      by Taken q w n = absurd (n ((accepts E Bs (chained w)).0 (sym q)))
      by (Split x y) q w n = (
        value (record { x = x; y = y }),
        made_told w ∙ ap (λ v. told (answer_of v)) (sym q),
      )

  -- each number is given exactly where its test is the first to hold, SPLIT where none before it does
  pub check_is_exact : ExactlyNumbered (split_tests element k chain) (told r)
  check_is_exact =
      numbered_exactly (split_tests element k chain) (told r) (split_numbered element k chain)
      (ap bare promised ∙ check_bare element k chain)
      (subst NoOffset (sym promised) (check_plain element k chain))
