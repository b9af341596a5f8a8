-- The check says what document 01's definitions say: no offset is at fault, or which is the first.
use mathlib.Core.Path.{◌≡◌, refl, sym, ap₂, subst}
use mathlib.Core.Logic.{inl, inr, ⊎_elim}
use mathlib.Core.List.{List}
use Rattle.element.specs.Shape.{Shape, Offset}
use Rattle.morphology.specs.Step.{Place}
use Rattle.morphology.specs.Chain.{Fault, Before, First, Chained}
use Rattle.morphology.specs.Check.{value, Verdict, Taken, Split, Says, fault_test, check_of}
use Rattle.basics.proofs.Truth.{decided}
use Rattle.morphology.proofs.Places.{SaysAt}
use Rattle.morphology.proofs.Tests.{fault_sound, fault_complete}
use Rattle.morphology.proofs.Scan.{check_says_at, compared}
use Rattle.morphology.proofs.Bridge.{placed, fault_to, fault_from, fault_place, before_to, before_from}

module _ (E : Shape) (Bs : List Shape) (C : Chained E Bs) where
  -- whether an offset is at fault can be decided
  pub fault_decided : (e : Offset) → Dec (Fault E Bs e)
  fault_decided e =
      ⊎_elim (λ p.
      ⊎_elim (λ t. yes (subst (Fault E Bs) p.1 (fault_to E Bs C p.0 (fault_sound E Bs p.0 t))))
      (λ n.
      no (λ f. n (fault_complete E Bs p.0 (fault_from E Bs C p.0 (subst (Fault E Bs) (sym p.1) f)))))
      (decided (fault_test E Bs p.0)))
      (λ n. no (λ f. let p = fault_place E Bs C e f in n p.0 p.1)) (placed e)

  -- ---- the check

  pub says_to : (a : Verdict) → SaysAt E Bs a → Says E Bs a
  says_to Taken none = λ o f. let p = fault_place E Bs C o f in
      none p.0 (fault_from E Bs C p.0 (subst (Fault E Bs) (sym p.1) f))
  says_to (Split x y) s =
      let e : Place = record { x = x; y = y } in
      record {
        holds = fault_to E Bs C e s.holds;
        none_before = λ o b f.
            let p = fault_place E Bs C o f in
            s.none_before p.0
            (before_from p.0 e (subst (λ (z : Offset). Before z (value e)) (sym p.1) b))
            (fault_from E Bs C p.0 (subst (Fault E Bs) (sym p.1) f));
      }

  -- the check says that no offset is at fault, or which is the first
  pub check_says : Says E Bs (check_of E Bs)
  check_says = says_to (check_of E Bs) (check_says_at E Bs C)

  first_once : {P : Offset → Type 0} (d e : Place) → First P (value d) → First P (value e)
      → (d.x ≡ e.x) × (d.y ≡ e.y)
  first_once d e p q =
      ⊎_elim (λ l. absurd (q.none_before (value d) (before_to d e (inl l)) p.holds))
      (⊎_elim (λ ey. ⊎_elim (λ l. absurd (q.none_before (value d) (before_to d e (inr (ey, l))) p.holds))
      (⊎_elim (λ ex. (ex, ey))
      (λ l. absurd (p.none_before (value e) (before_to e d (inr (sym ey, l))) q.holds)))
      (compared d.x e.x))
      (λ l. absurd (p.none_before (value e) (before_to e d (inl l)) q.holds))) (compared d.y e.y)

  -- and a verdict is settled by what it says
  pub says_once : (a b : Verdict) → Says E Bs a → Says E Bs b → a ≡ b
  says_once Taken Taken s t = refl
  says_once Taken (Split x y) s t = absurd (s _ t.holds)
  says_once (Split x y) Taken s t = absurd (t _ s.holds)
  says_once (Split x y) (Split u v) s t =
      let h = first_once (record { x = x; y = y }) (record { x = u; y = v }) s t in ap₂ Split h.0 h.1
