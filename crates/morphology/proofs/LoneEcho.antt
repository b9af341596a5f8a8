-- A lone echo tells the element and the chain apart exactly by the offsets that are at fault.
use Prim.Native.Nat.{ℕ, ◌+◌, ◌-◌, ◌*◌, ◌≤◌, zero-le, min, max}
use mathlib.Core.Path.{◌≡◌, refl, sym, subst}
use mathlib.Core.Bool.{Bool, true, false, ◌&&◌, cond}
use mathlib.Core.Logic.{◌⊎◌, inl, inr, ⊎_elim}
use mathlib.Core.List.{List}
use native.Mathlib.Nat.{le_refl, le_antisymm}
use native.Mathlib.Omega.{arith}
use lib.Dec.{T, leb, eqb, leb→le, le→leb, eqb→eq, eqb_refl, lit≤}
use lib.ListN.{length}
use Rattle.answer.specs.Answer.{centre}
use Rattle.picture.specs.Frame.{Frame}
use Rattle.element.specs.Shape.{Shape}
use Rattle.morphology.specs.Step.{Place, In, Plus, Step}
use Rattle.morphology.specs.Operations.{flat, dilate}
use Rattle.morphology.specs.Chain.{Chained, dilate_all}
use Rattle.morphology.specs.Check.{value, still, fault_test}
use Rattle.morphology.specs.Demand.{Limits, lone, Differs}
use Rattle.morphology.proofs.Integers.{sub_moves}
use Rattle.basics.proofs.Truth.{and_intro, and_parts, decided}
use Rattle.morphology.proofs.Places.{same_place, Moved, Walk, HasAt, SumAt}
use Rattle.morphology.proofs.Places.{BetweenAt, PathAt, FaultAt, missed_at, extra_at}
use Rattle.morphology.proofs.Reach.{dilation, le_dilate}
use Rattle.morphology.proofs.Runs.{dils_le, le_dils}
use Rattle.morphology.proofs.Walks.{carry, weaken, Near, near_end, near_all}
use Rattle.morphology.proofs.Tests.{fault_sound, fault_complete}
use Rattle.morphology.proofs.Agree.{has_moved, offset, Close, close_moved}
use Rattle.morphology.proofs.Agree.{step_close, walk_close, to_chain, to_element}

-- a point moved by an offset
pub moved_to : (e p q : Place) → Moved e p q → Plus p (value e) q
moved_to e p q m =
    record {
      across = (sub_moves p.x q.x e.x centre).1 m.across;
      down = (sub_moves p.y q.y e.y centre).1 m.down;
    }

-- ---- a lone echo

pub lone_there : (top : ℕ) (a : Place) → lone top a a.x a.y ≡ top
unfolding lone
lone_there top a =
    on (eqb a.x a.x && eqb a.y a.y)
    (and_intro (eqb a.x a.x) (eqb a.y a.y) (eqb_refl a.x) (eqb_refl a.y))
  where
    on : (b : Bool) → T b → cond b top 0 ≡ top
    on true t = refl
    on false t = absurd t

pub lone_cases : (top : ℕ) (a p : Place) → (a ≡ p) ⊎ (lone top a p.x p.y ≡ 0)
unfolding lone
lone_cases top a p =
    ⊎_elim (λ t.
    let h = and_parts (eqb p.x a.x) (eqb p.y a.y) t in
    let ex = eqb→eq p.x a.x h.0 in
    let ey = eqb→eq p.y a.y h.1 in
    inl (same_place (sym ex) (sym ey)))
    (λ n. inr (off (eqb p.x a.x && eqb p.y a.y) n))
    (decided (eqb p.x a.x && eqb p.y a.y))
  where
    off : (b : Bool) → (T b → ⊥) → cond b top 0 ≡ 0
    off true n = absurd (n tt)
    off false n = refl

pub lone_le : (top : ℕ) (a p : Place) → lone top a p.x p.y ≤ top
unfolding lone
lone_le top a p = below (eqb p.x a.x && eqb p.y a.y)
  where
    below : (b : Bool) → cond b top 0 ≤ top
    below true = le_refl top
    below false = zero-le

-- to bound what a lone echo leaves it is enough to look at the echo itself
lone_bound : (top v : ℕ) (a p : Place) → (a ≡ p → lone top a p.x p.y ≤ v) → lone top a p.x p.y ≤ v
lone_bound top v a p f = ⊎_elim f (λ z. omega arith) (lone_cases top a p)

module _ (E : Shape) (Bs : List Shape) (C : Chained E Bs) (top : ℕ) where
  -- where the element and the chain reach q from the echo alike, they leave there alike
  reached_alike : (F : Frame) (a q : Place) → In F a → In F q → (Step E a q → Walk (In F) Bs a q)
      → (Walk (In F) Bs a q → Step E a q)
      → dilate_all F Bs (lone top a) q.x q.y ≡ dilate F E (lone top a) q.x q.y
  reached_alike F a q ia iq to from =
      let chain = dilate_all F Bs (lone top a) q.x q.y in
      let element = dilate F E (lone top a) q.x q.y in
      le_antisymm
      (dils_le F Bs (lone top a) q element iq
      (λ p ip w. lone_bound top element a p (λ h. subst (λ (z : Place). lone top a z.x z.y ≤ element) h
      (le_dilate flat F E (lone top a) a q ia (from (subst (λ (z : Place). Walk (In F) Bs z q) (sym h) w))))))
      ((dilation flat F E (lone top a) q chain).1
      (λ p ip s. lone_bound top chain a p (λ h. subst (λ (z : Place). lone top a z.x z.y ≤ chain) h
      (le_dils F Bs (lone top a) a q ia (to (subst (λ (z : Place). Step E z q) (sym h) s))))))

  -- so it is by an offset that is not at fault, and where echo and point are far apart
  pub alike : (F : Frame) (e a q : Place) → In F a → In F q → Moved e a q → ¬ FaultAt E Bs e
      → dilate_all F Bs (lone top a) q.x q.y ≡ dilate F E (lone top a) q.x q.y
  alike F e a q ia iq mv nf =
      reached_alike F a q ia iq (to_chain E Bs C F e a q ia iq mv nf) (to_element E Bs C F e a q mv nf)

  far_alike : (F : Frame) (a q : Place) → In F a → In F q → ¬ Close a q
      → dilate_all F Bs (lone top a) q.x q.y ≡ dilate F E (lone top a) q.x q.y
  far_alike F a q ia iq far =
      reached_alike F a q ia iq (λ s. absurd (far (step_close E a q C.element s)))
      (λ w. absurd (far (walk_close (In F) Bs a q C.links C.few_links w)))

  -- where a lone echo is dilated differently, the offset from the echo is that of a place
  pub differing_moved : (F : Frame) (a q : Place) → In F a → In F q
      → ¬ (dilate_all F Bs (lone top a) q.x q.y ≡ dilate F E (lone top a) q.x q.y)
      → Moved (offset a q) a q
  differing_moved F a q ia iq d =
      ⊎_elim (λ t.
      ⊎_elim (λ u. close_moved a q (leb→le a.x (q.x + centre) t, leb→le a.y (q.y + centre) u))
      (λ n. absurd (d (far_alike F a q ia iq (λ c. n (le→leb a.y (q.y + centre) c.1)))))
      (decided (leb a.y (q.y + centre))))
      (λ n. absurd (d (far_alike F a q ia iq (λ c. n (le→leb a.x (q.x + centre) c.0)))))
      (decided (leb a.x (q.x + centre)))

  -- and that place is at fault
  pub difference_fault : (F : Frame) (a q : Place) → In F a → In F q
      → ¬ (dilate_all F Bs (lone top a) q.x q.y ≡ dilate F E (lone top a) q.x q.y)
      → FaultAt E Bs (offset a q)
  difference_fault F a q ia iq d =
      ⊎_elim (fault_sound E Bs (offset a q))
      (λ nf. absurd (d (alike F (offset a q) a q ia iq (differing_moved F a q ia iq d)
      (λ f. nf (fault_complete E Bs (offset a q) f))))) (decided (fault_test E Bs (offset a q)))

  module _ (e : Place) (some : 1 ≤ top) where
    -- the element has e and no path leads to it:
    -- the echo stands in one corner of the frame that just holds 0 and e, and e in another
    tight : Frame
    tight = record {
      pings = max centre e.x - min centre e.x + 1;
      bins = max centre e.y - min centre e.y + 1;
    }

    corner : Place
    corner = record { x = min centre e.x; y = min centre e.y }

    start : Place
    start = record { x = centre - min centre e.x; y = centre - min centre e.y }

    end : Place
    end = record { x = e.x - min centre e.x; y = e.y - min centre e.y }

    start_in : In tight start
    unfolding tight start
    start_in = record { ping = omega arith; bin = omega arith }

    end_in_lem : In tight end
    unfolding tight end
    end_in_lem = record { ping = omega arith; bin = omega arith }

    start_end : Moved e start end
    unfolding start end
    start_end = record { across = omega arith; down = omega arith }

    tight_limits : HasAt E e → Limits tight
    unfolding tight
    tight_limits s =
        let f = C.element in
        record {
          some_pings = omega arith;
          few_pings = omega arith;
          some_bins = omega arith;
          few_bins = omega arith;
        }

    -- a walk from corner to corner is a path
    tight_path : Walk (In tight) Bs start end → PathAt Bs e
    unfolding tight start end corner
    tight_path w =
        carry (In tight) (BetweenAt e) (record { x = 0; y = 0 }) corner
        (λ m i. (
          record { x = m.x + min centre e.x; y = m.y + min centre e.y },
          record { across = omega arith; down = omega arith },
          record { left = omega arith; right = omega arith; upper = omega arith; lower = omega arith },
        ))
        Bs start end still e (record { across = omega arith; down = omega arith })
        (record { across = omega arith; down = omega arith }) w

    missed_differs : HasAt E e → ¬ PathAt Bs e → Differs top E Bs (value e)
    missed_differs h np =
        record {
          frame = tight;
          limits = tight_limits h;
          echo = start;
          point = end;
          echo_in = start_in;
          point_in = end_in_lem;
          moved = moved_to e start end start_end;
          differ = λ same.
              let by_chain = dils_le tight Bs (lone top start) end
              0 end_in_lem (λ p ip w. lone_bound top 0 start p (λ k.
              absurd (np (tight_path (subst (λ (z : Place). Walk (In tight) Bs z end) (sym k) w))))) in
              let by-element = le_dilate flat tight E (lone top start)
              start end start_in (has_moved start_end h) in
              let t = lone_there top start in
              omega arith;
        }

    -- the element lacks e and it is a sum: the echo stands in the middle of a frame that holds every sum
    wide : Frame
    wide = record { pings = 256; bins = 256 }

    extra_differs : ¬ HasAt E e → SumAt Bs e → Differs top E Bs (value e)
    unfolding wide
    extra_differs nh s =
        let l = C.few_links in
        let n = near_end (λ m. Unit {0}) Bs still e C.links s in
        let inside : In wide e = record { ping = omega arith; bin = omega arith } in
        let walk = weaken (λ m. Unit {0} × Near (7 * length Bs) still m) (In wide)
        (λ m k. let j = k.1 in record { ping = omega arith; bin = omega arith }) Bs still e
        (near_all (λ m. Unit {0}) Bs still e C.links s) in
        let there : In wide still = record { ping = lit≤ tt; bin = lit≤ tt } in
        record {
          frame = wide;
          limits =
              record { some_pings = lit≤ tt; few_pings = lit≤ tt; some_bins = lit≤ tt; few_bins = lit≤ tt };
          echo = still;
          point = e;
          echo_in = there;
          point_in = inside;
          moved = moved_to e still e (record { across = omega arith; down = omega arith });
          differ = λ same.
              let by-element = (dilation flat wide E (lone top still)
              e 0).1 (λ p ip z. lone_bound top 0 still p (λ k.
              absurd (nh (subst (λ (y : Place). Step E y e) (sym k) z)))) in
              let by_chain = le_dils wide Bs (lone top still) still e there walk in
              let t = lone_there top still in
              omega arith;
        }

    pub fault_differs_at : FaultAt E Bs e → Differs top E Bs (value e)
    fault_differs_at (missed_at h np) = missed_differs h np
    fault_differs_at (extra_at nh s) = extra_differs nh s
