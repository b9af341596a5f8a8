-- What a marker grows to inside a mask: each law from the two that a point of the mask beside a point of A
-- is grown, and that each point that is grown is such a point.
use Prim.Native.Nat.{ℕ, zero, suc, ◌+◌, ◌-◌, ◌*◌, ◌≤◌, ◌<◌, min, zero-le}
use mathlib.Core.Path.{◌≡◌, refl, sym, ap, ap₂, ◌∙◌, subst}
use mathlib.Core.Logic.{◌↔◌, ◌⊎◌, inl, inr, ⊎_elim}
use mathlib.Core.List.{List, [], ◌∷◌}
use native.Mathlib.Nat.{le_trans, le_antisymm, le_of_eq}
use native.Mathlib.Omega.{arith}
use native.Mathlib.Decide.{dec_le}
use Rattle.picture.specs.Frame.{Frame}
use Rattle.picture.specs.Bytes.{Picture}
use Rattle.morphology.specs.Step.{Place, In}
use Rattle.morphology.specs.Operations.{flat}
use Rattle.morphology.specs.Order.{LiesWithin, Alike, Bounded}
use Rattle.morphology.specs.Sets.{SetAt}
use Rattle.morphology.proofs.Reach.{le_dilate, dilate_found}
use Rattle.morphology.proofs.Order.{within_refl, within_trans, dilate_mono, dilate_alike}
use Rattle.grown.specs.declared.Neighbours.{Neighbours}
use Rattle.grown.specs.Grown.{around, grown_once, grown_times, Grown, grown}
use Rattle.grown.specs.Reached.{Beside, JoinedBy, Reached}
use Rattle.grown.specs.Steps.Growing.{Growing, Steady}
use Rattle.grown.proofs.Steps.{beside_self, beside_turned, beside_step, step_beside}
use Rattle.grown.proofs.Counts.{count, count_most, count_alike}

module _ (neighbours : Neighbours) (F : Frame) (mask : Picture) (bm : Bounded 1 F mask) where
  -- ---- grown once
  abbrev once : Picture → Picture
  once A = grown_once neighbours F mask A

  once_in_mask : (A : Picture) → LiesWithin F (once A) mask
  unfolding grown_once
  once_in_mask A p i = omega arith

  once_mono : (A C : Picture) → LiesWithin F A C → LiesWithin F (once A) (once C)
  unfolding grown_once
  once_mono A C h p i =
      let d = dilate_mono flat (λ g u v k. k) F (around neighbours) A C h p i in omega arith

  once_more : (A : Picture) → LiesWithin F A mask → LiesWithin F A (once A)
  unfolding grown_once
  once_more A h p i =
      let s = beside_step neighbours p p (beside_self neighbours p) in
      let d = le_dilate flat F (around neighbours) A p p i s in
      let m = h p i in
      omega arith

  -- a point of the mask beside a point of A is grown
  once_step : (A : Picture) (p q : Place) → In F p → In F q → Beside neighbours p q → SetAt A p → SetAt mask q
      → SetAt (once A) q
  unfolding grown_once
  once_step A p q ip iq b set m =
      let d = le_dilate flat F (around neighbours) A p q ip (beside_step neighbours p q b) in omega arith

  -- and what is grown is such a point
  once_found : (A : Picture) → Bounded 1 F A → (q : Place) → In F q → SetAt (once A) q
      → (p : Place) × In F p × Beside neighbours p q × SetAt A p
  unfolding grown_once
  once_found A b q iq set =
      let k = dilate_found flat F (around neighbours) A q (omega arith) in
      let e = k.2.1 in
      let v = b k.0 k.1 in
      (k.0, k.1, step_beside neighbours k.0 q k.2.0, omega arith)

  -- nothing is grown in a picture that no step leads out of
  steady_once : (T : Picture) → Bounded 1 F T → Steady neighbours F mask T → LiesWithin F (once T) T
  steady_once T b steady q i = by (dec_le (once T q.x q.y) 0)
    where
      by : Dec (once T q.x q.y ≤ 0) → once T q.x q.y ≤ T q.x q.y
      by (yes z) = le_trans z zero-le
      by (no n) =
          let m = once_in_mask T q i in
          let v = bm q i in
          let k = once_found T b q i (omega arith) in
          let t = steady k.0 q k.1 i k.2 k.3 (omega arith) in
          omega arith

  -- ---- grown n times
  module _ (marker : Picture) (within : LiesWithin F marker mask) where
    abbrev times : ℕ → Picture
    times n = grown_times n neighbours F mask marker

    abbrev result : Picture
    result = grown neighbours F mask marker

    times_in_mask : (n : ℕ) → LiesWithin F (times n) mask
    unfolding grown_times
    times_in_mask zero = within
    times_in_mask (suc n) = once_in_mask (times n)

    times_one_bit : (n : ℕ) → Bounded 1 F (times n)
    times_one_bit n p i = le_trans (times_in_mask n p i) (bm p i)

    marker_in_times : (n : ℕ) → LiesWithin F marker (times n)
    unfolding grown_times
    marker_in_times zero = within_refl F marker
    marker_in_times (suc n) =
        within_trans F marker (times n) (times (suc n)) (marker_in_times n)
        (once_more (times n) (times_in_mask n))

    -- the least picture with the marker in it where nothing is grown
    times_least : (C : Picture) → LiesWithin F marker C → LiesWithin F (once C) C
        → (n : ℕ) → LiesWithin F (times n) C
    unfolding grown_times
    times_least C h k zero = h
    times_least C h k (suc n) =
        within_trans F (times (suc n)) (once C) C (once_mono (times n) C (times_least C h k n)) k

    -- each time there is a point more, or there was a time that brought none
    counted : (n : ℕ) → (n ≤ count F (times n))
        ⊎ ((k : ℕ) × (k < n) × (count F (times (suc k)) ≤ count F (times k)))
    counted zero = inl zero-le
    counted (suc n) =
        ⊎_elim (λ many. by many (dec_le (count F (times (suc n))) (count F (times n))))
        (λ k. inr (k.0, omega arith, k.2)) (counted n)
      where
        by : n ≤ count F (times n) → Dec (count F (times (suc n)) ≤ count F (times n))
            → (suc n ≤ count F (times (suc n)))
            ⊎ ((k : ℕ) × (k < suc n) × (count F (times (suc k)) ≤ count F (times k)))
        by many (yes few) = inr (n, omega arith, few)
        by many (no more) = inl (omega arith)

    -- so the number of points is times enough: there was such a time before, and nothing is grown since
    onward : (n more : ℕ) → LiesWithin F (times n) (times (more + n))
    unfolding grown_times
    onward n zero = λ p i. le_of_eq (ap (λ m. times m p.x p.y) (nothing n))
      where
        nothing : (n : ℕ) → n ≡ 0 + n
        nothing n = omega arith
    onward n (suc more) =
        within_trans F (times n) (times (more + n)) (times (suc more + n)) (onward n more) (λ p i.
        subst (λ m. times (more + n) p.x p.y ≤ times m p.x p.y) (one_more more n)
        (once_more (times (more + n)) (times_in_mask (more + n)) p i))
      where
        one_more : (m n : ℕ) → suc (m + n) ≡ suc m + n
        one_more m n = omega arith

    ended : (k n : ℕ) → k ≤ n → count F (times (suc k)) ≤ count F (times k)
        → LiesWithin F (once (times n)) (times n)
    unfolding grown_times
    ended k n l few =
        within_trans F (once (times n)) (times k) (times n)
        (times_least (times k) (marker_in_times k)
        (λ p i. le_of_eq (sym (count_alike F (times k) (times (suc k))
        (once_more (times k) (times_in_mask k)) few p i))) (suc n))
        (λ p i. subst (λ m. times k p.x p.y ≤ times m p.x p.y) (back k n l)
        (onward k (n - k) p i))
      where
        back : (k n : ℕ) → k ≤ n → (n - k) + k ≡ n
        back k n l = omega arith

    pub grown_ended : LiesWithin F (once result) result
    unfolding grown
    grown_ended =
        let n = F.bins * F.pings in
        ⊎_elim
        (λ many. let most = count_most F (times (suc n)) (times_one_bit (suc n)) in absurd (omega arith))
        (λ k. ended k.0 n (omega arith) k.2) (counted (suc n))

    -- ---- the marker within the result, and the result within the mask
    pub marker_within : LiesWithin F marker result
    unfolding grown
    marker_within = marker_in_times (F.bins * F.pings)

    pub within_mask : LiesWithin F result mask
    unfolding grown
    within_mask = times_in_mask (F.bins * F.pings)

    pub grown_one_bit : Bounded 1 F result
    grown_one_bit p i = le_trans (within_mask p i) (bm p i)

    -- the least picture that the marker lies within and where nothing is grown
    pub grown_least : (C : Picture) → LiesWithin F marker C → LiesWithin F (once C) C → LiesWithin F result C
    unfolding grown
    grown_least C h k = times_least C h k (F.bins * F.pings)

    -- ---- until nothing changes
    pub grown_is : Grown neighbours F mask marker result
    unfolding grown
    grown_is =
        record {
          times = F.bins * F.pings;
          is_grown = λ p i. refl;
          no_change = λ p i. le_antisymm (grown_ended p i) (once_more result within_mask p i);
        }

    pub grown_one : (C : Picture) → Grown neighbours F mask marker C → Alike F C result
    grown_one C g p i =
        let to : LiesWithin F C (times g.times) = λ p i. le_of_eq (g.is_grown p i) in
        let from : LiesWithin F (times g.times) C = λ p i. le_of_eq (sym (g.is_grown p i)) in
        let begun = within_trans F marker (times g.times) C (marker_in_times g.times) from in
        le_antisymm
        (within_trans F C (times g.times) result to
        (times_least result marker_within grown_ended g.times) p i)
        (grown_least C begun (λ p i. le_of_eq (g.no_change p i)) p i)

    -- ---- exactly the points that are reached
    times_reached : (n : ℕ) (q : Place) → In F q → SetAt (times n) q → Reached neighbours F mask marker q
    unfolding grown_times
    times_reached zero q i set =
        record {
          in_mask = let m = within q i in let b = bm q i in omega arith;
          start = q;
          start_inside = i;
          start_set = set;
          steps = [];
          joined = refl;
        }
    times_reached (suc n) q i set =
        let k = once_found (times n) (times_one_bit n) q i set in
        let r = times_reached n k.0 k.1 k.3 in
        let m = once_in_mask (times n) q i in
        let b = bm q i in
        record {
          in_mask = omega arith;
          start = r.start;
          start_inside = r.start_inside;
          start_set = r.start_set;
          steps = k.0 ∷ r.steps;
          joined = (beside_turned neighbours k.0 q k.2, k.1, r.in_mask, r.joined);
        }

    -- a neighbouring step inside the mask does not leave what is grown
    pub grown_step : Steady neighbours F mask result
    grown_step p q ip iq b set m =
        let g = grown_ended q iq in
        let v = grown_one_bit q iq in
        let s = once_step result p q ip iq b set m in
        omega arith

    joined_grown : (steps : List Place) (q p : Place) → In F q → SetAt mask q → SetAt marker p
        → JoinedBy neighbours F mask steps q p → SetAt result q
    joined_grown [] q p i m set e =
        let w = marker_within q i in
        let v = grown_one_bit q i in
        let here = ap (λ r. marker r.x r.y) e in
        omega arith
    joined_grown (s ∷ steps) q p i m set j =
        grown_step s q j.1 i (beside_turned neighbours q s j.0)
        (joined_grown steps s p j.1 j.2 set j.3) m

    pub grown_reached : (q : Place) → In F q
        → SetAt result q ↔ Reached neighbours F mask marker q
    unfolding grown
    grown_reached q i = (
      times_reached (F.bins * F.pings) q i,
      λ r. joined_grown r.steps q r.start i r.in_mask r.start_set r.joined,
    )

    -- ---- whatever the order of the visits: from the marker to a picture that no step leads out of
    pub growing_starts : Growing neighbours F mask marker marker
    growing_starts =
        record {
          one_bit = λ p i. le_trans (within p i) (bm p i);
          begun = within_refl F marker;
          sound = marker_within;
        }

    pub growing_step : (T : Picture) → Growing neighbours F mask marker T → (p q : Place) → In F p → In F q
        → Beside neighbours p q → SetAt T p → SetAt mask q → SetAt result q
    growing_step T g p q ip iq b set m =
        let s = g.sound p ip in
        let v = grown_one_bit p ip in
        grown_step p q ip iq b (omega arith) m

    pub steady_grown : (T : Picture) → Growing neighbours F mask marker T → Steady neighbours F mask T
        → Alike F T result
    steady_grown T g steady p i =
        le_antisymm (g.sound p i) (grown_least T g.begun (steady_once T g.one_bit steady) p i)

  -- ---- a second run changes nothing
  pub grown_twice : (marker : Picture) → LiesWithin F marker mask
      → Alike F (grown neighbours F mask (grown neighbours F mask marker)) (grown neighbours F mask marker)
  grown_twice marker within p i =
      let once-grown = grown neighbours F mask marker in
      le_antisymm
      (grown_least once-grown (within_mask marker within) once-grown
      (within_refl F once-grown) (grown_ended marker within) p i)
      (marker_within once-grown (within_mask marker within) p i)

-- ---- no point outside the frame counts, of the marker or of the mask
module _ (neighbours : Neighbours) (F : Frame) (mask mask' : Picture) (same : Alike F mask mask') where
  once_alike : (A C : Picture) → Alike F A C
      → Alike F (grown_once neighbours F mask A) (grown_once neighbours F mask' C)
  unfolding grown_once
  once_alike A C h p i = ap₂ min (dilate_alike flat F (around neighbours) A C h p) (same p i)

  times_alike : (A C : Picture) → Alike F A C → (n : ℕ)
      → Alike F (grown_times n neighbours F mask A) (grown_times n neighbours F mask' C)
  unfolding grown_times
  times_alike A C h zero = h
  times_alike A C h (suc n) = once_alike _ _ (times_alike A C h n)

  pub grown_alike : (marker marker' : Picture) → Alike F marker marker'
      → Alike F (grown neighbours F mask marker) (grown neighbours F mask' marker')
  unfolding grown
  grown_alike marker marker' h = times_alike marker marker' h (F.bins * F.pings)

-- so a picture that is the same in the frame as what the marker grows to is that too
pub alike_grown : (neighbours : Neighbours) (F : Frame) (mask marker : Picture) → Bounded 1 F mask
    → LiesWithin F marker mask → (C : Picture) → Alike F C (grown neighbours F mask marker)
    → Grown neighbours F mask marker C
alike_grown neighbours F mask marker bm within C h =
    let g = grown_is neighbours F mask bm marker within in
    record {
      times = g.times;
      is_grown = λ p i. h p i ∙ g.is_grown p i;
      no_change = λ p i. once_alike neighbours F mask mask (λ q j. refl) C _ h p i
          ∙ g.no_change p i ∙ sym (h p i);
    }
