-- Where values come out beyond the sizes of the cells that raise, nothing had to hold an end.
use Prim.Native.Nat.{ℕ, ◌+◌, ◌-◌, ◌/◌, ◌%◌, ◌≤◌, ◌<◌, min}
use mathlib.Core.Path.{◌≡◌, refl, sym, subst}
use mathlib.Core.Bool.{Bool, true, false, cond, not}
use mathlib.Core.List.{List}
use mathlib.Core.Logic.{⊎_elim}
use native.Mathlib.Omega.{arith}
use lib.Dec.{eqb}
use lib.ListN.{length, get_or}
use borrow.Author.Tests.{eqb-true}
use Rattle.basics.proofs.SliceParts.{below_or_not}
use Rattle.windows.specs.Steps.Bounds.{Bound}
use Rattle.windows.proofs.Bounds.{fold_to, fold_from}
use Rattle.weighblocks.specs.Steps.Lift.{lift_by}
use Rattle.weighblocks.specs.Steps.Cells.{found_by, at_cells, both_at}
use Rattle.freeblocks.specs.Steps.Plain.{plain_by, plain_found, plain_cells, plain_both, turned_by, Under}

-- ---- one cell that raises: the end that is held keeps back what it makes, which is no more than the size
held_to : (grows : Bool) (g v z : ℕ) → Bound grows (plain_by grows g v) z
    → Bound grows (lift_by grows true g v) z
held_to true g v z h = by (eqb v 0)
  where
    by : (t : Bool) → cond t 0 (min 255 (v + g)) ≤ z
    by true = omega arith
    by false = h
held_to false g v z h = by (eqb v 255) refl
  where
    by : (t : Bool) → eqb v 255 ≡ t → z ≤ cond t 255 (v - g)
    by true e = let q : v ≡ 255 = eqb-true v 255 e in omega (arith, h)
    by false e = h

plain_to : (grows : Bool) (g v z : ℕ) → g ≤ turned_by grows z
    → Bound grows (lift_by grows true g v) z → Bound grows (plain_by grows g v) z
plain_to true g v z s h = by (eqb v 0) refl h
  where
    by : (t : Bool) → eqb v 0 ≡ t → cond t 0 (min 255 (v + g)) ≤ z → min 255 (v + g) ≤ z
    by true e h = let q : v ≡ 0 = eqb-true v 0 e in omega arith
    by false e h = h
plain_to false g v z s h = by (eqb v 255) refl h
  where
    by : (t : Bool) → eqb v 255 ≡ t → z ≤ cond t 255 (v - g) → z ≤ v - g
    by true e h = let q : v ≡ 255 = eqb-true v 255 e in omega (arith, h)
    by false e h = h

-- one that does not raise finds the same
other_is : (grows : Bool) (g v : ℕ) → plain_by (not grows) g v ≡ lift_by grows false g v
other_is true g v = refl
other_is false g v = refl

-- ---- both lists
module _ (grows : Bool) (b : List ℕ) (m : ℕ) (rising others : List ℕ) (v : ℕ) where
  abbrev plain : ℕ
  plain = plain_both grows v b m rising others

  abbrev held : ℕ
  held = both_at grows v b m rising others

  plain_start : (z : ℕ) → Bound grows plain z → Bound grows v z
  unfolding plain_both plain_cells
  plain_start z h =
      let f = fold_to grows (plain_cells grows grows v b m rising (length rising))
      (λ j. plain_found (not grows) b m (get_or others j 0)) z (length others) h in
      (fold_to grows v (λ j. plain_found grows b m (get_or rising j 0)) z (length rising) f.0).0

  held_start : (z : ℕ) → Bound grows held z → Bound grows v z
  unfolding both_at at_cells
  held_start z h =
      let f = fold_to grows (at_cells grows true v b m rising (length rising))
      (λ j. found_by grows false b m (get_or others j 0)) z (length others) h in
      (fold_to grows v (λ j. found_by grows true b m (get_or rising j 0)) z (length rising) f.0).0

  plain_held : (z : ℕ) → Bound grows plain z → Bound grows held z
  unfolding plain_both plain_cells both_at at_cells
  plain_held z h =
      let f = fold_to grows (plain_cells grows grows v b m rising (length rising))
      (λ j. plain_found (not grows) b m (get_or others j 0)) z (length others) h in
      let g = fold_to grows v (λ j. plain_found grows b m (get_or rising j 0)) z (length rising) f.0 in
      fold_from grows (at_cells grows true v b m rising (length rising))
      (λ j. found_by grows false b m (get_or others j 0)) z (length others)
      (fold_from grows v (λ j. found_by grows true b m (get_or rising j 0)) z (length rising) g.0
      (λ j l. held_to grows (get_or rising j 0 % 256) (get_or b (m + get_or rising j 0 / 256) 0) z (g.1 j l)))
      (λ j l. subst (λ x. Bound grows x z)
      (other_is grows (get_or others j 0 % 256) (get_or b (m + get_or others j 0 / 256) 0)) (f.1 j l))

  held_plain : (z : ℕ) → ((j : ℕ) → j < length rising → get_or rising j 0 % 256 ≤ turned_by grows z)
      → Bound grows held z → Bound grows plain z
  unfolding plain_both plain_cells both_at at_cells
  held_plain z far h =
      let f = fold_to grows (at_cells grows true v b m rising (length rising))
      (λ j. found_by grows false b m (get_or others j 0)) z (length others) h in
      let g = fold_to grows v (λ j. found_by grows true b m (get_or rising j 0)) z (length rising) f.0 in
      fold_from grows (plain_cells grows grows v b m rising (length rising))
      (λ j. plain_found (not grows) b m (get_or others j 0)) z (length others)
      (fold_from grows v (λ j. plain_found grows b m (get_or rising j 0)) z (length rising) g.0
      (λ j l. plain_to grows (get_or rising j 0 % 256) (get_or b (m + get_or rising j 0 / 256) 0) z (far j l)
      (g.1 j l)))
      (λ j l. subst (λ x. Bound grows x z)
      (sym (other_is grows (get_or others j 0 % 256) (get_or b (m + get_or others j 0 / 256) 0))) (f.1 j l))

-- equal, or else some value less far out bounds what was held, and so all
pub plain_is : (grows : Bool) (b : List ℕ) (m : ℕ) (rising others : List ℕ) (v limit : ℕ) → Under rising limit
    → limit ≤ turned_by grows (plain_both grows v b m rising others)
    → plain_both grows v b m rising others ≡ both_at grows v b m rising others
plain_is true b m rising others v limit under far =
    let p = plain_both true v b m rising others in
    let h = both_at true v b m rising others in
    let l : h ≤ p = plain_held true b m rising others v p (omega arith) in
    ⊎_elim
    (λ k. absurd (omega (
      arith,
      k,
      held_plain true b m rising others v (p - 1)
          (λ j q. omega (arith, under j q, far)) (omega (arith, k)),
    )))
    (λ k. omega (arith, l, k)) (below_or_not h p)
plain_is false b m rising others v limit under far =
    let p = plain_both false v b m rising others in
    let h = both_at false v b m rising others in
    let l : p ≤ h = plain_held false b m rising others v p (omega arith) in
    ⊎_elim
    (λ k. absurd (omega (
      arith,
      k,
      held_plain false b m rising others v (p + 1)
          (λ j q. omega (arith, under j q, far)) (omega (arith, k)),
    )))
    (λ k. omega (arith, l, k)) (below_or_not p h)

-- no join brings a value nearer to the end
pub plain_far : (grows : Bool) (b : List ℕ) (m : ℕ) (rising others : List ℕ) (v limit : ℕ)
    → limit ≤ turned_by grows v → limit ≤ turned_by grows (plain_both grows v b m rising others)
plain_far true b m rising others v limit h =
    omega (arith, h, plain_start true b m rising others v (plain_both true v b m rising others) (omega arith))
plain_far false b m rising others v limit h =
    omega (
      arith,
      h,
      plain_start false b m rising others v (plain_both false v b m rising others) (omega
          arith),
    )

pub held_far : (grows : Bool) (b : List ℕ) (m : ℕ) (rising others : List ℕ) (v limit : ℕ)
    → limit ≤ turned_by grows v → limit ≤ turned_by grows (both_at grows v b m rising others)
held_far true b m rising others v limit h =
    omega (arith, h, held_start true b m rising others v (both_at true v b m rising others) (omega arith))
held_far false b m rising others v limit h =
    omega (arith, h, held_start false b m rising others v (both_at false v b m rising others) (omega arith))
