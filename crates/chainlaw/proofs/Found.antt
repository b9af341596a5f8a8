-- The search finds a chain for every rectangle that can have one.
use Prim.Native.Nat.{ℕ, zero, suc, ◌+◌, ◌-◌, ◌*◌, ◌≤◌, ◌<◌, min, max}
use mathlib.Core.Path.{◌≡◌, refl, sym, ap, ap₂, ◌∙◌, subst}
use mathlib.Core.Bool.{Bool, true, false, cond, not, ◌&&◌, false≢true}
use mathlib.Core.List.{List, ◌∷◌}
use mathlib.Core.Logic.{⊎_elim}
use native.Mathlib.Omega.{arith}
use borrow.Author.Tests.{le-leb, lt-ltb}
use lib.Dec.{T}
use lib.ListN.{get_or}
use Rattle.answer.specs.declared.Told.{Told}
use Rattle.answer.specs.Answer.{told, plain, is_done}
use Rattle.answer.specs.Refuse.{refuse}
use Rattle.answer.proofs.Lent.{all_done}
use Rattle.basics.specs.Bytes.{Bytes}
use Rattle.basics.specs.Lists.{joined}
use Rattle.element.specs.Shape.{Shape}
use Rattle.element.specs.Descriptor.{wide_of, high_of, origin_column_of, origin_row_of, well_made}
use Rattle.element.specs.Descriptor.{shape_in}
use Rattle.element.specs.Record.{cell_on, shape_of}
use Rattle.element.proofs.Cells.{cell_same}
use Rattle.element.proofs.WellMade.{cells_tell, made_cells}
use Rattle.faults.specs.Verdicts.{answer_of}
use Rattle.morphology.specs.Check.{Taken, check_of}
use Rattle.chain.specs.Reading.{link_tests, chain_tests, check_tests, links_in, checked}
use Rattle.chain.proofs.Checking.{well_chained}
use Rattle.hulls.specs.declared.Hull.{Hull}
use Rattle.hulls.specs.declared.Side.{Side}
use Rattle.hulls.specs.Extent.{extent_of}
use Rattle.hulls.specs.Hull.{hull_in, rows_in, side_of, hull_by, hull_of}
use Rattle.candidates.specs.Candidates.{try_no, needed, links_of, link_bytes, chain_by}
use Rattle.dividing.specs.Least.{least_from}
use Rattle.chainfor.specs.Find.{tries, accepts, first_try, is_tried, sum_way, sums, is_searched}
use Rattle.chainfor.specs.Find.{is_found}
use Rattle.candidates.proofs.Numbers.{needs_one, needs_two, needs_three, needs_four, needs_five}
use Rattle.hulls.proofs.Hulls.{rows_in_lem}
use Rattle.chainlaw.specs.Boxes.{Filled, InReach}
use Rattle.chainlaw.proofs.Parts.{le_or}
use Rattle.chainlaw.proofs.Walks.{PartOf, PartsFrom, Ended, end_of}
use Rattle.chainlaw.proofs.Links.{box, link_made, link_small, link_part}
use Rattle.chainlaw.proofs.Chains.{shapes_from, none_refused, links_are, parts_are, end_is}
use Rattle.chainlaw.proofs.Measured.{all_around, all_inside, within_near}
use Rattle.chainlaw.proofs.Accepted.{Adds, side_adds, box_taken}

-- as many links of 7 as a side needs are enough
record Enough (n k : ℕ) : Type 0 where
  all : n ≤ 7 * k
  some : 1 ≤ k
  few : k ≤ 5

enough : (n : ℕ) → n ≤ 35 → Enough n (needed 7 n)
enough n h =
    ⊎_elim (λ a. at 1 (needs_one 7 n a) (record {
      all = omega (arith, a);
      some = omega arith;
      few =
          omega arith;
    }))
    (λ a. ⊎_elim (λ b. at 2 (needs_two 7 n a b) (record {
      all = omega (arith, b);
      some =
          omega arith;
      few = omega arith;
    }))
    (λ b. ⊎_elim (λ c. at 3 (needs_three 7 n a b c) (record {
      all = omega (arith, c);
      some =
          omega arith;
      few = omega arith;
    }))
    (λ c. ⊎_elim (λ d. at 4 (needs_four 7 n a b c d) (record {
      all = omega (arith, d);
      some =
          omega arith;
      few = omega arith;
    }))
    (λ d. at 5 (needs_five 7 n a b c d) (record {
      all = omega (arith, h);
      some = omega arith;
      few =
          omega arith;
    }))
    (le_or n (4 * 7))) (le_or n (3 * 7))) (le_or n (2 * 7))) (le_or n 7)
  where
    at : (k : ℕ) → needed 7 n ≡ k → Enough n k → Enough n (needed 7 n)
    at k e f = subst (Enough n) (sym e) f

-- the first that passes comes no later than one that passes
least_by : (p : ℕ → Bool) (n i j : ℕ) → i ≤ j → j < i + n → p j ≡ true → least_from p i n ≤ j
unfolding least_from
least_by p zero i j a b e = absurd (omega (arith, a, b))
least_by p (suc n) i j a b e =
    by (p i) refl (λ h. least_by p n (suc i) j h (omega (arith, b)) e)
  where
    same : (i j : ℕ) → i ≤ j → j < suc i → i ≡ j
    same i j a h = omega arith

    by : (t : Bool) → p i ≡ t → (suc i ≤ j → least_from p (suc i) n ≤ j)
        → cond t i (least_from p (suc i) n) ≤ j
    by true q f = a
    by false q f =
        ⊎_elim f (λ h. absurd (false≢true (sym q ∙ ap p (same i j a h) ∙ e))) (le_or (suc i) j)

module _ (d : List ℕ) (bytes : Bytes d) (made : well_made d ≡ true) (c e r s : ℕ)
    (F : Filled (shape_in d) c e r s) (R : InReach (shape_in d) c e r s) where
  -- the cells of the record are those of the descriptor
  cell_on_lem : (x y : ℕ) → x < wide_of d → y < high_of d
      → cell_on (get_or (rows_in d) y 0) x ≡ (shape_in d).has x y
  unfolding shape_of
  cell_on_lem x y hx hy = ap (λ l. cell_on (get_or l y 0) x) (sym (rows_in_lem d))
      ∙ cell_same d bytes (made_cells d made) x y hx hy

  H : Hull
  H = hull_in d

  -- ---- what is measured
  abbrev x0 : Type 0
  x0 = ((extent_of (rows_in d) (wide_of d) (high_of d)).left ≡ c)
      × ((extent_of (rows_in d) (wide_of d) (high_of d)).right ≡ e)
      × ((extent_of (rows_in d) (wide_of d) (high_of d)).top ≡ r)
      × ((extent_of (rows_in d) (wide_of d) (high_of d)).bottom ≡ s)

  ends : x0
  unfolding shape_in
  ends =
      let t = cells_tell d (made_cells d made) in
      let c-in : c < wide_of d = omega (arith, F.across, F.right) in
      let r-in : r < high_of d = omega (arith, F.down, F.lower) in
      let a = all_around (rows_in d) (wide_of d) c r (high_of d) c-in r-in
      (subst T (sym (cell_on_lem c r c-in r-in)) (F.set c r (omega arith) F.across (omega arith)
      F.down)) in
      let b = all_around (rows_in d) (wide_of d) e s (high_of d) F.right F.lower
      (subst T (sym (cell_on_lem e s F.right F.lower)) (F.set e s F.across (omega arith)
      F.down (omega arith))) in
      let i = all_inside c e r s (omega (arith, c-in, t.few_wide)) (omega (arith, r-in, t.few_high))
      (rows_in d) (wide_of d) (high_of d)
      (λ x y hx hy on. F.unset x y hx hy (subst T (cell_on_lem x y hx hy) on)) in (
        omega (arith, a.left, i.left),
        omega (arith, b.right, i.right),
        omega (arith, a.top, i.top),
        omega (arith, b.bottom, i.bottom),
      )

  across_adds : Adds (origin_column_of d) c e H.across
  unfolding H hull_in hull_of hull_by
  across_adds =
      subst (Adds (origin_column_of d) c e) (sym (ap₂ (side_of (origin_column_of d)) ends.0 ends.1))
      (side_adds (origin_column_of d) c e F.across)

  down_adds : Adds (origin_row_of d) r s H.down
  unfolding H hull_in hull_of hull_by
  down_adds =
      subst (Adds (origin_row_of d) r s) (sym (ap₂ (side_of (origin_row_of d)) ends.2 ends.3))
      (side_adds (origin_row_of d) r s F.down)

  -- ---- the box's candidate
  k : ℕ
  k = links_of H box

  R-of : ℕ → List ℕ
  R-of = link_bytes H box

  record Fit (o f l : ℕ) (S : Side) : Type 0 where
    origin_in : S.origin ≤ S.span
    last_in : S.last ≤ S.span
    first_in : S.first ≤ S.last
    reach : S.span ≤ 35

  fit : (o f l : ℕ) (S : Side) → f ≤ l → max o l - min o f ≤ 35 → Adds o f l S → Fit o f l S
  fit o f l S h q a =
      record {
        origin_in = omega (arith, a.origin, a.span);
        last_in = omega (arith, a.last, a.span);
        first_in = omega (arith, a.first, a.last, h);
        reach = few S.span (max o l) (min o f) a.span q;
      }
    where
      few : (s m n : ℕ) → s + n ≡ m → m - n ≤ 35 → s ≤ 35
      few s m n e h = omega arith

  fx : Fit (origin_column_of d) c e H.across
  unfolding shape_in
  fx = fit (origin_column_of d) c e H.across F.across R.columns across_adds

  fy : Fit (origin_row_of d) r s H.down
  unfolding shape_in
  fy = fit (origin_row_of d) r s H.down F.down R.rows down_adds

  k_enough : Enough (max H.across.span H.down.span) k
  unfolding k links_of
  k_enough = enough (max H.across.span H.down.span) (omega (arith, fx.reach, fy.reach))

  all_made : (i : ℕ) → well_made (R-of i) ≡ true
  unfolding R-of
  all_made i = link_made H fx.origin_in fx.last_in fx.first_in fy.origin_in fy.last_in
      fy.first_in i

  tests_pass : (after : Told) → refuse (check_tests d k (chain_by H box)) after ≡ after
  unfolding check_tests chain_tests chain_by k R-of
  tests_pass after =
      ap₂ (λ a b. refuse ((not a, 4) ∷ (not b, 6) ∷ link_tests k (joined R-of k)) after) made
      (ap₂ (λ a b. a && b) (le-leb 1 k k_enough.some) (le-leb k 5 k_enough.few))
      ∙ none_refused k R-of all_made
      (λ i. link_small H fx.origin_in fx.last_in fx.first_in fy.origin_in fy.last_in
      fy.first_in i) after

  links : links_in k (chain_by H box) ≡ shapes_from R-of k
  unfolding chain_by k R-of
  links = links_are k R-of all_made

  taken : check_of (shape_in d) (links_in k (chain_by H box)) ≡ Taken
  unfolding shape_in R-of
  taken =
      box_taken (shape_in d) c e r s F H.across H.down across_adds down_adds (links_in k
      (chain_by H box))
      (subst (λ (l : List Shape). PartsFrom H.across H.down 0 l) (sym links) parts)
      (subst (λ (l : List Shape). Ended H.across H.down (end_of H.across H.down 0 l))
      (sym links) ended)
      (well_chained d (chain_by H box) k (tests_pass (plain 0)))
    where
      same : (n : ℕ) → n ≡ 0 + n
      same n = omega arith

      parts : PartsFrom H.across H.down 0 (shapes_from R-of k)
      parts = parts_are H.across H.down k 0 R-of
          (λ n. subst (λ m. PartOf H.across H.down m (shape_in (R-of n))) (same n)
          (link_part H fx.origin_in fx.last_in fx.first_in fy.origin_in fy.last_in
          fy.first_in n))

      ended : Ended H.across H.down (end_of H.across H.down 0 (shapes_from R-of k))
      ended =
          subst (Ended H.across H.down) (sym (end_is H.across H.down k 0 R-of))
          (record {
            across = (
              omega (arith, k_enough.all, fx.first_in, fx.last_in),
              omega (arith, k_enough.all, fx.last_in),
              omega (arith, k_enough.all, fx.origin_in),
            );
            down = (
              omega (arith, k_enough.all, fy.first_in, fy.last_in),
              omega (arith, k_enough.all, fy.last_in),
              omega (arith, k_enough.all, fy.origin_in),
            );
          })

  accepted : accepts d H 1 ≡ true
  unfolding accepts checked try_no k answer_of told
  accepted =
      ap is_done (tests_pass (told (answer_of (check_of (shape_in d) (links_in k (chain_by H box)))))
      ∙ ap (λ v. told (answer_of v)) taken) ∙ all_done

  pub box_found : is_found d ≡ true
  unfolding is_found is_searched is_tried first_try H
  box_found =
      ap₂ (λ a b. a && cond b true (sums d (sum_way d))) (within_near (hull_in d) fx.reach fy.reach)
      (lt-ltb (first_try d (hull_in d)) tries
      (omega (arith, least_by (accepts d (hull_in d)) tries 0 1 (omega arith) (omega arith) accepted)))
