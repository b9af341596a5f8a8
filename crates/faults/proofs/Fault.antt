-- The test of an offset from the boards is the test of the definition,
-- and the answer of what is found is the verdict's.
use Prim.Native.Nat.{ℕ, ◌+◌, ◌-◌, ◌/◌, ◌%◌, ◌≤◌}
use mathlib.Core.Path.{◌≡◌, refl, sym, ap, ◌∙◌}
use mathlib.Core.Bool.{Bool, true, false, not, cond, false≢true}
use mathlib.Core.List.{List}
use native.Mathlib.Omega.{arith}
use lib.Dec.{T}
use lib.ListN.{take}
use Rattle.std.specs.Prelude.{Ok, Err}
use Rattle.answer.specs.declared.Refusal.{Refusal}
use Rattle.answer.specs.Answer.{told}
use Rattle.element.specs.declared.Element.{Element}
use Rattle.element.specs.Shape.{Shape}
use Rattle.element.specs.Descriptor.{most_cells}
use Rattle.element.specs.Record.{shape_of}
use Rattle.morphology.specs.Step.{Place}
use Rattle.morphology.specs.Chain.{Chained, most_links}
use Rattle.morphology.specs.Check.{still, has_test, sum_test, path_test, fault_test, Taken, Split, check_of}
use Rattle.morphology.proofs.Places.{BetweenAt}
use Rattle.morphology.proofs.Walks.{weaken}
use Rattle.morphology.proofs.Tests.{path_sound, sum_complete}
use Rattle.reach.specs.declared.Link.{Link}
use Rattle.reach.specs.declared.Offset.{Offset}
use Rattle.reach.specs.declared.Board.{Board}
use Rattle.reach.specs.Steps.Links.{shapes_of, place_of, Linked}
use Rattle.reach.specs.Steps.Boards.{board_of, everywhere_of, holds_of}
use Rattle.reach.proofs.Meaning.{sum_told}
use Rattle.faults.specs.Verdicts.{answer_of}
use Rattle.faults.specs.Steps.Scan.{fault_by, least, row_offsets, all_offsets, offset_no}
use Rattle.faults.proofs.Seek.{place_no, seek, scan_seek}
use Rattle.faults.proofs.Fixed.{fixed_scan}

-- ---- the test from what is at hand
pub by_path : (h s p b : Bool) → h ≡ true → s ≡ true → b ≡ p → not b ≡ fault_by h s p
unfolding fault_by
by_path h s p b eh es eb = simp (eh, es, eb)

pub no_sum : (h s p : Bool) → h ≡ true → s ≡ false → true ≡ fault_by h s p
unfolding fault_by
no_sum h s p eh es = simp (eh, es)

pub by_sum : (h s p b : Bool) → h ≡ false → b ≡ s → b ≡ fault_by h s p
unfolding fault_by
by_sum h s p b eh es = simp (eh, es)

-- ---- the test of the definition
path_sum : (Bs : List Shape) (e : Place) → path_test Bs e ≡ true → sum_test Bs e ≡ true
path_sum Bs e h =
    truly (sum_test Bs e) (sum_complete Bs e
    (weaken (BetweenAt e) (λ p. Unit {0}) (λ p b. tt) Bs still e
    (path_sound Bs e (holds (path_test Bs e) h))))
  where
    holds : (b : Bool) → b ≡ true → T b
    holds true e = tt
    holds false e = absurd (false≢true e)

    truly : (b : Bool) → T b → b ≡ true
    truly true t = refl
    truly false t = absurd t

-- where the offset is no sum there is no path to it either
fault_is : (E : Shape) (Bs : List Shape) (e : Place)
    → fault_by (has_test E e) (sum_test Bs e) (path_test Bs e) ≡ fault_test E Bs e
unfolding fault_by fault_test
fault_is E Bs e = by (has_test E e) (sum_test Bs e) (path_test Bs e) (path_sum Bs e)
  where
    by : (h s p : Bool) → (p ≡ true → s ≡ true)
        → cond h (cond s (not p) true) s ≡ elim h [ true ↦ not p | false ↦ s ]
    by true true p f = refl
    by true false true f = absurd (false≢true (f refl))
    by true false false f = refl
    by false s p f = refl

module _ (e : Element) (links : List Link) (k : ℕ)
    (C : Chained (shape_of e) (shapes_of (take k links))) (few : k ≤ most_links) where
  pub linked : Linked links k
  linked = record { few = few; small = C.links }

  pub seek_start : seek (fault_test (shape_of e) (shapes_of (take k links))) 0 (all_offsets - 0)
      ≡ check_of (shape_of e) (shapes_of (take k links))
  seek_start = scan_seek _ ∙ fixed_scan (shape_of e) (shapes_of (take k links)) C

  -- what is found at the offset number n
  pub fault_told : (sums : Board) → sums ≡ board_of everywhere_of (take k links)
      → (n : ℕ) (at : Offset) (r : Bool) → at ≡ offset_no n
      → r ≡ fault_by (has_test (shape_of e) (place_of at)) (holds_of sums.words sums.origin at)
      (path_test (shapes_of (take k links)) (place_of at))
      → fault_test (shape_of e) (shapes_of (take k links)) (place_no n) ≡ r
  fault_told sums s n at r ea er =
      ap (λ (a : Offset). fault_test (shape_of e) (shapes_of (take k links)) (place_of a)) (sym ea)
      ∙ sym (fault_is (shape_of e) (shapes_of (take k links)) (place_of at))
      ∙ ap (λ b. fault_by (has_test (shape_of e) (place_of at)) b
      (path_test (shapes_of (take k links)) (place_of at))) (sym (sum_told links k linked sums at s))
      ∙ sym er

  -- the answer of what is found, and of nothing found
  pub found_told : (n : ℕ) (at : Offset) → at ≡ offset_no n
      → Split (least + n % row_offsets) (least + n / row_offsets)
      ≡ check_of (shape_of e) (shapes_of (take k links))
      → told {A = Unit {0}} (Err (Refusal.Split at.x at.y))
      ≡ told (answer_of (check_of (shape_of e) (shapes_of (take k links))))
  unfolding answer_of
  found_told n at ea q =
      ap (λ (a : Offset). told {A = Unit {0}} (Err (Refusal.Split a.x a.y))) ea
      ∙ ap (λ v. told (answer_of v)) q

  pub none_told : Taken ≡ check_of (shape_of e) (shapes_of (take k links))
      → told (Ok (tt {0})) ≡ told (answer_of (check_of (shape_of e) (shapes_of (take k links))))
  unfolding answer_of
  none_told q = ap (λ v. told (answer_of v)) q

  pub element_sized : (e.outline.w ≤ most_cells) × (e.outline.h ≤ most_cells)
  unfolding shape_of
  element_sized = let f = C.element in (omega arith, omega arith)
