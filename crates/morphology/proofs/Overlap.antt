-- The test of a shared offset says what it should;
-- it asks an element for nothing but its cells; and how a loop makes it.
use Prim.Native.Nat.{ℕ, ◌+◌, ◌-◌, ◌<◌}
use mathlib.Core.Path.{◌≡◌, refl, sym, ap, ap₂, ◌∙◌}
use mathlib.Core.Bool.{Bool, true, false, ◌&&◌}
use native.Mathlib.Omega.{arith}
use lib.Dec.{T, leb, ltb}
use lib.IntN.{sub_ℕ}
use borrow.Author.Tests.{ltb-true}
use Rattle.basics.proofs.Tests.{both}
use Rattle.element.specs.Shape.{Shape, Offset}
use Rattle.morphology.specs.Step.{Cell, cell_offset, Has}
use Rattle.morphology.specs.Operations.{moved, within}
use Rattle.morphology.specs.Check.{step_test}
use Rattle.basics.specs.Tests.{any}
use Rattle.morphology.specs.Overlap.{cell_place, origin_place, shared}
use Rattle.basics.proofs.Truth.{and_intro, and_parts}
use Rattle.morphology.proofs.Integers.{sub_eq, sub_same}
use Rattle.morphology.proofs.Tests.{step_sound, step_complete}
use Rattle.basics.proofs.Any.{any_intro, any_elim, any_same}
use Rattle.morphology.proofs.Cells.{with_cells}

-- ---- the test holds exactly where some offset is one of both elements
module _ (B C : Shape) where
  abbrev cell_shared : ℕ → ℕ → Bool
  cell_shared r c = B.has c r && step_test C (origin_place B) (cell_place c r)

  pub shared_sound : T (shared B C) → (o : Offset) × (Has B o × Has C o)
  unfolding shared
  shared_sound t =
      let j = any_elim (λ r. any (cell_shared r) B.wide) B.high t in
      let i = any_elim (cell_shared j.0) B.wide j.2 in
      let a = and_parts (B.has i.0 j.0)
      (step_test C (origin_place B) (cell_place i.0 j.0)) i.2 in
      let s = step_sound C (origin_place B) (cell_place i.0 j.0) a.1 in
      let k : Cell B =
      record { column = i.0; row = j.0; in_width = i.1; in_height = j.1; set = a.0 } in (
        cell_offset B k,
        (
          (k, refl),
          (
            s.cell,
            same s.cell.column C.origin_column i.0 B.origin_column
                s.cell.row C.origin_row j.0 B.origin_row s.across s.down,
          ),
        ),
      )
    where
      same : (c o c' o' r u r' u' : ℕ) → c' + o ≡ o' + c → r' + u ≡ u' + r
          → ◌≡◌ {A = Offset} (record { dx = sub_ℕ c o; dy = sub_ℕ r u })
          (record { dx = sub_ℕ c' o'; dy = sub_ℕ r' u' })
      same c o c' o' r u r' u' ex ey =
          λ i. record { dx = sub_eq c o c' o' (omega arith) i; dy = sub_eq r u r' u' (omega arith) i }

  pub shared_complete : (o : Offset) → Has B o → Has C o → T (shared B C)
  unfolding shared
  shared_complete o k l =
      let e = k.1 ∙ sym l.1 in
      let ex = sub_same k.0.column B.origin_column l.0.column
      C.origin_column (ap (λ (o : Offset). o.dx) e) in
      let ey = sub_same k.0.row B.origin_row l.0.row
      C.origin_row (ap (λ (o : Offset). o.dy) e) in
      any_intro (λ r. any (cell_shared r) B.wide) B.high k.0.row k.0.in_height
      (any_intro (cell_shared k.0.row) B.wide k.0.column k.0.in_width
      (and_intro (B.has k.0.column k.0.row) _ k.0.set
      (step_complete C (origin_place B) (cell_place k.0.column k.0.row)
      (record { cell = l.0; across = omega arith; down = omega arith }))))

-- ---- elements of one size and origin with the same cells share the same
within_same : (a b w : Bool) → (w ≡ true → a ≡ b) → a && w ≡ b && w
within_same true true w e = refl
within_same true false true e = e refl
within_same true false false e = refl
within_same false true true e = e refl
within_same false true false e = refl
within_same false false w e = refl

module _ (B C : Shape) (has_b hasC : ℕ → ℕ → Bool)
    (sameB : (c r : ℕ) → c < B.wide → r < B.high → B.has c r ≡ has_b c r)
    (sameC : (c r : ℕ) → c < C.wide → r < C.high → C.has c r ≡ hasC c r) where
  pub shared_cells : shared B C ≡ shared (with_cells B has_b) (with_cells C hasC)
  unfolding shared step_test
  shared_cells =
      any_same _ _ B.high (λ r lr. any_same _ _ B.wide (λ c lc.
      ap₂ ◌&&◌ (sameB c r lc lr)
      (within_same (C.has (column c) (row r)) (hasC (column c) (row r)) _
      (λ t. let k = both (within C.wide c C.origin_column B.origin_column)
      (within C.high r C.origin_row B.origin_row) t in
      sameC (column c) (row r) (inside _ _ _ _ k.0) (inside _ _ _ _ k.1)))))
    where
      column : ℕ → ℕ
      column c = moved c C.origin_column B.origin_column

      row : ℕ → ℕ
      row r = moved r C.origin_row B.origin_row

      inside : (n p plus minus : ℕ) → within n p plus minus ≡ true → moved p plus minus < n
      inside n p plus minus t =
          ltb-true (moved p plus minus) n (both (leb minus (p + plus)) (ltb (moved p plus minus) n) t).1
