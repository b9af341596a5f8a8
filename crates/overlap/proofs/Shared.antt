-- A shared offset as the loops find it is the definition's.
use Prim.Native.Nat.{ℕ, ◌≤◌, ◌<◌}
use mathlib.Core.Path.{◌≡◌, refl, sym, ap, ap₂, ◌∙◌}
use mathlib.Core.Bool.{Bool, true, false, cond, ◌&&◌, and-false}
use mathlib.Core.List.{List}
use lib.ListN.{get_or}
use Rattle.basics.specs.Tests.{any}
use Rattle.basics.proofs.Any.{any_same, any_never, any_stop, any_done}
use Rattle.element.specs.declared.Outline.{Outline}
use Rattle.element.specs.Record.{shape_of, shape_by, cell_on}
use Rattle.morphology.specs.Operations.{moved, within}
use Rattle.morphology.specs.Check.{step_test}
use Rattle.morphology.specs.Overlap.{shared}
use Rattle.rows.specs.Steps.Row.{place_in}
use Rattle.rows.proofs.Places.{place_out, place_in_lem}
use Rattle.overlap.specs.Steps.Shared.{cell_shared, row_shared, line_shared}

and_true : (a : Bool) → a && true ≡ a
and_true true = refl
and_true false = refl

-- ---- one cell, given the column v of the other element that stands for its offset, or none
module _ (word beside : ℕ) (first second : Outline) (c v : ℕ) where
  abbrev o : ℕ
  o = first.origin.ping.0

  abbrev o' : ℕ
  o' = second.origin.ping.0

  pub cell_unset : cell_on word c ≡ false → false ≡ cell_shared word beside first second c
  unfolding cell_shared
  cell_unset e = simp e

  module _ (ev : v ≡ place_in second.w c o' o) where
    pub cell_none : second.w ≤ v → false ≡ cell_shared word beside first second c
    unfolding cell_shared
    cell_none l =
        sym (ap (λ b. cell_on word c && (cell_on beside (moved c o' o) && b))
        (place_out second.w c o' o v ev l)
        ∙ ap (λ b. cell_on word c && b) (and-false (cell_on beside (moved c o' o)))
        ∙ and-false (cell_on word c))

    pub cell_both : (b : Bool) → cell_on word c ≡ true → v < second.w → b ≡ cell_on beside v
        → b ≡ cell_shared word beside first second c
    unfolding cell_shared
    cell_both b e l q =
        let m = place_in_lem second.w c o' o v ev l in
        q ∙ ap (cell_on beside) m.1 ∙ sym (and_true (cell_on beside (moved c o' o)))
        ∙ ap₂ (λ a t. a && (cell_on beside (moved c o' o) && t)) (sym e) (sym m.0)

-- ---- one row, given the row v of the other element that stands for its offset, or none
module _ (first : Outline) (words : List ℕ) (second : Outline) (others : List ℕ) where
  abbrev u : ℕ
  u = first.origin.bin.0

  abbrev u' : ℕ
  u' = second.origin.bin.0

  module _ (r v : ℕ) (ev : v ≡ place_in second.h r u' u) where
    pub line_none : second.h ≤ v → false ≡ line_shared first words second others r
    unfolding line_shared
    line_none l =
        sym (ap (λ b. cond b (row_shared (get_or words r 0) (get_or others (moved r u' u) 0) first second)
        false)
        (place_out second.h r u' u v ev l))

    pub line_both : (b : Bool) → v < second.h → b
        ≡ row_shared (get_or words r 0) (get_or others v 0) first second
        → b ≡ line_shared first words second others r
    unfolding line_shared
    line_both b l q =
        let m = place_in_lem second.h r u' u v ev l in
        q ∙ ap (λ v. row_shared (get_or words r 0) (get_or others v 0) first second) m.1
        ∙ ap (λ t. cond t (row_shared (get_or words r 0) (get_or others (moved r u' u) 0) first second) false)
        (sym m.0)

  line_is : (r : ℕ) → line_shared first words second others r
      ≡ any (λ c. (shape_by first words).has c r
      && step_test (shape_by second others) (record { x = first.origin.ping.0; y = u })
      (record { x = c; y = r })) first.w
  unfolding line_shared row_shared cell_shared shape_of step_test
  line_is r = by (within second.h r u' u)
    where
      a : ℕ → Bool
      a c = cell_on (get_or words r 0) c

      b : ℕ → Bool
      b c = cell_on (get_or others (moved r u' u) 0) (moved c second.origin.ping.0 first.origin.ping.0)

      p : ℕ → Bool
      p c = within second.w c second.origin.ping.0 first.origin.ping.0

      by : (t : Bool)
          → cond t (any (λ c. a c && (b c && p c)) first.w) false
          ≡ any (λ c. a c && (b c && (p c && t))) first.w
      by true = any_same _ _ first.w (λ c l. ap (λ q. a c && (b c && q)) (sym (and_true (p c))))
      by false =
          sym (any_never _ first.w (λ c.
          ap (λ q. a c && (b c && q)) (and-false (p c))
          ∙ ap (λ q. a c && q) (and-false (b c)) ∙ and-false (a c)))

  -- all rows
  lines_are : any (line_shared first words second others) first.h
      ≡ shared (shape_by first words) (shape_by second others)
  unfolding shared shape_of
  lines_are = any_same _ _ first.h (λ r l. line_is r)

  pub shared_found : (r : ℕ) → r < first.h → line_shared first words second others r ≡ true
      → true ≡ shared (shape_by first words) (shape_by second others)
  shared_found r l e = sym (any_stop (line_shared first words second others) first.h r l e) ∙ lines_are

  pub shared_never : (r : ℕ) → r ≡ first.h → any (line_shared first words second others) r ≡ false
      → false ≡ shared (shape_by first words) (shape_by second others)
  shared_never r q e = sym (any_done (line_shared first words second others) r first.h q e) ∙ lines_are
