-- What is known where an operation by one element is not refused, and what then is left in its buffers.
use Prim.Native.Nat.{ℕ, ◌≤◌}
use mathlib.Core.Path.{◌≡◌, sym, ap, ap₂, ◌∙◌}
use mathlib.Core.Bool.{Bool, true, false}
use mathlib.Core.List.{List}
use native.Mathlib.Nat.{le_of_eq}
use native.Mathlib.Omega.{arith}
use lib.ListN.{length}
use Rattle.answer.specs.declared.Told.{Told}
use Rattle.answer.specs.Answer.{plain, is_done}
use Rattle.answer.specs.Refuse.{refuse}
use Rattle.answer.specs.Lent.{unless_refused}
use Rattle.answer.proofs.Lent.{kept_by, made_by_lem}
use Rattle.basics.specs.Bytes.{Bytes}
use Rattle.picture.specs.declared.Depth.{Depth}
use Rattle.picture.specs.Frame.{Holds}
use Rattle.picture.specs.Points.{value_at}
use Rattle.picture.specs.Bytes.{written}
use Rattle.element.specs.declared.Element.{Element}
use Rattle.element.specs.Descriptor.{cells_made, well_made}
use Rattle.element.specs.Record.{element_of}
use Rattle.element.proofs.WellMade.{made_cells}
use Rattle.judge.specs.declared.Padding.TheVariants.{Free}
use Rattle.judge.specs.Tests.{Admitted, element_tests}
use Rattle.judge.proofs.Admitted.{holds, told_admitted}
use Rattle.rows.specs.Steps.Ready.{Ready}
use Rattle.apply.specs.Steps.Applied.{flat_of, flat_twice_by}
use Rattle.apply.proofs.Applied.{ready}
use Rattle.apply.proofs.Read.{fitting, flat_written, flat_twice_written}
use Rattle.flat.specs.Flat.{flat_answer, flat_left}
use Rattle.flat.specs.Steps.Ways.{once_by, twice_by}

pub record Known (depth : Depth) (w h : ℕ) (s d : List ℕ) (room : ℕ) (answer : Told) : Type 0 where
  pub given : answer ≡ flat_answer depth w h s d room
  pub done : is_done answer ≡ true
  pub cells : cells_made d ≡ true
  pub admitted : Admitted Free depth w h s 0 room

-- by the depth and the descriptor as they were found, and the room as it was counted
module _ (depth : Depth) (w h : ℕ) (s d : List ℕ) {found : Depth} {n room : ℕ} {made : Bool} {answer : Told}
    (ef : found ≡ depth) (en : n ≡ room) (em : made ≡ well_made d)
    (ea : answer ≡ refuse (element_tests Free found w h s made n) (plain 0)) where
  answer_is : answer ≡ flat_answer depth w h s d room
  answer_is =
      ea ∙ ap (λ f. refuse (element_tests Free f w h s made n) (plain 0)) ef
      ∙ ap₂ (λ m n. refuse (element_tests Free depth w h s m n) (plain 0)) em en

  -- a buffer where the call is refused
  pub refused_left : is_done answer ≡ false → (t made : List ℕ)
      → t ≡ unless_refused (flat_answer depth w h s d room) t made
  refused_left e t made = kept_by t made _ _ answer_is e

  pub known : is_done answer ≡ true → Known depth w h s d room answer
  known e =
      let k = told_admitted Free depth w h s (well_made d) room answer answer_is e in
      record { given = answer_is; done = e; cells = made_cells d k.1; admitted = k.0 }

module _ {depth : Depth} {w h : ℕ} {s d : List ℕ} {room : ℕ} {answer : Told}
    (k : Known depth w h s d room answer) where
  pub room_holds : (n : ℕ) → room ≤ n → Holds depth n w h
  room_holds n l = holds Free depth w h s n k.admitted.sized (omega (arith, l, k.admitted.roomy))

  module _ (e : Element) (q : e ≡ element_of d) where
    pub element_ready : Ready depth (length s) (length e.rows) w h e.outline
    element_ready =
        ready depth _ _ w h e.outline
        (holds Free depth w h s _ k.admitted.sized (le_of_eq (sym k.admitted.whole)))
        (fitting d k.cells e q)

    -- what an operation leaves, and the two of an opening or a closing
    module _ (b : Bytes d) (t u : List ℕ) (grows by : Bool) (eg : grows ≡ by) where
      pub once_left : u ≡ written depth (flat_of grows depth s w h e.outline e.rows) w h t
          → u ≡ flat_left depth (once_by by depth) w h s d room t
      once_left eu =
          made_by_lem t _ _ _ k.given _ k.done
          (flat_written d k.cells b e q by w h (value_at depth s w) t u depth
          (eu ∙ ap (λ g. written depth (flat_of g depth s w h e.outline e.rows) w h t) eg))

      pub twice_left : u
          ≡ written depth (flat_twice_by grows depth w h e.outline e.rows (value_at depth s w)) w h t
          → u ≡ flat_left depth (twice_by by depth) w h s d room t
      twice_left eu =
          made_by_lem t _ _ _ k.given _ k.done
          (flat_twice_written d k.cells b e q by w h (value_at depth s w) t u depth
          (eu ∙ ap (λ g. written depth
          (flat_twice_by g depth w h e.outline e.rows (value_at depth s w)) w h t) eg))
