-- What is known where an operation by a weighted element is not refused,
-- and what then is left in its buffers.
use Prim.Native.Nat.{ℕ, ◌-◌, ◌≤◌}
use mathlib.Core.Path.{◌≡◌, sym, ap, ap₂, ◌∙◌}
use mathlib.Core.Bool.{Bool, true, false}
use mathlib.Core.List.{List}
use native.Mathlib.Nat.{le_of_eq}
use native.Mathlib.Omega.{arith}
use lib.ListN.{length, take, drop}
use Rattle.answer.specs.declared.Told.{Told}
use Rattle.answer.specs.Answer.{plain, is_done}
use Rattle.answer.specs.Refuse.{refuse}
use Rattle.answer.specs.Lent.{unless_refused}
use Rattle.answer.proofs.Lent.{kept_by, made_by_lem}
use Rattle.basics.specs.Bytes.{Bytes}
use Rattle.picture.specs.declared.Depth.TheVariants.{EightBit}
use Rattle.picture.specs.Frame.{Holds}
use Rattle.picture.specs.Points.{value_at}
use Rattle.picture.specs.Bytes.{written}
use Rattle.element.specs.declared.Element.{Element}
use Rattle.element.specs.Descriptor.{cells_made, well_weighted, cells_end}
use Rattle.element.specs.Record.{element_of}
use Rattle.element.proofs.WellMade.{weighted_cells}
use Rattle.judge.specs.declared.Padding.TheVariants.{Free}
use Rattle.judge.specs.Tests.{Admitted, element_tests}
use Rattle.judge.proofs.Admitted.{holds, told_admitted}
use Rattle.rows.specs.Steps.Ready.{Ready}
use Rattle.apply.specs.Steps.Applied.{weighted_by, weighted_twice_by}
use Rattle.apply.proofs.Applied.{ready}
use Rattle.apply.proofs.Read.{fitting, heights_read, heights_within, weighted_written, weighted_twice_written}
use Rattle.weighted.specs.Weighted.{weighted_answer, weighted_left}
use Rattle.weighted.specs.Steps.Ways.{once_by, twice_by}

pub record Known (w h : ℕ) (s d : List ℕ) (room : ℕ) (answer : Told) : Type 0 where
  pub given : answer ≡ weighted_answer w h s d room
  pub done : is_done answer ≡ true
  pub cells : cells_made d ≡ true
  pub admitted : Admitted Free EightBit w h s 0 room

-- by the descriptor as it was found, and the room as it was counted
module _ (w h : ℕ) (s d : List ℕ) (n room : ℕ) (made : Bool) (answer : Told)
    (en : n ≡ room) (em : made ≡ well_weighted d)
    (ea : answer ≡ refuse (element_tests Free EightBit w h s made n) (plain 0)) where
  pub answer_is : answer ≡ weighted_answer w h s d room
  answer_is = ea ∙ ap₂ (λ m n. refuse (element_tests Free EightBit w h s m n) (plain 0)) em en

  -- a buffer where the call is refused
  pub refused_left : is_done answer ≡ false → (t made : List ℕ)
      → t ≡ unless_refused (weighted_answer w h s d room) t made
  refused_left e t made = kept_by t made _ _ answer_is e

  pub known : is_done answer ≡ true → Known w h s d room answer
  known e =
      let k = told_admitted Free EightBit w h s (well_weighted d) room answer answer_is e in
      record { given = answer_is; done = e; cells = weighted_cells d k.1; admitted = k.0 }

module _ {w h : ℕ} {s d : List ℕ} {room : ℕ} {answer : Told} (k : Known w h s d room answer) where
  pub room_holds : (n : ℕ) → room ≤ n → Holds EightBit n w h
  room_holds n l = holds Free EightBit w h s n k.admitted.sized (omega (arith, l, k.admitted.roomy))

  module _ (e : Element) (q : e ≡ element_of d) where
    pub element_ready : Ready EightBit (length s) (length e.rows) w h e.outline
    element_ready =
        ready EightBit _ _ w h e.outline
        (holds Free EightBit w h s _ k.admitted.sized (le_of_eq (sym k.admitted.whole)))
        (fitting d k.cells e q)

    pub small : (e.outline.w ≤ 255) × (e.outline.h ≤ 255)
    small =
        let f = fitting d k.cells e q in
        (omega (arith, f.few_wide), omega (arith, f.few_high))

    -- the heights, from their place on
    module _ (n : ℕ) (en : n ≡ cells_end e.outline.w e.outline.h) where
      pub heights_start : n ≤ length d
      heights_start = heights_within d k.cells e q n en

      abbrev heights : List ℕ
      heights = take (length d - n) (drop n d)

      -- what an operation leaves, and the two of an opening or a closing
      module _ (b : Bytes d) (t u : List ℕ) (grows by : Bool) (eg : grows ≡ by) where
        pub once_left : u
            ≡ written EightBit
            (weighted_by grows w h e.outline e.rows heights (value_at EightBit s w)) w h t
            → u ≡ weighted_left (once_by by) w h s d room t
        once_left eu =
            made_by_lem t _ _ _ k.given _ k.done
            (weighted_written d k.cells b e q by w h (value_at EightBit s w) t u heights
            (heights_read d k.cells e q n en)
            (eu ∙ ap (λ g. written EightBit
            (weighted_by g w h e.outline e.rows heights (value_at EightBit s w)) w h t) eg))

        pub twice_left : u
            ≡ written EightBit
            (weighted_twice_by grows w h e.outline e.rows heights (value_at EightBit s w)) w h t
            → u ≡ weighted_left (twice_by by) w h s d room t
        twice_left eu =
            made_by_lem t _ _ _ k.given _ k.done
            (weighted_twice_written d k.cells b e q by w h (value_at EightBit s w) t u heights
            (heights_read d k.cells e q n en)
            (eu ∙ ap (λ g. written EightBit
            (weighted_twice_by g w h e.outline e.rows heights (value_at EightBit s w)) w h t) eg))
