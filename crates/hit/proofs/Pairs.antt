-- Two descriptors and what they answer, and the picture that their elements make.
use Prim.Native.Nat.{ℕ, ◌≤◌, min}
use mathlib.Core.Path.{◌≡◌, sym, ap, ap₂, ◌∙◌}
use mathlib.Core.Bool.{Bool, true, false, not}
use mathlib.Core.List.{List, ◌++◌}
use native.Mathlib.Omega.{arith}
use borrow.Author.Tests.{not-false}
use lib.ListN.{length}
use Rattle.answer.specs.declared.Told.{Told}
use Rattle.answer.specs.declared.Refusal.TheVariants.{Shape, Overlap}
use Rattle.answer.specs.Answer.{told_refusal, plain, is_done}
use Rattle.answer.specs.Refuse.{refuse}
use Rattle.answer.specs.Lent.{if_done}
use Rattle.answer.proofs.Order.{Numbered}
use Rattle.answer.proofs.Lent.{in_parts, two_parts}
use Rattle.basics.specs.Bytes.{Bytes}
use Rattle.picture.specs.declared.Depth.TheVariants.{OneBit}
use Rattle.picture.specs.Frame.{frame}
use Rattle.picture.specs.Points.{value_at}
use Rattle.picture.specs.Bytes.{written}
use Rattle.picture.proofs.Points.{written_same}
use Rattle.element.specs.declared.Element.{Element}
use Rattle.element.specs.declared.Outline.{Outline}
use Rattle.element.specs.Descriptor.{most_cells, cells_made, well_made, shape_in}
use Rattle.element.specs.Record.{element_of, shape_of}
use Rattle.element.proofs.Cells.{cell_same}
use Rattle.morphology.specs.Operations.{complement, hit_miss}
use Rattle.morphology.specs.Overlap.{shared}
use Rattle.morphology.proofs.Overlap.{shared_cells}
use Rattle.judge.specs.declared.Padding.TheVariants.{Free}
use Rattle.judge.specs.Tests.{Admitted, picture_tests, room_tests}
use Rattle.judge.proofs.Admitted.{staged, admitted, picture_numbered}
use Rattle.apply.proofs.Read.{fitting, flat_read}
use Rattle.hit.specs.Hit.{pair_tests, hit_tests}
use Rattle.hit.specs.Steps.Rows.{hit_at}

-- ---- the elements of two well made descriptors
-- an outline and row words that were read of one descriptor are its element
pub whole : (d : List ℕ) (o : Outline) (rows : List ℕ) → o ≡ (element_of d).outline
    → rows ≡ (element_of d).rows
    → ◌≡◌ {A = Element} (record { outline = o; rows = rows }) (element_of d)
whole d o rows p q = ap₂ (λ (o : Outline) (rows : List ℕ). record { outline = o; rows = rows }) p q

module _ (d : List ℕ) (m : cells_made d ≡ true) (e : Element) (q : e ≡ element_of d) where
  pub small_outline : (e.outline.w ≤ most_cells)
      × ((e.outline.h ≤ most_cells) × (e.outline.h ≤ length e.rows))
  small_outline = let f = fitting d m e q in (f.few_wide, (f.few_high, f.words))

module _ (hit miss : List ℕ) (b : Bytes hit) (b' : Bytes miss)
    (m : cells_made hit ≡ true) (m' : cells_made miss ≡ true) (e e' : Element)
    (q : e ≡ element_of hit) (q' : e' ≡ element_of miss) where
  pub overlap_is : (v : Bool) → v ≡ shared (shape_of e) (shape_of e')
      → v ≡ shared (shape_in hit) (shape_in miss)
  unfolding shape_of shape_in element_of
  overlap_is v ev =
      ev ∙ ap₂ (λ (e : Element) (e' : Element). shared (shape_of e) (shape_of e')) q q'
      ∙ shared_cells (shape_of (element_of hit))
      (shape_of (element_of miss)) (shape_in hit).has (shape_in miss).has
      (λ c r lc lr. cell_same hit b m c r lc lr)
      (λ c r lc lr. cell_same miss b' m' c r lc lr)

  -- what the rows make is what the definition has of the descriptors' elements
  pub hit_given : (w h : ℕ) (s t u : List ℕ)
      → u ≡ written OneBit (hit_at s w h e.outline e.rows e'.outline e'.rows) w h t
      → u ≡ written OneBit (hit_miss (frame w h) (shape_in hit) (shape_in miss) (value_at OneBit s w)) w h t
  unfolding hit_at hit_miss
  hit_given w h s t u eu =
      eu ∙ ap₂ (λ (e : Element) (e' : Element).
      written OneBit (hit_at s w h e.outline e.rows e'.outline e'.rows) w h t) q q'
      ∙ written_same OneBit _ _ w h t (λ x y lx ly.
      ap₂ min (flat_read hit m b 1 (frame w h) (value_at OneBit s w) x y false)
      (flat_read miss m' b' 1 (frame w h) (complement 1 (value_at OneBit s w)) x y false))

-- ---- what the two answer, by what is met first
module _ (a b o : Bool) where
  pub first_unmade : a ≡ false → told_refusal Shape ≡ refuse (pair_tests a b o) (plain 0)
  unfolding told_refusal
  first_unmade e = ap (λ a. refuse (pair_tests a b o) (plain 0)) (sym e)

  module _ (e : a ≡ true) where
    pub second_unmade : b ≡ false → told_refusal Shape ≡ refuse (pair_tests a b o) (plain 0)
    unfolding told_refusal
    second_unmade q = ap₂ (λ a b. refuse (pair_tests a b o) (plain 0)) (sym e) (sym q)

    module _ (q : b ≡ true) where
      pub overlapping : o ≡ true → told_refusal Overlap ≡ refuse (pair_tests a b o) (plain 0)
      unfolding told_refusal
      overlapping z =
          ap₂ (λ (p : Bool) (o : Bool). refuse (pair_tests p true o) (plain 0)) (sym e) (sym z)
          ∙ ap (λ b. refuse (pair_tests a b o) (plain 0)) (sym q)

      pub apart : o ≡ false → plain 0 ≡ refuse (pair_tests a b o) (plain 0)
      apart z =
          ap₂ (λ (p : Bool) (o : Bool). refuse (pair_tests p true o) (plain 0)) (sym e) (sym z)
          ∙ ap (λ b. refuse (pair_tests a b o) (plain 0)) (sym q)

-- ---- the whole answer
pub hit_numbered : (w h : ℕ) (s hit miss : List ℕ) (room : ℕ) → Numbered (hit_tests w h s hit miss room)
hit_numbered w h s hit miss room =
    picture_numbered Free OneBit w h s
    (pair_tests (well_made hit) (well_made miss) (shared (shape_in hit) (shape_in miss))
    ++ room_tests OneBit w h 0 room)
    (omega arith, (omega arith, (omega arith, (omega arith, tt))))

module _ (w h : ℕ) (s hit miss : List ℕ) (room : ℕ) (pair answer : Told)
    (ep : pair
    ≡ refuse (pair_tests (well_made hit) (well_made miss) (shared (shape_in hit) (shape_in miss))) (plain 0))
    (ea : answer ≡ refuse (picture_tests Free OneBit w h s)
    (if_done pair (refuse (room_tests OneBit w h 0 room) (plain 0)))) where
  pub answer_is : answer ≡ refuse (hit_tests w h s hit miss room) (plain 0)
  answer_is =
      ea ∙ ap (λ x. refuse (picture_tests Free OneBit w h s)
      (if_done x (refuse (room_tests OneBit w h 0 room) (plain 0)))) ep
      ∙ ap (refuse (picture_tests Free OneBit w h s))
      (two_parts (pair_tests (well_made hit) (well_made miss) (shared (shape_in hit) (shape_in miss)))
      (room_tests OneBit w h 0 room)
      (omega arith, (omega arith, (omega arith, tt))))
      ∙ in_parts (picture_tests Free OneBit w h s)
      (pair_tests (well_made hit) (well_made miss) (shared (shape_in hit) (shape_in miss))
      ++ room_tests OneBit w h 0 room) (plain 0)

  -- where it is done the picture is admitted, by two descriptors that are well made
  pub pair_admitted : is_done answer ≡ true
      → Admitted Free OneBit w h s 0 room × ((well_made hit ≡ true) × (well_made miss ≡ true))
  pair_admitted e =
      let p = admitted Free OneBit w h s pair 0 room (ap is_done (sym ea) ∙ e) in
      let q = staged (not (well_made hit)) 4 _ (omega arith) (ap is_done (sym ep) ∙ p.1) in
      let r = staged (not (well_made miss)) 4 _ (omega arith) q.1 in
      (p.0, (not-false _ q.0, not-false _ r.0))
