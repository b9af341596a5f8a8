-- The record that is read stands for the descriptor's own cells, and where one descriptor ends.
use Prim.Native.Nat.{ℕ, ◌+◌, ◌-◌, ◌*◌, ◌/◌, ◌%◌, ◌<◌, min}
use mathlib.Core.Path.{◌≡◌, refl, sym, ap, ap₂, ◌∙◌, subst}
use mathlib.Core.Bool.{true, cond, ◌&&◌}
use mathlib.Core.List.{List, ◌++◌}
use native.Mathlib.Omega.{arith}
use native.Mathlib.Nat.{mul-le-mul}
use borrow.Author.Tests.{lt-ltb, eqb-true}
use lib.Dec.{eqb}
use lib.ListN.{length, get_or, replicate, length-append, get_or-append}
use lib.Seq.{get_or-drop}
use Rattle.basics.specs.Bits.{bit, digits}
use Rattle.basics.specs.Lists.{firsts}
use Rattle.basics.proofs.Bits.{bit_digits}
use Rattle.basics.proofs.Lists.{length_firsts, get_d_firsts}
use Rattle.basics.proofs.Tests.{both}
use Rattle.picture.specs.declared.Depth.TheVariants.{OneBit, EightBit}
use Rattle.picture.specs.Frame.{row_bytes, picture_bytes}
use Rattle.picture.specs.Points.{value_at, value_in}
use Rattle.picture.proofs.Sizes.{column_in}
use Rattle.element.specs.Descriptor.{most_cells, wide_of, high_of, cells_end, cells_made, well_made}
use Rattle.element.specs.Descriptor.{well_weighted, shape_in, weighted_in, descriptor_length}
use Rattle.element.specs.Record.{element_of, shape_of, weighted_of}
use Rattle.element.specs.Steps.Words.{word_byte, word_of, row_word, row_words}
use Rattle.element.proofs.Words.{word_byte_lt}
use Rattle.basics.specs.Bytes.{Bytes}
use Rattle.element.proofs.WellMade.{cells_tell, made_cells}

-- a cell of a row word is that bit of the row's bytes
word_cell : (d : List ℕ) → Bytes d → (at n c : ℕ) → c < most_cells → c / 8 < n
    → bit (word_of d at n) (most_cells - 1 - c) ≡ bit (get_or d (at + c / 8) 0) (7 - c % 8)
unfolding word_of word_byte
word_cell d bytes at n c h l =
    ap (bit (digits 8 (word_byte d at n) 8)) (place c h)
    ∙ bit_digits 8 (word_byte d at n) (word_byte_lt d bytes at n) 8 (c / 8)
    (7 - c % 8) (omega arith) (omega arith)
    ∙ ap (λ b. bit (cond b (get_or d (at + c / 8) 0) 0) (7 - c % 8)) (lt-ltb (c / 8) n l)
  where
    place : (c : ℕ) → c < 64 → 63 - c ≡ 8 * (8 - 1 - c / 8) + (7 - c % 8)
    place c h = omega arith

module _ (d : List ℕ) (bytes : Bytes d) (made : cells_made d ≡ true)
    (c r : ℕ) (hc : c < wide_of d) (hr : r < high_of d) where
  n : ℕ
  n = row_bytes OneBit (wide_of d)

  word_is : get_or (row_words d (row_bytes OneBit (wide_of d)) (high_of d)) r 0
      ≡ word_of d (4 + r * row_bytes OneBit (wide_of d)) (row_bytes OneBit (wide_of d))
  unfolding row_words row_word
  word_is =
      get_or-append (firsts (row_word d (row_bytes OneBit (wide_of d))) (high_of d))
      (replicate (most_cells - high_of d) 0) 0 r
      (subst (λ k. r < k) (sym (length_firsts (row_word d (row_bytes OneBit (wide_of d))) (high_of d))) hr)
      ∙ get_d_firsts (row_word d (row_bytes OneBit (wide_of d))) (high_of d) r hr

  -- the record has exactly the cells of the descriptor, weighted or not
  pub cell_same : (shape_of (element_of d)).has c r ≡ (shape_in d).has c r
  unfolding shape_of element_of shape_in value_at value_in n
  cell_same =
      let t = cells_tell d made in
      ap (λ k. eqb k 1)
      (ap (λ w. bit w (most_cells - 1 - c)) word_is
      ∙ word_cell d bytes (4 + r * n) n c (omega arith) (column_in OneBit c (wide_of d) hc)
      ∙ ap (λ k. bit k (7 - c % 8))
      (ap (λ i. get_or d i 0) (further (r * n) (c / 8)) ∙ sym (get_or-drop 4 d (r * n + c / 8) 0)))
    where
      further : (a b : ℕ) → 4 + a + b ≡ 4 + (a + b)
      further a b = omega arith

  pub weighted_cell_same : (weighted_of (element_of d) d).has c r ≡ (weighted_in d).has c r
  unfolding shape_of weighted_of shape_in weighted_in
  weighted_cell_same = cell_same

  -- and the heights are those of its own bytes
  pub height_same : (weighted_of (element_of d) d).height c r ≡ (weighted_in d).height c r
  unfolding weighted_of weighted_in
  height_same = refl

-- a well made descriptor ends where its own w and h say, whatever follows
pub ends_there : (d rest : List ℕ) → well_made d ≡ true → descriptor_length (d ++ rest) ≡ length d
unfolding descriptor_length well_made
ends_there d rest e =
    let t = cells_tell d (made_cells d e) in
    let l = eqb-true (length d) (cells_end (wide_of d) (high_of d))
    (both (cells_made d) (eqb (length d) (cells_end (wide_of d) (high_of d))) e).1 in
    ap₂ (λ w h. min (length (d ++ rest)) (cells_end w h))
    (get_or-append d rest 0 0 (omega arith)) (get_or-append d rest 0 1 (omega arith))
    ∙ omega (arith, length-append d rest, l)

-- no bytes are a descriptor and a weighted one
pub never_both : (d : List ℕ) → well_made d ≡ true → well_weighted d ≡ true → ⊥
unfolding well_made well_weighted
never_both d e f =
    let t = cells_tell d (made_cells d e) in
    let l = eqb-true (length d) (cells_end (wide_of d) (high_of d)) (both (cells_made d) _ e).1 in
    let m = eqb-true (length d)
    (cells_end (wide_of d) (high_of d) + picture_bytes EightBit (wide_of d) (high_of d))
    (both (cells_made d) _ (both (cells_made d && eqb (length d)
    (cells_end (wide_of d) (high_of d) + picture_bytes EightBit (wide_of d) (high_of d))) _ f).0).1 in
    omega
    (arith, l, m, mul-le-mul {n₁ = 1} {m₁ = 1} {n₂ = high_of d} {m₂ = wide_of d} t.some_high t.some_wide)
