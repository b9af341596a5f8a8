-- A packed row with the points of a result, its padding cleared, is the result's row.
use Prim.Native.Nat.{ℕ, ◌-◌, ◌/◌, ◌%◌, ◌≤◌, ◌<◌}
use mathlib.Core.Path.{◌≡◌, refl, sym, ap, ap₂, ◌∙◌, subst}
use mathlib.Core.Bool.{Bool, true, false, cond}
use mathlib.Core.List.{List}
use mathlib.Core.Logic.{⊎_elim}
use native.Mathlib.Omega.{arith}
use lib.Dec.{ltb, lit<}
use lib.ListN.{length, get_or, set, length-set}
use lib.Seq.{get_or-set_same, get_or-set_other}
use borrow.Author.Tests.{ltb-true, lt-ltb, le-ltb}
use Rattle.basics.specs.Bits.{bit}
use Rattle.basics.specs.Bytes.{Bytes}
use Rattle.basics.proofs.SliceParts.{below_or_not}
use Rattle.picture.specs.declared.Depth.TheVariants.{OneBit}
use Rattle.picture.specs.Frame.{row_bytes}
use Rattle.picture.specs.Bytes.{row_byte, row_of}
use Rattle.blocks.specs.Steps.Points.{point_of}
use Rattle.blocks.proofs.Points.{point_lt}
use Rattle.packedline.specs.Steps.Padded.{spare_of, blotted_by}
use Rattle.packedline.specs.Steps.Line.{pack_of}
use Rattle.packedline.proofs.Bytes.{spare_lt}
use Rattle.packedline.proofs.Margins.{spare_clear, spare_set, blotted_clear, blotted_set}
use Rattle.packedline.proofs.Folded.{pack_is}

module _ (f : ℕ → ℕ) (w : ℕ) (t u : List ℕ) (some : 1 ≤ w) (len : length t ≡ row_bytes OneBit w)
    (value : (x : ℕ) → x < w → point_of t x ≡ f x)
    (e : u ≡ set t (length t - 1) (blotted_by true (get_or t (length t - 1) 0) (spare_of (w % 8)))) where
  small : (x : ℕ) → cond (ltb x w) (f x) 0 < 2
  small x = by (ltb x w) refl
    where
      by : (b : Bool) → ltb x w ≡ b → cond b (f x) 0 < 2
      by true q = subst (λ n. n < 2) (value x (ltb-true x w q)) (point_lt t x)
      by false q = lit< tt

  -- the last byte, and the others
  last : (x : ℕ) → x / 8 ≡ length t - 1
      → point_of u x ≡ bit (blotted_by true (get_or t (x / 8) 0) (spare_of (w % 8))) (7 - x % 8)
  unfolding point_of
  last x q =
      ap (λ b. bit b (7 - x % 8))
      (ap₂ (λ l i. get_or l i 0) e q ∙ get_or-set_same t (length t - 1) _ 0 (omega (arith, len))
      ∙ ap (λ i. blotted_by true (get_or t i 0) (spare_of (w % 8))) (sym q))

  other : (x : ℕ) → (x / 8 ≡ length t - 1 → ⊥) → point_of u x ≡ point_of t x
  unfolding point_of
  other x ne =
      ap (λ b. bit b (7 - x % 8))
      (ap (λ l. get_or l (x / 8) 0) e ∙ get_or-set_other t (length t - 1) (x / 8) _ 0 ne)

  inside : (x : ℕ) → x < w → point_of u x ≡ point_of t x
  unfolding point_of
  inside x l =
      ⊎_elim
      (λ z. other x (λ q. absurd (omega (arith, len))))
      (λ z. last x (omega (arith, len))
      ∙ blotted_clear true (get_or t (x / 8) 0) (spare_of (w % 8)) (7 - x % 8) (spare_lt (w % 8))
      (omega arith)
      (spare_clear w x l (omega (arith, len))))
      (below_or_not (x / 8) (length t - 1))

  past : (x : ℕ) → x / 8 < row_bytes OneBit w → w ≤ x → point_of u x ≡ 0
  past x h l =
      last x (omega (arith, len))
      ∙ blotted_set true (get_or t (x / 8) 0) (spare_of (w % 8)) (7 - x % 8) (spare_lt (w % 8)) (omega arith)
      (spare_set w x l (omega (arith, len)))

  pub row_made : Bytes u → u ≡ row_of OneBit f w
  unfolding row_of row_byte pack_of
  row_made bytes =
      pack_is (λ x. cond (ltb x w) (f x) 0) (row_bytes OneBit w) u (ap length e ∙ length-set t _ _ ∙ len)
      bytes small
      (λ x h. ⊎_elim
      (λ l. inside x l ∙ value x l ∙ ap (λ b. cond b (f x) 0) (sym (lt-ltb x w l)))
      (λ l. past x h l ∙ ap (λ b. cond b (f x) 0) (sym (le-ltb x w l)))
      (below_or_not x w))
