-- The text by its pieces.
use Prim.Native.Nat.{ℕ, ◌+◌, ◌≤◌}
use mathlib.Core.Path.{◌≡◌, refl, sym, ap, ◌∙◌}
use mathlib.Core.List.{List, [], ◌∷◌, ◌++◌, flatten, append_assoc}
use native.Mathlib.Omega.{arith}
use native.Mathlib.Nat.{zero-add}
use borrow.Author.Tests.{eq-eqb, ne_eqb}
use mathlib.Core.Bool.{cond}
use lib.ListN.{length, drop, length-append}
use Rattle.digits.specs.Decimal.{decimal}
use Rattle.digits.specs.Put.{put}
use Rattle.digits.proofs.Puts.{put_first}
use Rattle.digits.proofs.Pieces.{two_pieces}
use Rattle.basics.specs.Lists.{joined}
use Rattle.picture.specs.Bytes.{Picture}
use Rattle.picture.specs.declared.Depth.{Depth}
use Rattle.picture.specs.declared.Depth.TheVariants.{OneBit, EightBit}
use Rattle.text.specs.Text.{head_line, mark, item_of, row_line, row_lines, text_of, refused_line}
use Rattle.text.specs.Steps.Lines.{point_item, line_of}

-- a point as it is printed: a mark; or a value, first in its line or not
module _ (depth : Depth) (v x : ℕ) where
  pub mark_item : (m : ℕ) → depth ≡ OneBit → m ≡ mark v → m ∷ [] ≡ item_of depth v x
  unfolding item_of
  mark_item m e q = ap (λ n. n ∷ []) q ∙ sym (ap (λ d. item_of d v x) e)

  pub first_item : (n : ℕ) → depth ≡ EightBit → n ≡ v → x ≡ 0 → decimal n ≡ item_of depth v x
  unfolding item_of
  first_item n e q z =
      ap decimal q
      ∙ sym (ap (λ d. item_of d v x) e ∙ ap (λ b. cond b [] (32 ∷ []) ++ decimal v) (eq-eqb x 0 z))

  pub next_item : (n : ℕ) → depth ≡ EightBit → n ≡ v → (x ≡ 0 → ⊥) → (32 ∷ []) ++ decimal n
      ≡ item_of depth v x
  unfolding item_of
  next_item n e q z =
      ap (λ k. (32 ∷ []) ++ decimal k) q
      ∙ sym (ap (λ d. item_of d v x) e ∙ ap (λ b. cond b [] (32 ∷ []) ++ decimal v) (ne_eqb x 0 z))

-- a list put by another name
module _ (at : ℕ) {l m : List ℕ} (e : l ≡ m) where
  pub fits_as : {n : ℕ} → at + length m ≤ n → at + length l ≤ n
  fits_as h = omega (arith, ap length e)

  pub put_as : (t : List ℕ) {r : ℕ} {u : List ℕ} → (r ≡ at + length l) × (u ≡ put at l t)
      → (r ≡ at + length m) × (u ≡ put at m t)
  put_as t p = (p.0 ∙ ap (λ k. at + length k) e, p.1 ∙ ap (λ k. put at k t) e)

-- the first line and a refusal's line in pieces: a label with a number each, and the line feed
pub head_is : (w h kind : ℕ)
    → flatten
    (((69 ∷ 67 ∷ 72 ∷ 32 ∷ []) ++ decimal w) ∷ ((120 ∷ []) ++ decimal h)
    ∷ ((32 ∷ 107 ∷ 105 ∷ 110 ∷ 100 ∷ 32 ∷ []) ++ decimal kind) ∷ (10 ∷ []) ∷ [])
    ≡ head_line w h kind
unfolding head_line flatten
head_is w h kind = simp append_assoc

pub refused_is : (n : ℕ)
    → flatten (((114 ∷ 101 ∷ 102 ∷ 117 ∷ 115 ∷ 101 ∷ 100 ∷ 32 ∷ []) ++ decimal n) ∷ (10 ∷ []) ∷ [])
    ≡ refused_line n
unfolding refused_line flatten
refused_is n = simp append_assoc

-- a line and the text
pub line_is : (depth : Depth) (A : Picture) (w y : ℕ)
    → flatten (joined (point_item depth A y) w ∷ (10 ∷ []) ∷ []) ≡ line_of depth A w y
unfolding flatten line_of row_line point_item
line_is depth A w y = refl

pub text_is : (depth : Depth) (A : Picture) (w h kind : ℕ)
    → flatten (head_line w h kind ∷ row_lines depth A w h ∷ []) ≡ text_of depth A w h kind
unfolding text_of
text_is depth A w h kind = two_pieces (head_line w h kind) (row_lines depth A w h)

-- their lengths
pub head_long : (w h kind : ℕ)
    → length (head_line w h kind)
    ≡ 4 + (length (decimal w) + (1 + (length (decimal h) + (6 + (length (decimal kind) + 1)))))
unfolding head_line
head_long w h kind = simp length-append (omega arith)

pub refused_long : (n : ℕ) → length (refused_line n) ≡ 8 + (length (decimal n) + 1)
unfolding refused_line
refused_long n = simp length-append (omega arith)

-- put at the start
pub at_start : (l t : List ℕ) (r : ℕ) (u : List ℕ) → (r ≡ 0 + length l) × (u ≡ put 0 l t)
    → (r ≡ length l) × (u ≡ l ++ drop (length l) t)
at_start l t r u p = (p.0 ∙ zero-add (length l), p.1 ∙ put_first l t)
