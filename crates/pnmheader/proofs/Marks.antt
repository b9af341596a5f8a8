-- The magic, test after test.
use Prim.Native.Nat.{ℕ, ◌≤◌, ◌<◌}
use mathlib.Core.Path.{◌≡◌, refl, sym, ap, ap₂, ◌∙◌, subst}
use mathlib.Core.Bool.{Bool, true, false, cond, ◌&&◌}
use mathlib.Core.List.{List, [], ◌∷◌}
use native.Mathlib.Omega.{arith}
use borrow.Author.Tests.{eq-eqb, ne_eqb, eqb-true, eqb-false}
use lib.Dec.{eqb}
use lib.ListN.{drop}
use Rattle.picture.specs.declared.Depth.{Depth}
use Rattle.picture.specs.declared.Depth.TheVariants.{OneBit, EightBit}
use Rattle.pnmheader.specs.declared.Found.{Found}
use Rattle.pnmheader.specs.Header.{magic_digit, marked, single_part, begun, Head, no_head, scan, header}
use Rattle.pnmheader.specs.Steps.Held.{Says}
use Rattle.std.specs.Prelude.{Option, None}
use Rattle.std.specs.List.{starts_with}
use Rattle.pnmheader.proofs.Scans.{hold_head, says_nothing}

-- the magic, as the code looks for it
turned : (n a : ℕ) → eqb n a ≡ eqb a n
turned n a = by (eqb n a) refl
  where
    by : (t : Bool) → eqb n a ≡ t → t ≡ eqb a n
    by true e = sym (eq-eqb a n (sym (eqb-true n a e)))
    by false e = sym (ne_eqb a n (λ q. eqb-false n a e (sym q)))

and_true : (z : Bool) → (z && true) ≡ z
and_true true = refl
and_true false = refl

-- a file of one byte has no second letter
one_byte : (x : Bool) (depth : Depth) → (x && false) ≡ (x && eqb 0 (magic_digit depth))
one_byte x OneBit = refl
one_byte x EightBit = refl

pub marked_is : (depth : Depth) (f : List ℕ)
    → starts_with eqb f (80 ∷ magic_digit depth ∷ []) ≡ marked depth f
marked_is depth [] = refl
marked_is depth (a ∷ []) = ap (λ x. x && false) (turned 80 a) ∙ one_byte (eqb a 80) depth
marked_is depth (a ∷ b ∷ l) =
    ap₂ (λ x y. x && y) (turned 80 a) (and_true (eqb (magic_digit depth) b) ∙ turned (magic_digit depth) b)

-- which part is the single white space
pub single_some : (depth : Depth) → (1 < single_part depth) × (single_part depth ≤ 8)
single_some OneBit = (omega arith, omega arith)
single_some EightBit = (omega arith, omega arith)

-- the header by the magic
module _ (depth : Depth) (f : List ℕ) where
  pub header_marked : (r : Option Found) → marked depth f ≡ true → (single : ℕ) → single ≡ single_part depth
      → Says f (scan single begun (drop 2 f)) r → Says f (header depth f) r
  unfolding header
  header_marked r e single es p =
      subst (λ (a : Head). Says f a r)
      (ap (λ n. scan n begun (drop 2 f)) es
      ∙ sym (ap (λ b. cond b (scan (single_part depth) begun (drop 2 f)) no_head) e)) p

  pub header_other : marked depth f ≡ false → Says f (header depth f) None
  unfolding header
  header_other e =
      says_nothing f (header depth f)
      (ap (λ b. hold_head (cond b (scan (single_part depth) begun (drop 2 f)) no_head)) e)
