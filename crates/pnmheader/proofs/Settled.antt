-- Any two outcomes that a contract allows of one call are the same:
-- for each public function, of its contract itself, as the prover reads it.
use Prim.Native.Nat.{ℕ, ◌≤◌}
use mathlib.Core.Path.{◌≡◌, refl, sym, ap, ◌∙◌}
use Rattle.std.specs.Prelude.{Option, Some, None}
use mathlib.Core.List.{List}
use native.Mathlib.Omega.{arith}
use lib.ListN.{length, drop, length-drop}
use Rattle.basics.specs.Settles.{Settles}
use Rattle.basics.proofs.Settled.{settled}
use Rattle.pnmheader.specs.declared.Found.{Found}
use Rattle.pnmheader.specs.Header.{Head}
use Rattle.pnmheader.specs.Steps.Held.{Says}
use Rattle.pnmheader.proofs.magic_digit.Kinds as magic-digit-kinds
use Rattle.pnmheader.proofs.magic_digit.Reads as magic-digit
use Rattle.pnmheader.proofs.read_header.Kinds as read-header-kinds
use Rattle.pnmheader.proofs.read_header.Reads as read-header

-- a raster's place is settled by its length
same_place : (f : List ℕ) (a b : ℕ) → a ≤ length f → b ≤ length f → drop a f ≡ drop b f → a ≡ b
same_place f a b p q e = omega (arith, ap length e, length-drop a f, length-drop b f)

same_found : (f : List ℕ) (head : Head) (x y : Option Found) → Says f head x → Says f head y → x ≡ y
same_found f head None None p q = refl
same_found f head None (Some b) p q = let z = p.whole ∙ sym q.whole in cc
same_found f head (Some a) None p q = let z = p.whole ∙ sym q.whole in cc
same_found f head (Some a) (Some b) p q = λ i. Some (record {
  w = settled p.w q.w i;
  h = settled p.h q.h i;
  most = settled p.most q.most i;
  at = same_place f a.at b.at p.inside q.inside (settled p.raster q.raster) i;
})

pub magic_digit_settled : Settles 0 magic-digit-kinds.ps magic-digit-kinds.r magic-digit.Learnt
magic_digit_settled κs a x y s t p q = settled p q

pub read_header_settled : Settles 1 read-header-kinds.ps read-header-kinds.r read-header.Learnt
read_header_settled κs a x y s t p q = same_found _ _ x y p q
