-- The layout of the book, test by test.
use Prim.Native.Nat.{ℕ, ◌≤◌, ◌<◌}
use mathlib.Core.Path.{◌≡◌, refl, sym, ap, ◌∙◌}
use mathlib.Core.Bool.{Bool, true, false, ◌&&◌}
use mathlib.Core.List.{List, [], ◌∷◌}
use Rattle.std.proofs.lemmas.Grind.{common_steps}
use Rattle.std.specs.List.{starts_with}
use native.Mathlib.Omega.{arith}
use borrow.Author.Tests.{ne_eqb, lt-leb}
use lib.Dec.{leb, eqb}
use lib.ListN.{length, get_or}
use Rattle.share.specs.Share.{share_made}
use Rattle.book.specs.declared.Party.TheVariants.{Display, Export}
use Rattle.book.specs.Book.{numbers, room, version, book_long, share_of, marked, book_made}

-- ---- the mark, as the first bytes
and_flat : (a b c d : Bool) → a && (b && (c && (d && true))) ≡ a && b && c && d
and_flat true true true true = refl
and_flat true true true false = refl
and_flat true true false d = refl
and_flat true false c d = refl
and_flat false b c d = refl

eqb_turned : (a b : ℕ) → eqb a b ≡ eqb b a
eqb_turned a b = by (eqb a b) refl
  where
    by : (t : Bool) → eqb a b ≡ t → t ≡ eqb b a
    by true e = grind (arith, common_steps)
    by false e = grind (arith, common_steps)

pub marked_is : (b : List ℕ) → 4 ≤ length b → starts_with eqb b (69 ∷ 66 ∷ 75 ∷ version ∷ []) ≡ marked b
unfolding marked
marked_is [] h = absurd (omega arith)
marked_is (x ∷ []) h = absurd (omega arith)
marked_is (x ∷ y ∷ []) h = absurd (omega arith)
marked_is (x ∷ y ∷ z ∷ []) h = absurd (omega arith)
marked_is (x ∷ y ∷ z ∷ w ∷ l) h =
    and_flat (eqb 69 x) (eqb 66 y) (eqb 75 z) (eqb version w)
    ∙ λ i. eqb_turned 69 x i && eqb_turned 66 y i && eqb_turned 75 z i && eqb_turned version w i

-- ---- the layout of the book, test by test
module _ (b : List ℕ) where
  pub book_short : length b < book_long → false ≡ book_made b
  unfolding book_made
  book_short h =
      ap (λ (t : Bool). t && marked b && share_made numbers room (share_of b Display)
      && share_made numbers room (share_of b Export))
      (sym (lt-leb book_long (length b) h))

-- a book of another version, as that of one party was, breaks this layout
pub old_breaks : (b : List ℕ) → (get_or b 3 0 ≡ version → ⊥) → book_made b ≡ false
unfolding book_made marked
old_breaks b h =
    ap (λ (t : Bool). leb book_long (length b)
    && (eqb (get_or b 0 0) 69 && eqb (get_or b 1 0) 66 && eqb (get_or b 2 0) 75 && t)
    && share_made numbers room (share_of b Display) && share_made numbers room (share_of b Export))
    (ne_eqb (get_or b 3 0) version h)
    ∙ no_mark (leb book_long (length b))
    (eqb (get_or b 0 0) 69 && eqb (get_or b 1 0) 66 && eqb (get_or b 2 0) 75)
    (share_made numbers room (share_of b Display)) (share_made numbers room (share_of b Export))
  where
    no_mark : (x y z w : Bool) → x && (y && false) && z && w ≡ false
    no_mark true true z w = refl
    no_mark true false z w = refl
    no_mark false y z w = refl
