-- The kinds of an element's rows, as the code finds them.
use Prim.Native.Nat.{ℕ, ◌+◌, ◌<◌}
use mathlib.Core.Path.{◌≡◌, sym, ap, subst, ◌∙◌}
use mathlib.Core.Bool.{Bool, true, false, not}
use mathlib.Core.List.{List}
use mathlib.Core.Logic.{⊎_elim}
use native.Mathlib.Omega.{arith}
use lib.Dec.{eqb}
use lib.Bits.{bit_and}
use lib.ListN.{length, get_or, take}
use lib.Seq.{get_or-take, length-take-le}
use borrow.Author.Tests.{eq-eqb, ne_eqb}
use Rattle.basics.specs.Tests.{all}
use Rattle.basics.proofs.Tests.{all_at}
use Rattle.element.specs.declared.Outline.{Outline}
use Rattle.packedline.specs.Steps.Cells.{level_of, run_word}
use Rattle.bitrow.specs.Steps.Added.{masked_of}
use Rattle.strokes.specs.Steps.Strokes.{kind_of, kind_at, lacks_kind, Strokes}

-- the kind of a row as the code finds it
pub kind_is : (o : Outline) (words : List ℕ) (r word n found : ℕ) → word ≡ masked_of (get_or words r 0) o.w
    → n ≡ level_of word → found ≡ kind_of n → found ≡ kind_at o words r
kind_is o words r word n found ew en ef = ef ∙ ap kind_of (en ∙ ap level_of ew)

pub word_masked : (word wide run : ℕ) → run ≡ run_word wide → bit_and word run ≡ masked_of word wide
unfolding masked_of
word_masked word wide run e = ap (bit_and word) e

-- where no row is of kind k, none is
pub lacks_none : (o : Outline) (words : List ℕ) (k : ℕ) → lacks_kind o words k ≡ true
    → (r : ℕ) → r < o.h → kind_at o words r ≡ k → ⊥
unfolding lacks_kind
lacks_none o words k e r h q =
    let z = all_at (λ r. not (eqb (kind_at o words r) k)) o.h e r h in
    differ (ap not (sym (eq-eqb (kind_at o words r) k q)) ∙ z)
  where
    differ : false ≡ true → ⊥
    differ e = let z : ◌≡◌ {A = ℕ} 0 1 = cc in omega arith

-- a row that is of another kind, and one that is of kind k
pub other_kind : (o : Outline) (words : List ℕ) (k r found : ℕ) → found ≡ kind_at o words r → (found ≡ k → ⊥)
    → not (eqb (kind_at o words r) k) ≡ true
other_kind o words k r found e other = ap not (ne_eqb (kind_at o words r) k (λ q. other (e ∙ q)))

pub this_kind : (o : Outline) (words : List ℕ) (k r found : ℕ) → found ≡ kind_at o words r → found ≡ k
    → not (eqb (kind_at o words r) k) ≡ false
this_kind o words k r found e q = ap not (eq-eqb (kind_at o words r) k (sym e ∙ q))

-- ---- where the places lie that were found
pub reach : (grows : Bool) (word o kind count : ℕ) (at : List ℕ) → Strokes grows word o kind count at
    → (j : ℕ) → j < length (take count at) → get_or (take count at) j 0 < 1360
reach grows word o kind count at s j h =
    let l : j < count = subst (λ n. j < n) (length-take-le count at (omega (arith, s.few, s.long))) h in
    let e = get_or-take count at j 0 l in
    ⊎_elim (λ q. omega (arith, e)) (λ q. omega (arith, e, q.1)) (s.near j l)
