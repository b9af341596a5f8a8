-- What is written in the target, one picture less another, is the difference's definition:
-- of the element that was read, and of the descriptor's own.
use Prim.Native.Nat.{ℕ, ◌-◌, ◌<◌}
use mathlib.Core.Path.{◌≡◌, sym, ap, ap₂, ◌∙◌}
use mathlib.Core.Bool.{Bool, true, false, not}
use mathlib.Core.List.{List, ◌++◌}
use lib.ListN.{drop}
use lib.Seq.{drop_at}
use Rattle.answer.specs.declared.Told.{Told}
use Rattle.answer.proofs.Lent.{made_by_lem}
use Rattle.basics.specs.Bytes.{Bytes}
use Rattle.picture.specs.declared.Depth.{Depth}
use Rattle.picture.specs.Frame.{frame, top, picture_bytes}
use Rattle.picture.specs.Points.{value_at}
use Rattle.picture.specs.Bytes.{Picture, bytes_of, written}
use Rattle.picture.proofs.Bytes.{bytes_long}
use Rattle.picture.proofs.Points.{written_same}
use Rattle.picture.proofs.Shown.{written_shown}
use Rattle.element.specs.declared.Element.{Element}
use Rattle.element.specs.Shape.{Shape}
use Rattle.element.specs.Descriptor.{cells_made, shape_in}
use Rattle.element.specs.Record.{element_of, shape_of}
use Rattle.morphology.specs.Operations.{flat}
use Rattle.morphology.specs.TopHats.{less}
use Rattle.rows.specs.Steps.Ways.{swept_by}
use Rattle.apply.proofs.Twice.{once_one, twice_one, swept_alike}
use Rattle.apply.proofs.Read.{flat_read}
use Rattle.flat.specs.Flat.{flat_left}
use Rattle.flat.proofs.Known.{Known}
use Rattle.differences.specs.declared.Which.{Which}
use Rattle.differences.specs.declared.Which.TheVariants.{White, Black, Gradient}
use Rattle.differences.specs.Steps.Which.{made_by, middle_by}

-- a picture written over one that was written
written_over : (depth : Depth) (A C : Picture) (w h : ℕ) (t : List ℕ)
    → written depth A w h (written depth C w h t) ≡ written depth A w h t
unfolding written
written_over depth A C w h t =
    ap (λ l. bytes_of depth A w h ++ l)
    (drop_at (bytes_of depth C w h) (drop (picture_bytes depth w h) t) (picture_bytes depth w h)
    (bytes_long depth C w h))

-- ---- a picture less another, each read from bytes
module _ (depth : Depth) (w h : ℕ) where
  -- the bytes show the picture
  abbrev pub Reads : List ℕ → Picture → Type 0
  Reads l A = (x y : ℕ) → x < w → y < h → value_at depth l w x y ≡ A x y

  pub itself : (l : List ℕ) → Reads l (value_at depth l w)
  itself l x y hx hy = λ i. value_at depth l w x y

  pub less_read : (P Q R : Picture) (a b t was u : List ℕ) → Reads a P → Reads b Q
      → was ≡ written depth R w h t
      → u ≡ written depth (less (value_at depth a w) (value_at depth b w)) w h was
      → u ≡ written depth (less P Q) w h t
  less_read P Q R a b t was u ra rb ew eu =
      eu
      ∙ written_same depth _ (less P Q) w h was
      (λ x y hx hy. ap₂ (λ m n. m - n) (ra x y hx hy) (rb x y hx hy))
      ∙ ap (λ l. written depth (less P Q) w h l) ew ∙ written_over depth (less P Q) R w h t

  -- the pictures that an element makes of the source are read back
  module _ (B : Shape) (s : List ℕ) where
    abbrev once : Bool → Picture
    once grows = swept_by grows flat (top depth) (frame w h) B (value_at depth s w)

    abbrev twice : Bool → Picture
    twice grows = swept_by (not grows) flat (top depth) (frame w h) B (once grows)

    pub once_read : (grows : Bool) (l t : List ℕ) → l ≡ written depth (once grows) w h t
        → Reads l (once grows)
    once_read grows l t e x y hx hy =
        ap (λ l. value_at depth l w x y) e
        ∙ written_shown depth (once grows) w h t (λ one. once_one depth w h B s one grows) x y hx hy

    pub twice_read : (grows : Bool) (l t : List ℕ) → l ≡ written depth (twice grows) w h t
        → Reads l (twice grows)
    twice_read grows l t e x y hx hy =
        ap (λ l. value_at depth l w x y) e
        ∙ written_shown depth (twice grows) w h t
        (λ one. twice_one depth w h B s one grows (not grows)) x y hx hy

-- ---- which of the three, as the code found it
module _ (which found : Which) (q : which ≡ found) (depth : Depth) (w h : ℕ) (B : Shape) (A : Picture)
    (t u : List ℕ) where
  pub made_found : u ≡ written depth (made_by found depth (frame w h) B A) w h t
      → u ≡ written depth (made_by which depth (frame w h) B A) w h t
  made_found e = e ∙ ap (λ (k : Which). written depth (made_by k depth (frame w h) B A) w h t) (sym q)

-- ---- the element that was read does what the definitions say of the descriptor's
module _ (d : List ℕ) (m : cells_made d ≡ true) (b : Bytes d) (depth : Depth) (w h : ℕ) (A : Picture) where
  again : (grows : Bool) (x y : ℕ)
      → swept_by (not grows) flat (top depth) (frame w h) (shape_of (element_of d))
      (swept_by grows flat (top depth) (frame w h) (shape_of (element_of d)) A) x y
      ≡ swept_by (not grows) flat (top depth) (frame w h) (shape_in d)
      (swept_by grows flat (top depth) (frame w h) (shape_in d) A) x y
  again grows x y =
      flat_read d m b (top depth) (frame w h) _ x y (not grows)
      ∙ swept_alike (not grows) flat (top depth) (frame w h) (shape_in d) _ _
      (λ p i. flat_read d m b (top depth) (frame w h) A p.x p.y grows) x y

  made_same : (which : Which) (x y : ℕ)
      → made_by which depth (frame w h) (shape_of (element_of d)) A x y
      ≡ made_by which depth (frame w h) (shape_in d) A x y
  made_same White x y = ap (λ n. A x y - n) (again false x y)
  made_same Black x y = ap (λ n. n - A x y) (again true x y)
  made_same Gradient x y =
      ap₂ (λ n k. n - k) (flat_read d m b (top depth) (frame w h) A x y true)
      (flat_read d m b (top depth) (frame w h) A x y false)

  middle_same : (which : Which) (x y : ℕ)
      → middle_by which depth (frame w h) (shape_of (element_of d)) A x y
      ≡ middle_by which depth (frame w h) (shape_in d) A x y
  middle_same White x y = flat_read d m b (top depth) (frame w h) A x y false
  middle_same Black x y = flat_read d m b (top depth) (frame w h) A x y true
  middle_same Gradient x y = flat_read d m b (top depth) (frame w h) A x y false

  module _ (which : Which) (e : Element) (q : e ≡ element_of d) (t u : List ℕ) where
    pub made_written : u ≡ written depth (made_by which depth (frame w h) (shape_of e) A) w h t
        → u ≡ written depth (made_by which depth (frame w h) (shape_in d) A) w h t
    made_written eu =
        eu ∙ ap (λ (e : Element). written depth (made_by which depth (frame w h) (shape_of e) A) w h t) q
        ∙ written_same depth _ _ w h t (λ x y lx ly. made_same which x y)

    pub middle_written : u ≡ written depth (middle_by which depth (frame w h) (shape_of e) A) w h t
        → u ≡ written depth (middle_by which depth (frame w h) (shape_in d) A) w h t
    middle_written eu =
        eu ∙ ap (λ (e : Element). written depth (middle_by which depth (frame w h) (shape_of e) A) w h t) q
        ∙ written_same depth _ _ w h t (λ x y lx ly. middle_same which x y)

-- what is left where nothing is refused
module _ {depth : Depth} {w h : ℕ} {s d : List ℕ} {room : ℕ} {answer : Told}
    (k : Known depth w h s d room answer) (e : Element) (q : e ≡ element_of d) (b : Bytes d)
    (which : Which) (t u : List ℕ) where
  pub made_left : u
      ≡ written depth (made_by which depth (frame w h) (shape_of e) (value_at depth s w)) w h t
      → u ≡ flat_left depth (made_by which depth) w h s d room t
  made_left eu =
      made_by_lem t _ _ _ k.given _ k.done
      (made_written d k.cells b depth w h (value_at depth s w) which e q t u eu)

  pub middle_left : u
      ≡ written depth (middle_by which depth (frame w h) (shape_of e) (value_at depth s w)) w h t
      → u ≡ flat_left depth (middle_by which depth) w h s d room t
  middle_left eu =
      made_by_lem t _ _ _ k.given _ k.done
      (middle_written d k.cells b depth w h (value_at depth s w) which e q t u eu)
