-- What follows from the two universal properties alone, once for both depths and for weights.
use Prim.Native.Nat.{ℕ, ◌-◌, ◌≤◌, zero-le}
use mathlib.Core.Path.{◌≡◌, sym, ap}
use mathlib.Core.Logic.{◌↔◌}
use native.Mathlib.Nat.{le_trans, le_refl, le_antisymm, le_of_eq}
use Rattle.picture.specs.Frame.{Frame}
use Rattle.picture.specs.Bytes.{Picture}
use Rattle.element.specs.Shape.{Shape}
use Rattle.morphology.specs.Step.{Place, In, Cell, Step}
use Rattle.morphology.specs.Operations.{Change, flat, erode_by, dilate_by, open_by, close_by}
use Rattle.morphology.specs.Order.{LiesWithin, Alike, Bounded, Rising, Holding, Paired}
use Rattle.morphology.proofs.Reach.{height_at, erosion, dilation, erode_top, erode_le, le_dilate}

-- ---- order of pictures
pub within_refl : (F : Frame) (A : Picture) → LiesWithin F A A
within_refl F A p i = le_refl _

pub within_trans : (F : Frame) (A C D : Picture) → LiesWithin F A C → LiesWithin F C D → LiesWithin F A D
within_trans F A C D h k p i = le_trans (h p i) (k p i)

-- ---- monotone: what is greater at each step gives a greater result
module _ (f f' : Change) (F : Frame) (B : Shape) (A A' : Picture) (p : Place) where
  pub erode_steps : (top : ℕ)
      → ((q : Place) → In F q → (s : Step B p q)
      → f (height_at B s) (A q.x q.y) ≤ f' (height_at B s) (A' q.x q.y))
      → erode_by f top F B A p.x p.y ≤ erode_by f' top F B A' p.x p.y
  erode_steps top each =
      (erosion f' top F B A' p _).1
      (erode_top f top F B A p, λ q i s. le_trans (erode_le f top F B A p q i s) (each q i s))

  pub dilate_steps : ((q : Place) → In F q → (s : Step B q p)
      → f (height_at B s) (A q.x q.y) ≤ f' (height_at B s) (A' q.x q.y))
      → dilate_by f F B A p.x p.y ≤ dilate_by f' F B A' p.x p.y
  dilate_steps each =
      (dilation f F B A p _).1 (λ q i s. le_trans (each q i s) (le_dilate f' F B A' q p i s))

-- what is the same at each step gives the same result
module _ (f f' : Change) (F : Frame) (B : Shape) (A A' : Picture) (p : Place) where
  pub erode_same : (top : ℕ)
      → ((q : Place) → In F q → (s : Step B p q)
      → f (height_at B s) (A q.x q.y) ≡ f' (height_at B s) (A' q.x q.y))
      → erode_by f top F B A p.x p.y ≡ erode_by f' top F B A' p.x p.y
  erode_same top each =
      le_antisymm (erode_steps f f' F B A A' p top (λ q i s. le_of_eq (each q i s)))
      (erode_steps f' f F B A' A p top (λ q i s. le_of_eq (sym (each q i s))))

  pub dilate_same : ((q : Place) → In F q → (s : Step B q p)
      → f (height_at B s) (A q.x q.y) ≡ f' (height_at B s) (A' q.x q.y))
      → dilate_by f F B A p.x p.y ≡ dilate_by f' F B A' p.x p.y
  dilate_same each =
      le_antisymm (dilate_steps f f' F B A A' p (λ q i s. le_of_eq (each q i s)))
      (dilate_steps f' f F B A' A p (λ q i s. le_of_eq (sym (each q i s))))

module _ (f : Change) (rising : Rising f) (F : Frame) (B : Shape) (A C : Picture) (h : LiesWithin F A C) where
  pub erode_mono : (top : ℕ) → LiesWithin F (erode_by f top F B A) (erode_by f top F B C)
  erode_mono top p i = erode_steps f f F B A C p top (λ q iq s. rising (height_at B s) _ _ (h q iq))

  pub dilate_mono : LiesWithin F (dilate_by f F B A) (dilate_by f F B C)
  dilate_mono p i = dilate_steps f f F B A C p (λ q iq s. rising (height_at B s) _ _ (h q iq))

pub open_mono : (lower raise : Change) → Rising lower → Rising raise
    → (top : ℕ) (F : Frame) (B : Shape) (A C : Picture) → LiesWithin F A C
    → LiesWithin F (open_by lower raise top F B A) (open_by lower raise top F B C)
open_mono lower raise l r top F B A C h = dilate_mono raise r F B _ _ (erode_mono lower l F B A C h top)

pub close_mono : (lower raise : Change) → Rising lower → Rising raise
    → (top : ℕ) (F : Frame) (B : Shape) (A C : Picture) → LiesWithin F A C
    → LiesWithin F (close_by lower raise top F B A) (close_by lower raise top F B C)
close_mono lower raise l r top F B A C h = erode_mono lower l F B _ _ (dilate_mono raise r F B A C h) top

-- no operation reads a point outside the frame
module _ (f : Change) (F : Frame) (B : Shape) (A C : Picture) (h : Alike F A C) (p : Place) where
  pub erode_alike : (top : ℕ) → erode_by f top F B A p.x p.y ≡ erode_by f top F B C p.x p.y
  erode_alike top = erode_same f f F B A C p top (λ q i s. ap (f (height_at B s)) (h q i))

  pub dilate_alike : dilate_by f F B A p.x p.y ≡ dilate_by f F B C p.x p.y
  dilate_alike = dilate_same f f F B A C p (λ q i s. ap (f (height_at B s)) (h q i))

-- P7: by an element with no set cell, of any picture in any frame
module _ (f : Change) (F : Frame) (B : Shape) (A : Picture) (none : ¬ Cell B) (p : Place) where
  pub erode_empty : (top : ℕ) → erode_by f top F B A p.x p.y ≡ top
  erode_empty top =
      le_antisymm (erode_top f top F B A p)
      ((erosion f top F B A p top).1 (le_refl top, λ q i s. absurd (none s.cell)))

  pub dilate_empty : dilate_by f F B A p.x p.y ≡ 0
  dilate_empty = le_antisymm ((dilation f F B A p 0).1 (λ q i s. absurd (none s.cell))) zero-le

-- ---- results within the depth
pub erode_bounded : (f : Change) (top : ℕ) (F : Frame) (B : Shape) (A : Picture)
    → Bounded top F (erode_by f top F B A)
erode_bounded f top F B A p i = erode_top f top F B A p

pub dilate_bounded : (f : Change) (top : ℕ) (F : Frame) (B : Shape) (A : Picture)
    → Holding top f → Bounded top F A → Bounded top F (dilate_by f F B A)
dilate_bounded f top F B A holds b q i =
    (dilation f F B A q top).1 (λ p ip s. holds (height_at B s) _ (b p ip))

-- ---- opening and closing, for a pair that belongs together

-- a flat element takes each value as it is
pub flat_paired : (top : ℕ) → Paired top flat flat
flat_paired top =
    record {
      lower_rises = λ g u v h. h;
      raise_rises = λ g u v h. h;
      raise_holds = λ g v h. h;
      adjoint = λ g c x hc hx. (λ h. h, λ h. h);
    }

module _ (lower raise : Change) (top : ℕ) (P : Paired top lower raise) (F : Frame) (B : Shape) where
  -- C dilated lies within X exactly when C lies within X eroded
  pub adjunction : (C X : Picture) → Bounded top F C → Bounded top F X
      → LiesWithin F (dilate_by raise F B C) X ↔ LiesWithin F C (erode_by lower top F B X)
  adjunction C X bc bx = (
    λ h p i. (erosion lower top F B X p _).1 (
      bc p i,
      λ q iq s. (P.adjoint (height_at B s) _ _ (bc p i)
          (bx q iq)).0 (le_trans (le_dilate raise F B C p q i s) (h q iq)),
    ),
    λ h q i. (dilation raise F B C q _).1
        (λ p ip s. (P.adjoint (height_at B s) _ _ (bc p ip)
        (bx q i)).1 (le_trans (h p ip) (erode_le lower top F B X p q i s))),
  )

  module _ (A : Picture) (b : Bounded top F A) where
    eroded_bounded : Bounded top F (erode_by lower top F B A)
    eroded_bounded = erode_bounded lower top F B A

    dilated_bounded : Bounded top F (dilate_by raise F B A)
    dilated_bounded = dilate_bounded raise top F B A P.raise_holds b

    -- the opening lies within the picture, and the picture within its closing
    pub opening_within : LiesWithin F (open_by lower raise top F B A) A
    opening_within = (adjunction (erode_by lower top F B A) A eroded_bounded b).1 (within_refl F _)

    pub within_closing : LiesWithin F A (close_by lower raise top F B A)
    within_closing = (adjunction A (dilate_by raise F B A) b dilated_bounded).0 (within_refl F _)

    -- the opening is the greatest dilated picture within A,
    -- and the closing the least eroded picture that contains it
    pub opening_greatest : (C : Picture) → Bounded top F C → LiesWithin F (dilate_by raise F B C) A
        → LiesWithin F (dilate_by raise F B C) (open_by lower raise top F B A)
    opening_greatest C bc h = dilate_mono raise P.raise_rises F B C _ ((adjunction C A bc b).0 h)

    pub closing_least : (X : Picture) → Bounded top F X → LiesWithin F A (erode_by lower top F B X)
        → LiesWithin F (close_by lower raise top F B A) (erode_by lower top F B X)
    closing_least X bx h = erode_mono lower P.lower_rises F B _ X ((adjunction A X b bx).1 h) top

  -- doing either twice changes nothing
  pub opening_twice : (A : Picture) → Bounded top F A
      → Alike F (open_by lower raise top F B (open_by lower raise top F B A)) (open_by lower raise top F B A)
  opening_twice A b p i =
      let o = open_by lower raise top F B A in
      let bo = dilate_bounded raise top F B _ P.raise_holds (erode_bounded lower top F B A) in
      le_antisymm (opening_within o bo p i)
      (opening_greatest o bo (erode_by lower top F B A) (erode_bounded lower top F B A) (within_refl F o) p i)

  pub closing_twice : (A : Picture) → Bounded top F A
      → Alike F (close_by lower raise top F B (close_by lower raise top F B A))
      (close_by lower raise top F B A)
  closing_twice A b p i =
      let k = close_by lower raise top F B A in
      let bk = erode_bounded lower top F B (dilate_by raise F B A) in
      le_antisymm (closing_least k bk (dilate_by raise F B A) (dilated_bounded A b) (within_refl F k) p i)
      (within_closing k bk p i)
