-- Where no offset is at fault the element and the chain reach the same points in every frame,
-- and so give the same pictures.
use Prim.Native.Nat.{ℕ, ◌+◌, ◌-◌, ◌*◌, ◌≤◌}
use mathlib.Core.Path.{◌≡◌}
use mathlib.Core.Logic.{⊎_elim}
use mathlib.Core.List.{List, [], ◌∷◌}
use native.Mathlib.Nat.{le_antisymm, not-suc-le-zero}
use native.Mathlib.Omega.{arith}
use lib.ListN.{length}
use Rattle.answer.specs.Answer.{centre}
use Rattle.picture.specs.Frame.{Frame}
use Rattle.picture.specs.Bytes.{Picture}
use Rattle.element.specs.Shape.{Shape}
use Rattle.element.specs.Descriptor.{most_cells}
use Rattle.morphology.specs.Step.{Place, In, Step}
use Rattle.morphology.specs.Operations.{flat, erode, dilate}
use Rattle.morphology.specs.Order.{Bounded}
use Rattle.morphology.specs.Chain.{Fits, AllFit, Chained, most_link_cells, most_links, erode_all, dilate_all}
use Rattle.morphology.specs.Check.{still, path_test, has_test}
use Rattle.basics.proofs.Truth.{decided}
use Rattle.morphology.proofs.Places.{Moved, Walk, HasAt, SumAt, BetweenAt}
use Rattle.morphology.proofs.Places.{PathAt, FaultAt, missed_at, extra_at}
use Rattle.morphology.proofs.Reach.{erosion, dilation, erode_top, erode_le, le_dilate}
use Rattle.morphology.proofs.Runs.{dils_le, le_dils, le_eros, eros_le, opposite, opposite_is}
use Rattle.morphology.proofs.Runs.{opposite_in, opposite_in', turned, turned_back}
use Rattle.morphology.proofs.Walks.{carry, Near, near_end, near_all}
use Rattle.morphology.proofs.Tests.{path_sound, path_complete, has_sound, has_complete}

-- ---- a step or a walk from p to q in a frame, and the offset q - p

pub moved_has : {E : Shape} {e p q : Place} → Moved e p q → Step E p q → HasAt E e
moved_has m s = record { cell = s.cell; across = omega arith; down = omega arith }

pub has_moved : {E : Shape} {e p q : Place} → Moved e p q → HasAt E e → Step E p q
has_moved m s = record { cell = s.cell; across = omega arith; down = omega arith }

-- between 0 and e keeps between p and p + e, and so in the frame
pub path_walks : (F : Frame) (Bs : List Shape) (e p q : Place) → In F p → In F q → Moved e p q → PathAt Bs e
    → Walk (In F) Bs p q
path_walks F Bs e p q ip iq mv w =
    carry (BetweenAt e) (In F) still p
    (λ m b. (
      record { x = m.x + p.x - centre; y = m.y + p.y - centre },
      record { across = omega arith; down = omega arith },
      record { ping = omega arith; bin = omega arith },
    ))
    Bs still e p q (record { across = omega arith; down = omega arith })
    (record { across = omega arith; down = omega arith }) w

pub walk_sums : (P : Place → Type 0) (Bs : List Shape) (e p q : Place)
    → AllFit most_link_cells Bs → length Bs ≤ most_links → Moved e p q → Walk P Bs p q → SumAt Bs e
walk_sums P Bs e p q f l mv w =
    carry (λ m. P m × Near (7 * length Bs) p m) (λ m. Unit {0}) p still
    (λ m h. let n = h.1 in (
      record { x = m.x + centre - p.x; y = m.y + centre - p.y },
      record { across = omega arith; down = omega arith },
      tt,
    ))
    Bs p q still e (record { across = omega arith; down = omega arith })
    (record { across = omega arith; down = omega arith }) (near_all P Bs p q f w)

-- q - p; with p not far to the right of q or below it, ℕ has the place
pub offset : Place → Place → Place
offset p q = record { x = q.x + centre - p.x; y = q.y + centre - p.y }

abbrev pub Close : Place → Place → Type 0
Close p q = (p.x ≤ q.x + centre) × (p.y ≤ q.y + centre)

pub close_moved : (p q : Place) → Close p q → Moved (offset p q) p q
unfolding offset
close_moved p q c = record { across = omega arith; down = omega arith }

pub step_close : (E : Shape) (p q : Place) → Fits most_cells E → Step E p q → Close p q
step_close E p q f s = (omega arith, omega arith)

pub walk_close : (P : Place → Type 0) (Bs : List Shape) (p q : Place)
    → AllFit most_link_cells Bs → length Bs ≤ most_links → Walk P Bs p q → Close p q
walk_close P Bs p q f l w = let n = near_end P Bs p q f w in (omega arith, omega arith)

-- ---- an offset that is not at fault

module _ (E : Shape) (Bs : List Shape) (C : Chained E Bs) where
  has_path : (e : Place) → ¬ FaultAt E Bs e → HasAt E e → PathAt Bs e
  has_path e nf h =
      ⊎_elim (path_sound Bs e) (λ np. absurd (nf (missed_at h (λ w. np (path_complete Bs e w)))))
      (decided (path_test Bs e))

  sum_has : (e : Place) → ¬ FaultAt E Bs e → SumAt Bs e → HasAt E e
  sum_has e nf s =
      ⊎_elim (has_sound E e) (λ nh. absurd (nf (extra_at (λ h. nh (has_complete E e h)) s)))
      (decided (has_test E e))

  -- what the element reaches by it the chain reaches, and the other way round
  pub to_chain : (F : Frame) (e p q : Place) → In F p → In F q → Moved e p q → ¬ FaultAt E Bs e → Step E p q
      → Walk (In F) Bs p q
  to_chain F e p q ip iq mv nf s = path_walks F Bs e p q ip iq mv (has_path e nf (moved_has mv s))

  pub to_element : (F : Frame) (e p q : Place) → Moved e p q → ¬ FaultAt E Bs e → Walk (In F) Bs p q
      → Step E p q
  to_element F e p q mv nf w =
      has_moved mv (sum_has e nf (walk_sums (In F) Bs e p q C.links C.few_links mv w))

  -- ---- no offset at fault

  module _ (none : (e : Place) → ¬ FaultAt E Bs e) (F : Frame) where
    chain_reaches : (p q : Place) → In F p → In F q → Step E p q → Walk (In F) Bs p q
    chain_reaches p q ip iq s =
        to_chain F (offset p q) p q ip iq (close_moved p q (step_close E p q C.element s))
        (none (offset p q)) s

    element_reaches : (p q : Place) → Walk (In F) Bs p q → Step E p q
    element_reaches p q w =
        to_element F (offset p q) p q (close_moved p q (walk_close (In F) Bs p q C.links C.few_links w))
        (none (offset p q)) w

    pub same_dilated : (A : Picture) (q : Place) → In F q
        → dilate_all F Bs A q.x q.y ≡ dilate F E A q.x q.y
    same_dilated A q iq =
        le_antisymm
        (dils_le F Bs A q (dilate F E A q.x q.y) iq
        (λ p ip w. le_dilate flat F E A p q ip (element_reaches p q w)))
        ((dilation flat F E A q (dilate_all F Bs A q.x q.y)).1
        (λ p ip s. le_dils F Bs A p q ip (chain_reaches p q ip iq s)))

    -- the points that erosion reaches are those of dilation, with the frame turned by half a turn
    pub same_eroded : (top : ℕ) (A : Picture) (p : Place) → In F p → erode_all top F Bs A p.x p.y ≤ top
        → erode_all top F Bs A p.x p.y ≡ erode top F E A p.x p.y
    same_eroded top A p ip bound =
        let p' = opposite F p in
        let o = opposite_is F p ip in
        le_antisymm
        ((erosion flat top F E A p (erode_all top F Bs A p.x p.y)).1 (
          bound,
          λ q iq s.
              let oq = opposite_is F q iq in
              eros_le top F Bs A p p' q (opposite F q) o oq
              (chain_reaches (opposite F q) p' (opposite_in' oq) (opposite_in' o) (turned o oq s)),
        ))
        (le_eros top F Bs A p p' (erode top F E A p.x p.y) o (erode_top flat top F E A p) (λ q q' oq w.
        erode_le flat top F E A p q (opposite_in oq) (turned_back o oq (element_reaches q' p' w))))

eros_top : (top : ℕ) (F : Frame) (Bs : List Shape) (A : Picture) → Bounded top F A
    → (p : Place) → In F p → erode_all top F Bs A p.x p.y ≤ top
unfolding erode_all
eros_top top F [] A b p i = b p i
eros_top top F (B ∷ Bs) A b p i = eros_top top F Bs (erode top F B A) (λ q iq. erode_top flat top F B A q) p i

-- after one link or more no value is above top, whatever the picture
pub eros_some : (top : ℕ) (F : Frame) (Bs : List Shape) (A : Picture) → 1 ≤ length Bs → (p : Place) → In F p
    → erode_all top F Bs A p.x p.y ≤ top
unfolding erode_all
eros_some top F [] A some p i = absurd (not-suc-le-zero some)
eros_some top F (B ∷ Bs) A some p i =
    eros_top top F Bs (erode top F B A) (λ q iq. erode_top flat top F B A q) p i
