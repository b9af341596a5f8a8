-- The definitions with top 1 are document 01's sets of points.
use Prim.Native.Nat.{ℕ, zero, suc, ◌-◌, ◌≤◌}
use mathlib.Core.Path.{◌≡◌, refl, sym, ap, ◌∙◌, subst}
use mathlib.Core.Logic.Iff
use mathlib.Core.Logic.{◌↔◌}
use native.Mathlib.Nat.{le_antisymm, le_refl, le_of_eq}
use native.Mathlib.Omega.{arith}
use lib.IntN.{pos, ◌+ℤ◌}
use Rattle.picture.specs.Frame.{Frame}
use Rattle.picture.specs.Bytes.{Picture}
use Rattle.element.specs.Shape.{Shape, Offset}
use Rattle.morphology.specs.Step.{Place, In, cell_offset, Has, Plus, Step}
use Rattle.morphology.specs.Operations.{flat, erode, dilate, opening, closing, complement, hit_miss}
use Rattle.morphology.specs.Order.{Bounded}
use Rattle.morphology.specs.Sets.{Points, SetAt, Eroded, Dilated, Opened, Closed, Hit}
use Rattle.morphology.proofs.Reach.{erosion, dilation, erode_top, le_dilate, dilate_found}
use Rattle.morphology.proofs.Integers.{sub_moves}

-- a step is an offset that the element has, added
pub step_plus : (B : Shape) (p q : Place) (s : Step B p q) → Plus p (cell_offset B s.cell) q
step_plus B p q s =
    record {
      across = (sub_moves p.x q.x _ _).1 s.across;
      down = (sub_moves p.y q.y _ _).1 s.down;
    }

pub plus_step : (B : Shape) (p q : Place) (b : Offset) → Has B b → Plus p b q → Step B p q
plus_step B p q b h m =
    record {
      cell = h.0;
      across = (sub_moves p.x q.x _ _).0 (m.across ∙ ap (λ e. pos p.x +ℤ e.dx) (sym h.1));
      down = (sub_moves p.y q.y _ _).0 (m.down ∙ ap (λ e. pos p.y +ℤ e.dy) (sym h.1));
    }

module _ (F : Frame) (B : Shape) where
  module _ (A : Picture) (b : Bounded 1 F A) (p : Place) where
    pub eroded_set : (erode 1 F B A p.x p.y ≡ 1) ↔ Eroded F B (SetAt A) p
    eroded_set = (
      λ e d h q m i. le_antisymm (b q i)
          (((erosion flat 1 F B A p 1).0 (le_of_eq (sym e))).1 q i (plus_step B p q d h m)),
      λ each. le_antisymm (erode_top flat 1 F B A p)
          ((erosion flat 1 F B A p 1).1
          (le_refl 1, λ q i s. le_of_eq (sym (each _ (s.cell, refl) q (step_plus B p q s) i)))),
    )

    pub dilated_set : (dilate F B A p.x p.y ≡ 1) ↔ Dilated F B (SetAt A) p
    dilated_set = (
      λ e.
          let k = dilate_found flat F B A p (omega arith) in
          record {
            offset = _;
            has = (k.2.0.cell, refl);
            source = k.0;
            moved = step_plus B k.0 p k.2.0;
            inside = k.1;
            set = sym k.2.1 ∙ e;
          },
      λ d. le_antisymm ((dilation flat F B A p 1).1 (λ q i s. b q i))
          (subst (λ n. n ≤ dilate F B A p.x p.y) d.set
          (le_dilate flat F B A d.source p d.inside
          (plus_step B d.source p d.offset d.has d.moved))),
    )

  -- the same points of the frame give the same
  module _ (A C : Points) (same : (q : Place) → In F q → A q ↔ C q) (p : Place) where
    pub eroded_same : Eroded F B A p ↔ Eroded F B C p
    eroded_same = (
      λ each d h q m i. (same q i).0 (each d h q m i),
      λ each d h q m i. (same q i).1 (each d h q m i),
    )

    pub dilated_same : Dilated F B A p ↔ Dilated F B C p
    dilated_same = (
      λ d. record {
        offset = d.offset;
        has = d.has;
        source = d.source;
        moved = d.moved;
        inside = d.inside;
        set = (same d.source d.inside).0 d.set;
      },
      λ d. record {
        offset = d.offset;
        has = d.has;
        source = d.source;
        moved = d.moved;
        inside = d.inside;
        set = (same d.source d.inside).1 d.set;
      },
    )

  -- opening and closing
  module _ (A : Picture) (b : Bounded 1 F A) (p : Place) where
    pub opened_set : (opening 1 F B A p.x p.y ≡ 1) ↔ Opened F B (SetAt A) p
    opened_set =
        Iff.trans (dilated_set (erode 1 F B A) (λ q i. erode_top flat 1 F B A q) p)
        (dilated_same (SetAt (erode 1 F B A)) (Eroded F B (SetAt A)) (λ q i. eroded_set A b q) p)

    pub closed_set : (closing 1 F B A p.x p.y ≡ 1) ↔ Closed F B (SetAt A) p
    closed_set =
        Iff.trans (eroded_set (dilate F B A) (λ q i. (dilation flat F B A q 1).1 (λ r j s. b r j)) p)
        (eroded_same (SetAt (dilate F B A)) (Dilated F B (SetAt A)) (λ q i. dilated_set A b q) p)

-- hit-or-miss
not_one : (n : ℕ) → n ≤ 1 → ¬ (n ≡ 1) → 1 - n ≡ 1
not_one zero l s = refl
not_one (suc zero) l s = absurd (s refl)
not_one (suc (suc n)) l s = absurd (omega arith)

pub hit_set : (F : Frame) (B C : Shape) (A : Picture) → Bounded 1 F A → (p : Place)
    → (hit_miss F B C A p.x p.y ≡ 1) ↔ Hit F B C (SetAt A) p
unfolding hit_miss
hit_set F B C A b p =
    let hit = eroded_set F B A b p in
    let miss =
    Iff.trans (eroded_set F C (complement 1 A) (λ q i. omega arith) p)
    (eroded_same F C (SetAt (complement 1 A)) (λ q. ¬ SetAt A q) unset p) in
    let u = erode_top flat 1 F B A p in
    let v = erode_top flat 1 F C (complement 1 A) p in (
      λ e. (hit.0 (omega arith), miss.0 (omega arith)),
      λ h. let j = hit.1 h.0 in let k = miss.1 h.1 in omega arith,
    )
  where
    unset : (q : Place) → In F q → SetAt (complement 1 A) q ↔ (¬ SetAt A q)
    unset q i = (λ e s. omega arith, λ n. not_one (A q.x q.y) (b q i) n)
