-- Visits one after another.
use Prim.Native.Nat.{ℕ, ◌+◌, ◌-◌, ◌*◌, ◌/◌, ◌≤◌, ◌<◌, min}
use mathlib.Core.Path.{◌≡◌, refl, sym, ap, ◌∙◌, subst}
use mathlib.Core.Bool.{Bool, true, false, not, ◌||◌}
use mathlib.Core.List.{List}
use mathlib.Core.Logic.{◌⊎◌, inl, inr, ⊎_elim}
use native.Mathlib.Nat.{le_refl}
use native.Mathlib.Omega.{arith}
use borrow.Author.Tests.{eqb-true, eqb-false, not-false}
use lib.Dec.{eqb}
use lib.ListN.{length}
use Rattle.basics.specs.Bytes.{Bytes}
use Rattle.basics.proofs.SliceParts.{below_or_not}
use Rattle.settle.specs.declared.Cell.{Cell}
use Rattle.settle.specs.Steps.Cells.{cell_word, grown_word, settled, Fits}
use Rattle.settle.specs.Steps.Grew.{StillAt}
use Rattle.settle.proofs.Cells.{settled_same}
use Rattle.settle.proofs.Sound.{cell_grew, cell_gained, cell_still}
use Rattle.reconstruct.specs.declared.Rows.{Rows}
use Rattle.reconstruct.specs.Steps.Visits.{cells, turned_of, Room, Grew, Visit, InRow, PassTo, SweptTo}
use Rattle.reconstruct.specs.Steps.Visits.{StillAll}

pub never : {A : Type 0} (b : Bool) → b ≡ true → b ≡ false → A
never true e f = let z : ◌≡◌ {A = ℕ} 0 1 = cc in absurd (omega arith)
never false e f = let z : ◌≡◌ {A = ℕ} 0 1 = cc in absurd (omega arith)

or_false : (a b : Bool) → (a || b) ≡ false → (a ≡ false) × (b ≡ false)
or_false true b e = never true refl e
or_false false b e = (refl, e)

or_true : (a b : Bool) → (a || b) ≡ true → (a ≡ true) ⊎ ((a ≡ false) × (b ≡ true))
or_true true b e = inl refl
or_true false b e = inr (refl, e)

module _ (r : Rows) (mask : List ℕ) where
  pub grew_none : (l : List ℕ) → Grew r mask l l
  grew_none l =
      record {
        same_length = refl;
        bytes = λ b. b;
        rest = λ i h. refl;
        more = λ x y hx hy. le_refl _;
        under = λ G shut under. under;
      }

  pub grew_then : (l t s : List ℕ) → Grew r mask l t → Grew r mask t s → Grew r mask l s
  grew_then l t s p q =
      record {
        same_length = q.same_length ∙ p.same_length;
        bytes = λ b. q.bytes (p.bytes b);
        rest = λ i h. q.rest i h ∙ p.rest i h;
        more = λ x y hx hy. omega (arith, p.more x y hx hy, q.more x y hx hy);
        under = λ G shut under. q.under G shut (p.under G shut under);
      }

  -- a visit of nothing, and of what is left
  pub visit_none : (l : List ℕ) (S : ℕ → ℕ → Type 0) → ((v z : ℕ) → S v z → ⊥) → Visit r mask l l false S
  visit_none l S none =
      record {
        grew = grew_none l;
        gained = λ e. never false e refl;
        same = λ e. refl;
        still = λ e v z s. absurd (none v z s);
      }

  -- one visit after another: all that either came to
  pub visit_then : (l t s : List ℕ) (a b c : Bool) (S Q P : ℕ → ℕ → Type 0) → Visit r mask l t a S
      → Visit r mask t s b Q → c ≡ (a || b) → ((v z : ℕ) → P v z → S v z ⊎ Q v z)
      → Visit r mask l s c P
  visit_then l t s a b c S Q P p q e some =
      record {
        grew = grew_then l t s p.grew q.grew;
        gained = λ k. ⊎_elim
            (λ y. let g = p.gained y in
            (g.0, g.1, g.2, g.3, omega (arith, g.4, q.grew.more g.0 g.1 g.2 g.3)))
            (λ y. let g = q.gained y.1 in
            (g.0, g.1, g.2, g.3, omega (arith, g.4, p.grew.more g.0 g.1 g.2 g.3)))
            (or_true a b (sym e ∙ k));
        same = λ k. let n = or_false a b (sym e ∙ k) in p.same n.0 ∙ q.same n.1;
        still = λ k v z m. let n = or_false a b (sym e ∙ k) in
            ⊎_elim (λ y. p.still n.0 v z y)
            (λ y. subst (λ x. StillAt r.square r.n r.u r.h mask x v z) (sym (p.same n.0))
            (q.still n.1 v z y)) (some v z m);
      }

-- ---- a cell
module _ (c : Cell) (mask l t : List ℕ) (bm : Bytes mask) (bl : Bytes l)
    (fm : Fits c (length mask)) (fits : Fits c (length l)) where
  abbrev rows : Rows
  rows = record { square = c.square; n = c.n; u = c.u; h = c.h }

  abbrev InCell : ℕ → ℕ → Type 0
  InCell v z = (z ≡ c.y) × (8 * c.j ≤ v) × (v < 8 * (c.j + c.k))

  pub cell_visit : (b : Bool) → b ≡ not (eqb (grown_word c mask l) (cell_word c l)) → t ≡ settled c mask l
      → Visit rows mask l t b InCell
  cell_visit b eb et = subst (λ x. Visit rows mask l x b InCell) (sym et)
      record {
        grew = cell_grew c mask l bm bl fm fits;
        gained = λ e. cell_gained c mask l bm bl fm fits
            (λ q. eqb-false _ _ (unchanged (eqb (grown_word c mask l) (cell_word c l)) (sym eb ∙ e)) q);
        same = λ e. settled_same c mask l bl fits (eqb-true _ _ (not-false _ (sym eb ∙ e)));
        still = λ e v z m. subst (λ y. StillAt c.square c.n c.u c.h mask l v y) (sym m.0)
            (cell_still c mask l bm bl fm fits (eqb-true _ _ (not-false _ (sym eb ∙ e))) v m.1 m.2);
      }
    where
      unchanged : (x : Bool) → not x ≡ true → x ≡ false
      unchanged true e = never false e refl
      unchanged false e = refl

-- ---- a pass: its cells lie in the row, and one cell more
pub cell_fits : (r : Rows) (m y k f : ℕ) → Room r m → y < r.h → f < cells r.n → k ≡ min 8 (r.n - f * 8)
    → Fits (record { square = r.square; n = r.n; u = r.u; h = r.h; y = y; j = f * 8; k = k }) m
cell_fits r m y k f room hy hf ek =
    record {
      few_bytes = room.few_bytes;
      few_bins = room.few_bins;
      few_spare = room.few_spare;
      in_bins = hy;
      some = omega arith;
      few = omega arith;
      in_row = omega arith;
      long = room.long;
    }

pub same_room : (r : Rows) (m n : ℕ) → n ≡ m → Room r m → Room r n
same_room r m n e room = subst (Room r) (sym e) room

module _ (r : Rows) (mask l t s : List ℕ) (back : Bool) (y i : ℕ) (hi : i < cells r.n) where
  pub pass_more : (c : Cell) → (c.y ≡ y) × (c.j ≡ turned_of back (cells r.n) i * 8)
      × (c.k ≡ min 8 (r.n - c.j))
      → (a b e : Bool) → Visit r mask l t a (PassTo r back y i)
      → Visit r mask t s b (λ v z. (z ≡ c.y) × (8 * c.j ≤ v) × (v < 8 * (c.j + c.k)))
      → e ≡ (a || b) → Visit r mask l s e (PassTo r back y (i + 1))
  pass_more c is a b e p q eb =
      visit_then r mask l t s a b e _ _ _ p q eb
      (λ v z m. ⊎_elim (λ g. inl (m.0, m.1, (m.2.0, g, m.2.2)))
      (λ g. let w = ap (λ k. turned_of back (cells r.n) k) (last m.2.0 m.2.1 g) in
      let f : v / 64 ≡ turned_of back (cells r.n) i = m.2.2 ∙ w in
      inr (
        m.1 ∙ sym is.0,
        low v (turned_of back (cells r.n) i) c.j f is.1,
        high v (turned_of back (cells r.n) i) c.j c.k r.n f is.1 is.2 m.0,
      ))
      (below_or_not m.2.0 i))
    where
      last : (k : ℕ) → k < i + 1 → i ≤ k → k ≡ i
      last k h g = omega arith

      low : (v f j : ℕ) → v / 64 ≡ f → j ≡ f * 8 → 8 * j ≤ v
      low v f j e q = omega arith

      high : (v f j k n : ℕ) → v / 64 ≡ f → j ≡ f * 8 → k ≡ min 8 (n - j) → v < 8 * n → v < 8 * (j + k)
      high v f j k n e q w h = omega arith

-- all cells: the row
pub row_passed : (r : Rows) (mask l t : List ℕ) (y : ℕ) (b c : Bool) → b ≡ c
    → Visit r mask l t b (PassTo r false y (cells r.n)) → Visit r mask l t c (InRow r y)
row_passed r mask l t y b c eb p =
    record {
      grew = p.grew;
      gained = λ e. p.gained (eb ∙ e);
      same = λ e. p.same (eb ∙ e);
      still = λ e v z m. p.still (eb ∙ e) v z (m.0, m.1, (v / 64, cell_in v r.n m.0, refl));
    }
  where
    cell_in : (v n : ℕ) → v < 8 * n → v / 64 < (n + 7) / 8
    cell_in v n h = omega arith

-- and back again: what changed is gained
pub row_again : (r : Rows) (mask l t s : List ℕ) (y : ℕ) (a b : Bool) (S Q : ℕ → ℕ → Type 0) → a ≡ true
    → Visit r mask l t a S → Visit r mask t s b Q → Visit r mask l s true (InRow r y)
row_again r mask l t s y a b S Q ea p q =
    record {
      grew = grew_then r mask l t s p.grew q.grew;
      gained = λ e. let g = p.gained ea in
          (g.0, g.1, g.2, g.3, omega (arith, g.4, q.grew.more g.0 g.1 g.2 g.3));
      same = λ e. never true refl e;
      still = λ e. never true refl e;
    }

-- ---- a sweep: one row more
pub sweep_more : (r : Rows) (mask l t s : List ℕ) (up : Bool) (i y : ℕ) → y ≡ turned_of up r.h i
    → (a b e : Bool) → Visit r mask l t a (SweptTo r up i) → Visit r mask t s b (InRow r y)
    → e ≡ (a || b) → Visit r mask l s e (SweptTo r up (i + 1))
sweep_more r mask l t s up i y ey a b e p q eb =
    visit_then r mask l t s a b e _ _ _ p q eb
    (λ v z m. ⊎_elim (λ g. inl (m.0, (m.1.0, g, m.1.2)))
    (λ g. inr (m.0, m.1.2 ∙ ap (λ k. turned_of up r.h k) (last m.1.0 m.1.1 g) ∙ sym ey))
    (below_or_not m.1.0 i))
  where
    last : (k : ℕ) → k < i + 1 → i ≤ k → k ≡ i
    last k h g = omega arith

-- all rows, downwards or upwards, with nothing changed: all is still
pub all_swept : (r : Rows) (mask l t : List ℕ) (up b : Bool) → Visit r mask l t b (SweptTo r up r.h)
    → b ≡ false → StillAll r mask t
all_swept r mask l t up b p e v z m =
    subst (λ x. StillAt r.square r.n r.u r.h mask x v z) (p.same e)
    (p.still e v z (m.0, came up m.1))
  where
    came : (up : Bool) → z < r.h → (k : ℕ) × (k < r.h) × (z ≡ turned_of up r.h k)
    came true h = (r.h - 1 - z, omega arith, omega arith)
    came false h = (z, h, refl)
