-- A second operation, from the picture that the first has written.
use Prim.Native.Nat.{ℕ, ◌≤◌, ◌<◌}
use mathlib.Core.Path.{◌≡◌, sym, ap, ◌∙◌, subst}
use mathlib.Core.Bool.{Bool, true, false, not}
use mathlib.Core.List.{List}
use native.Mathlib.Omega.{arith}
use lib.ListN.{get_or}
use Rattle.basics.proofs.Bits.{bit_lt}
use Rattle.picture.specs.declared.Depth.{Depth}
use Rattle.picture.specs.declared.Depth.TheVariants.{OneBit, EightBit}
use Rattle.picture.specs.Frame.{Frame, Holds, top, frame}
use Rattle.picture.specs.Points.{value_at, value_in, byte_at, place}
use Rattle.picture.specs.Bytes.{Picture, written}
use Rattle.picture.proofs.Points.{written_same}
use Rattle.picture.proofs.Shown.{written_shown}
use Rattle.element.specs.declared.Outline.{Outline}
use Rattle.element.specs.Shape.{Shape}
use Rattle.element.specs.Record.{shape_by}
use Rattle.morphology.specs.Operations.{Change, flat}
use Rattle.morphology.specs.Order.{Alike, Bounded}
use Rattle.morphology.proofs.Order.{erode_alike, dilate_alike}
use Rattle.rows.specs.Steps.Ready.{Ready}
use Rattle.rows.specs.Steps.Ways.{weigh_by, swept_by}
use Rattle.rows.proofs.Swept.{swept_bounded}
use Rattle.byterow.specs.Steps.Row.{heightened_by}
use Rattle.apply.specs.Steps.Applied.{flat_of, flat_twice_by, weighted_by, weighted_twice_by}

-- ---- one-bit results are 0 or 1
pub bit_value : (depth : Depth) → depth ≡ OneBit → (s : List ℕ) (w x y : ℕ) → value_at depth s w x y ≤ 1
unfolding value_at value_in
bit_value depth e s w x y =
    subst (λ depth. value_at depth s w x y ≤ 1) (sym e)
    (omega (arith, bit_lt (get_or s (byte_at OneBit w x y) 0) (place x)))

module _ (depth : Depth) (w h : ℕ) (B : Shape) (s : List ℕ) (one : depth ≡ OneBit) where
  abbrev F : Frame
  F = frame w h

  bounded : Bounded (top depth) F (value_at depth s w)
  bounded p i =
      subst (λ n. value_at depth s w p.x p.y ≤ n)
      (sym (ap top one)) (bit_value depth one s w p.x p.y)

  within_one : (R : Picture) → Bounded (top depth) F R → (x y : ℕ) → x < w → y < h → R x y ≤ 1
  within_one R b x y lx ly =
      subst (λ n. R x y ≤ n) (ap top one) (b (record { x = x; y = y }) (record { ping = lx; bin = ly }))

  pub once_one : (grows : Bool) (x y : ℕ) → x < w → y < h
      → swept_by grows flat (top depth) F B (value_at depth s w) x y ≤ 1
  once_one grows = within_one _ (swept_bounded grows (top depth) F B _ bounded)

  pub twice_one : (grows other : Bool) (x y : ℕ) → x < w → y < h
      → swept_by other flat (top depth) F B (swept_by grows flat (top depth) F B (value_at depth s w)) x y ≤ 1
  twice_one grows other =
      within_one _ (swept_bounded other (top depth) F B _ (swept_bounded grows (top depth) F B _ bounded))

-- ---- what an operation makes of pictures that agree in the frame
pub swept_alike : (grows : Bool) (change : Change) (top : ℕ) (F : Frame) (B : Shape) (A C : Picture)
    → Alike F A C → (x y : ℕ)
    → swept_by grows change top F B A x y ≡ swept_by grows change top F B C x y
swept_alike true change top F B A C a x y = dilate_alike change F B A C a (record { x = x; y = y })
swept_alike false change top F B A C a x y = erode_alike change F B A C a (record { x = x; y = y }) top

-- over any picture that is written in between, of one bit 0 or 1
module _ (depth : Depth) (w h : ℕ) (B : Shape) (middle : Picture) (m m₀ t u : List ℕ)
    (small : depth ≡ OneBit → (x y : ℕ) → x < w → y < h → middle x y ≤ 1)
    (em : m ≡ written depth middle w h m₀) where
  pub from_written : (grows : Bool) (change : Change)
      → u ≡ written depth (swept_by grows change (top depth) (frame w h) B (value_at depth m w)) w h t
      → u ≡ written depth (swept_by grows change (top depth) (frame w h) B middle) w h t
  from_written grows change eu =
      eu ∙ written_same depth _ _ w h t
      (λ x y lx ly. swept_alike grows change (top depth) (frame w h) B (value_at depth m w) middle
      (λ p i. ap (λ l. value_at depth l w p.x p.y) em
      ∙ written_shown depth middle w h m₀ small p.x p.y i.ping i.bin) x y)

-- ---- flat, and weighted
module _ (w h : ℕ) (o : Outline) (words s m m₀ t u : List ℕ) (first : Bool) where
  pub flat_after : (depth : Depth)
      → m ≡ written depth (flat_of first depth s w h o words) w h m₀
      → u ≡ written depth (flat_of (not first) depth m w h o words) w h t
      → u ≡ written depth (flat_twice_by first depth w h o words (value_at depth s w)) w h t
  flat_after depth em eu =
      from_written depth w h (shape_by o words) (flat_of first depth s w h o words) m m₀ t u
      (λ one. once_one depth w h (shape_by o words) s one first) em (not first) flat eu

  pub weighted_after : (hs : List ℕ)
      → m ≡ written EightBit (weighted_by first w h o words hs (value_at EightBit s w)) w h m₀
      → u ≡ written EightBit (weighted_by (not first) w h o words hs (value_at EightBit m w)) w h t
      → u ≡ written EightBit (weighted_twice_by first w h o words hs (value_at EightBit s w)) w h t
  weighted_after hs em eu =
      from_written EightBit w h (heightened_by o words hs)
      (weighted_by first w h o words hs (value_at EightBit s w)) m m₀ t u
      (λ one. let z : ◌≡◌ {A = ℕ} 0 1 = cc in absurd (omega arith)) em (not first) (weigh_by (not first)) eu

-- a buffer that was written to is as long as it was
pub still_holds : (depth : Depth) (w h was now : ℕ) → now ≡ was → Holds depth was w h → Holds depth now w h
still_holds depth w h was now e p = subst (λ n. Holds depth n w h) (sym e) p

-- and an element does for it what it did for the source
pub ready_from : (depth : Depth) (w h ns nw was now : ℕ) (o : Outline) → now ≡ was
    → Ready depth ns nw w h o → Holds depth was w h → Ready depth now nw w h o
ready_from depth w h ns nw was now o e p b =
    record {
      some_pings = p.some_pings;
      few_pings = p.few_pings;
      few_bins = p.few_bins;
      source = (still_holds depth w h was now e b).long;
      few_wide = p.few_wide;
      few_high = p.few_high;
      column = p.column;
      row = p.row;
      words = p.words;
    }
