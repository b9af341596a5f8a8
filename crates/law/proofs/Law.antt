-- Request (ix): the law behind the frame rule holds of flat elements at both depths and of weighted ones.
-- All of it comes from what one cell does (`Paired`), once; then the three instances in a line each.
use Prim.Native.Nat.{ℕ}
use mathlib.Core.Path.{refl, sym}
use native.Mathlib.Nat.{le_trans, le_antisymm, le_of_eq}
use Rattle.picture.specs.Frame.{Frame}
use Rattle.picture.specs.Bytes.{Picture}
use Rattle.element.specs.Shape.{Shape}
use Rattle.morphology.specs.Operations.{Change, flat, erode_by, dilate_by, open_by, close_by}
use Rattle.morphology.specs.Weighted.{lower, raise}
use Rattle.morphology.specs.Order.{LiesWithin, Alike, Bounded, Paired}
use Rattle.law.specs.Law.{GreatestDilated, LeastEroded, Lawful, OneBitLaw, EightBitLaw, WeightedLaw}
use Rattle.morphology.proofs.Order.{flat_paired, adjunction, opening_within, within_closing}
use Rattle.morphology.proofs.Order.{opening_greatest, closing_least, opening_twice, closing_twice}
use Rattle.morphology.proofs.Order.{erode_bounded, dilate_bounded}
use Rattle.morphology.proofs.Weights.{weights_paired}

module _ (F : Frame) (A C X : Picture) (same : Alike F A C) where
  -- pictures that are the same lie within the same, and contain the same
  alike_within : LiesWithin F A X → LiesWithin F C X
  alike_within h p i = le_trans (le_of_eq (sym (same p i))) (h p i)

  within_alike : LiesWithin F X A → LiesWithin F X C
  within_alike h p i = le_trans (h p i) (le_of_eq (same p i))

module _ (lower raise : Change) (top : ℕ) (P : Paired top lower raise) (F : Frame) (B : Shape)
    (X : Picture) (b : Bounded top F X) where
  greatest : GreatestDilated raise top F B X (open_by lower raise top F B X)
  greatest =
      record {
        dilated = record {
          from = erode_by lower top F B X;
          bounded = erode_bounded lower top F B X;
          made = λ p i. refl;
        };
        inside = opening_within lower raise top P F B X b;
        greatest = λ D d h.
            alike_within F (dilate_by raise F B d.from) D _ (λ p i. sym (d.made p i))
            (opening_greatest lower raise top P F B X b d.from d.bounded
            (alike_within F D (dilate_by raise F B d.from) X d.made h));
      }

  least : LeastEroded lower top F B X (close_by lower raise top F B X)
  least =
      record {
        eroded = record {
          from = dilate_by raise F B X;
          bounded = dilate_bounded raise top F B X P.raise_holds b;
          made = λ p i. refl;
        };
        contains = within_closing lower raise top P F B X b;
        least = λ E e h.
            within_alike F (erode_by lower top F B e.from) E _ (λ p i. sym (e.made p i))
            (closing_least lower raise top P F B X b e.from e.bounded
            (within_alike F E (erode_by lower top F B e.from) X e.made h));
      }

-- once, over the cell's pair of functions
pub lawful : (lower raise : Change) (top : ℕ) → Paired top lower raise
    → (F : Frame) (B : Shape) → Lawful lower raise top F B
lawful lower raise top P F B =
    record {
      law = adjunction lower raise top P F B;
      opening_greatest = greatest lower raise top P F B;
      closing_least = least lower raise top P F B;
      opening_twice = opening_twice lower raise top P F B;
      closing_twice = closing_twice lower raise top P F B;
    }

pub one_bit_law : OneBitLaw
one_bit_law = lawful flat flat 1 (flat_paired 1)

pub eight_bit_law : EightBitLaw
eight_bit_law = lawful flat flat 255 (flat_paired 255)

pub weighted_law : WeightedLaw
weighted_law = lawful lower raise 255 weights_paired

-- "the greatest" and "the least" name one picture: two that are it are the same
pub greatest_one : (raise : Change) (top : ℕ) (F : Frame) (B : Shape) (X O O' : Picture)
    → GreatestDilated raise top F B X O → GreatestDilated raise top F B X O' → Alike F O O'
greatest_one raise top F B X O O' g g' p i =
    le_antisymm (g'.greatest O g.dilated g.inside p i) (g.greatest O' g'.dilated g'.inside p i)

pub least_one : (lower : Change) (top : ℕ) (F : Frame) (B : Shape) (X K K' : Picture)
    → LeastEroded lower top F B X K → LeastEroded lower top F B X K' → Alike F K K'
least_one lower top F B X K K' l l' p i =
    le_antisymm (l.least K' l'.eroded l'.contains p i) (l'.least K l.eroded l.contains p i)
