-- Every operation gives the same picture in the frame of two that are the same there;
-- so what a call writes and answers is the same of two sources with the same points.
use Prim.Native.Nat.{ℕ, ◌-◌, ◌<◌, min}
use mathlib.Core.Path.{◌≡◌, refl, ap, ap₂}
use mathlib.Core.Bool.{Bool, not}
use mathlib.Core.List.{List, [], ◌∷◌, ◌++◌}
use lib.Dec.{eqb}
use lib.ListN.{length}
use Rattle.answer.specs.declared.Told.{Told}
use Rattle.answer.specs.Refuse.{Test, refuse}
use Rattle.answer.specs.Lent.{unless_refused}
use Rattle.picture.specs.declared.Depth.{Depth}
use Rattle.picture.specs.declared.Depth.TheVariants.{OneBit}
use Rattle.picture.specs.Frame.{Frame, frame, top, picture_bytes}
use Rattle.picture.specs.Points.{value_at}
use Rattle.picture.specs.Bytes.{Picture, written, turned, faced}
use Rattle.picture.proofs.Points.{written_same}
use Rattle.element.specs.Shape.{Shape}
use Rattle.morphology.specs.Operations.{flat, erode, dilate, opening, closing, complement, hit_miss}
use Rattle.morphology.specs.TopHats.{white_top_hat, black_top_hat, gradient}
use Rattle.morphology.specs.Chain.{erode_all, dilate_all}
use Rattle.morphology.specs.Order.{Alike}
use Rattle.morphology.proofs.Order.{erode_alike, dilate_alike}
use Rattle.judge.specs.declared.Padding.TheVariants.{Free}
use Rattle.judge.specs.Tests.{size_tests, picture_tests}
use Rattle.demands.specs.PointsAlone.{SamePoints}

-- ---- operations
abbrev pub Respects : (Picture → Picture) → Frame → Type 0
Respects operation F = (A C : Picture) → Alike F A C → Alike F (operation A) (operation C)

module _ (F : Frame) (B : Shape) where
  pub erode_respects : (most : ℕ) → Respects (erode most F B) F
  erode_respects most A C h p i = erode_alike flat F B A C h p most

  pub dilate_respects : Respects (dilate F B) F
  dilate_respects A C h p i = dilate_alike flat F B A C h p

  pub opening_respects : (most : ℕ) → Respects (opening most F B) F
  opening_respects most A C h = dilate_respects _ _ (erode_respects most A C h)

  pub closing_respects : (most : ℕ) → Respects (closing most F B) F
  closing_respects most A C h = erode_respects most _ _ (dilate_respects A C h)

  pub white_respects : (most : ℕ) → Respects (white_top_hat most F B) F
  white_respects most A C h p i = ap₂ (λ a b. a - b) (h p i) (opening_respects most A C h p i)

  pub black_respects : (most : ℕ) → Respects (black_top_hat most F B) F
  black_respects most A C h p i = ap₂ (λ a b. a - b) (closing_respects most A C h p i) (h p i)

  pub gradient_respects : (most : ℕ) → Respects (gradient most F B) F
  gradient_respects most A C h p i =
      ap₂ (λ a b. a - b) (dilate_respects A C h p i) (erode_respects most A C h p i)

pub hit_respects : (F : Frame) (B C : Shape) → Respects (hit_miss F B C) F
unfolding hit_miss
hit_respects F B C A A' h p i =
    ap₂ min (erode_respects F B 1 A A' h p i)
    (erode_respects F C 1 (complement 1 A) (complement 1 A') (λ q j. ap (λ v. 1 - v) (h q j)) p i)

pub erode_all_respects : (most : ℕ) (F : Frame) (Bs : List Shape) → Respects (erode_all most F Bs) F
unfolding erode_all
erode_all_respects most F [] A C h = h
erode_all_respects most F (B ∷ Bs) A C h = erode_all_respects most F Bs _ _ (erode_respects F B most A C h)

pub dilate_all_respects : (F : Frame) (Bs : List Shape) → Respects (dilate_all F Bs) F
unfolding dilate_all
dilate_all_respects F [] A C h = h
dilate_all_respects F (B ∷ Bs) A C h = dilate_all_respects F Bs _ _ (dilate_respects F B A C h)

-- ---- of two sources with the same points
module _ (depth : Depth) (w h : ℕ) (s t : List ℕ) (same : SamePoints depth w h s t) where
  pub same_alike : Alike (frame w h) (value_at depth s w) (value_at depth t w)
  same_alike p i = same.points p.x p.y i.ping i.bin

  -- where the padding is free, the tests of a picture know the length of its source and nothing else
  pub same_tests : (us : List Test) (after : Told)
      → refuse (picture_tests Free depth w h s ++ us) after
      ≡ refuse (picture_tests Free depth w h t ++ us) after
  same_tests us after =
      ap (λ n. refuse ((size_tests w h ++ ((not (eqb n (picture_bytes depth w h)), 2) ∷ [])) ++ us) after)
      same.long

  pub same_written : (operation : Picture → Picture) → Respects operation (frame w h) → (b : List ℕ)
      → written depth (operation (value_at depth s w)) w h b
      ≡ written depth (operation (value_at depth t w)) w h b
  same_written operation respects b =
      written_same depth _ _ w h b (λ x y hx hy.
      respects _ _ same_alike (record { x = x; y = y }) (record { ping = hx; bin = hy }))

  pub same_told : (after : Told)
      → refuse (picture_tests Free depth w h s) after ≡ refuse (picture_tests Free depth w h t) after
  same_told after =
      ap (λ n. refuse (size_tests w h ++ ((not (eqb n (picture_bytes depth w h)), 2) ∷ [])) after) same.long
