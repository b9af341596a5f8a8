-- A number that is kept answers as the number itself does: it is judged too large where that is.
use Prim.Native.Nat.{ℕ, ◌<◌}
use mathlib.Core.Path.{◌≡◌, refl, sym, ap, ap₂, ◌∙◌}
use mathlib.Core.Bool.{Bool, true, false, ◌&&◌}
use mathlib.Core.List.{List}
use native.Mathlib.Omega.{arith}
use borrow.Author.Tests.{le-leb, lt-leb, leb-true, leb-false, eq-eqb, ne_eqb, eqb-true, eqb-false}
use lib.Dec.{leb, eqb}
use Rattle.std.specs.Prelude.{Result, Ok, Err}
use Rattle.answer.specs.declared.Refusal.{Refusal}
use Rattle.answer.specs.Answer.{plain, is_done}
use Rattle.answer.proofs.Variants.{ok_done}
use Rattle.answer.specs.Refuse.{refuse}
use Rattle.picture.specs.declared.Depth.{Depth}
use Rattle.picture.specs.declared.Depth.TheVariants.{OneBit, EightBit}
use Rattle.picture.specs.Frame.{sized_frame}
use Rattle.picture.proofs.Sizes.{sized_tells}
use Rattle.judge.specs.declared.Padding.TheVariants.{Free}
use Rattle.judge.specs.Tests.{body_tests}
use Rattle.judge.proofs.Bodies.{body_admitted}
use Rattle.pnmheader.specs.Steps.Held.{too_large, held}
use Rattle.netpbm.specs.declared.Header.{Header}
use Rattle.netpbm.specs.File.{maximum_right}
use Rattle.netpbm.specs.ReadWrite.{GivenBack}
use Rattle.netpbm.specs.Steps.Raster.{raster_answer}

some_held : (n : ℕ) → leb 1 (held n) ≡ leb 1 n
some_held n = by (leb 1 n) refl
  where
    by : (t : Bool) → leb 1 n ≡ t → leb 1 (held n) ≡ t
    by true e = let h = leb-true 1 n e in le-leb 1 (held n) (omega arith)
    by false e = let h = leb-false 1 n e in lt-leb 1 (held n) (omega arith)

few_held : (n most : ℕ) → most < too_large → leb (held n) most ≡ leb n most
few_held n most l = by (leb n most) refl
  where
    by : (t : Bool) → leb n most ≡ t → leb (held n) most ≡ t
    by true e = let h = leb-true n most e in le-leb (held n) most (omega arith)
    by false e = let h = leb-false n most e in lt-leb (held n) most (omega arith)

sized_held : (w h : ℕ) → sized_frame (held w) (held h) ≡ sized_frame w h
unfolding sized_frame
sized_held w h =
    ap₂ ◌&&◌ (ap₂ ◌&&◌ (some_held w) (few_held w 1024 (omega arith)))
    (ap₂ ◌&&◌ (some_held h) (few_held h 256 (omega arith)))

pub right_held : (depth : Depth) (n : ℕ) → maximum_right depth (held n) ≡ maximum_right depth n
right_held OneBit n = refl
right_held EightBit n = by (eqb n 255) refl
  where
    by : (t : Bool) → eqb n 255 ≡ t → eqb (held n) 255 ≡ t
    by true e = let h = eqb-true n 255 e in eq-eqb (held n) 255 (omega arith)
    by false e = ne_eqb (held n) 255 (λ q. eqb-false n 255 e (omega arith))

-- ---- a raster judged with its numbers kept
module _ (depth : Depth) (w h : ℕ) (s : List ℕ) (room : ℕ) where
  same_pings : sized_frame w h ≡ true → held w ≡ w
  same_pings e = let t = (sized_tells w h e).few_pings in omega arith

  same_bins : sized_frame w h ≡ true → held h ≡ h
  same_bins e = let t = (sized_tells w h e).few_bins in omega arith

  answer_held : raster_answer depth (held w) (held h) s room ≡ raster_answer depth w h s room
  unfolding raster_answer
  answer_held = by (sized_frame w h) refl
    where
      by : (t : Bool) → sized_frame w h ≡ t
          → refuse (body_tests Free depth (held w) (held h) s 0 room) (plain 0)
          ≡ refuse (body_tests Free depth w h s 0 room) (plain 0)
      by true e =
          ap₂ (λ x y. refuse (body_tests Free depth x y s 0 room) (plain 0)) (same_pings e) (same_bins e)
      by false e = too_large_lem (held w) (held h) (sized_held w h ∙ e) ∙ sym (too_large_lem w h e)
        where
          too_large_lem : (x y : ℕ) → sized_frame x y ≡ false
              → refuse (body_tests Free depth x y s 0 room) (plain 0) ≡ plain 1
          too_large_lem x y e = simp e

  sized_done : is_done (raster_answer depth w h s room) ≡ true → sized_frame w h ≡ true
  unfolding raster_answer
  sized_done e = (body_admitted Free depth w h s 0 room e).sized

  -- where it is done the numbers are those of the file
  pub back_held : (r : Result Header Refusal)
      → GivenBack (raster_answer depth (held w) (held h) s room) (held w) (held h) r
      → GivenBack (raster_answer depth w h s room) w h r
  back_held (Err why) g = record { answer = g.answer ∙ answer_held; pings = tt; bins = tt }
  back_held (Ok x) g =
      let done = ap is_done (sym (g.answer ∙ answer_held)) ∙ ok_done (Ok x) x refl in
      record {
        answer = g.answer ∙ answer_held;
        pings = g.pings ∙ same_pings (sized_done done);
        bins = g.bins ∙ same_bins (sized_done done);
      }
