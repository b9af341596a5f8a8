-- The refusals one by one, as the code finds them, are the whole list; and where nothing is refused
-- the frame is within its limits, both pictures are there, no marker point lies outside, and there is room.
use Prim.Native.Nat.{ℕ, ◌+◌, ◌≤◌}
use mathlib.Core.Path.{◌≡◌, refl, sym, ap, ◌∙◌}
use mathlib.Core.Bool.{Bool, true, false, not, cond, ◌&&◌}
use mathlib.Core.List.{List, [], ◌∷◌}
use native.Mathlib.Omega.{arith}
use borrow.Author.Tests.{eqb-true, ltb-false, eq-eqb, ne_eqb, not-false}
use lib.Dec.{eqb, ltb}
use lib.ListN.{length}
use Rattle.answer.specs.declared.Told.{Told}
use Rattle.answer.specs.Answer.{plain, is_done}
use Rattle.answer.specs.Refuse.{refuse}
use Rattle.answer.specs.Lent.{if_done}
use Rattle.answer.proofs.Order.{Numbered}
use Rattle.picture.specs.declared.Depth.TheVariants.{OneBit}
use Rattle.picture.specs.Frame.{frame, sized_frame, picture_bytes}
use Rattle.picture.specs.Points.{value_at}
use Rattle.judge.specs.declared.Padding.TheVariants.{Free}
use Rattle.judge.specs.Tests.{picture_tests, room_tests}
use Rattle.judge.proofs.Admitted.{staged}
use Rattle.grown.specs.Marker.{outside}
use Rattle.marker.specs.Tests.{grow_tests}
use Rattle.marker.specs.Steps.Bytes.{fits}

-- ---- MARKER by itself, which waits on the frame and on both lengths
pub not_seen : (f o : Bool) → f ≡ false → plain 0 ≡ refuse ((f && o, 12) ∷ []) (plain 0)
not_seen f o e = ap (λ t. cond (t && o) (plain 12) (plain 0)) (sym e)

pub seen : (f o n : Bool) → f ≡ true → n ≡ not o → (n ≡ true → plain 0 ≡ refuse ((f && o, 12) ∷ []) (plain 0))
    × (n ≡ false → plain 12 ≡ refuse ((f && o, 12) ∷ []) (plain 0))
seen f true n e q = (
  λ t. let z : ◌≡◌ {A = Bool} true false = sym t ∙ q in let k : ◌≡◌ {A = ℕ} 0 1 = cc in absurd (omega arith),
  λ t. ap (λ t. cond (t && true) (plain 12) (plain 0)) (sym e),
)
seen f false n e q = (
  λ t. ap (λ t. cond (t && false) (plain 12) (plain 0)) (sym e),
  λ t. let z : ◌≡◌ {A = Bool} false true = sym t ∙ q in let k : ◌≡◌ {A = ℕ} 0 1 = cc in absurd (omega arith),
)

module _ (w h : ℕ) (marker mask : List ℕ) where
  pub no_size : sized_frame w h ≡ false → fits w h marker mask ≡ false
  no_size e = ap (λ t. t && (eqb (length marker) (picture_bytes OneBit w h)
      && eqb (length mask) (picture_bytes OneBit w h))) e

  pub no_marker : sized_frame w h ≡ true → (length marker ≡ picture_bytes OneBit w h → ⊥)
      → fits w h marker mask ≡ false
  no_marker z ne = simp (z, ne_eqb (length marker) (picture_bytes OneBit w h) ne)

  pub no_mask : sized_frame w h ≡ true → length marker ≡ picture_bytes OneBit w h
      → (length mask ≡ picture_bytes OneBit w h → ⊥) → fits w h marker mask ≡ false
  no_mask z e ne =
      simp (
        z,
        eq-eqb (length marker) (picture_bytes OneBit w h) e,
        ne_eqb (length mask) (picture_bytes OneBit w h) ne,
      )

  pub all_fits : sized_frame w h ≡ true → length marker ≡ picture_bytes OneBit w h
      → length mask ≡ picture_bytes OneBit w h → fits w h marker mask ≡ true
  all_fits z e f =
      simp (
        z,
        eq-eqb (length marker) (picture_bytes OneBit w h) e,
        eq-eqb (length mask) (picture_bytes OneBit w h) f,
      )

-- ---- the whole: the mask's answer waits on the marker's, and what is judged twice is judged alike
in_order : (z a b o r : Bool)
    → refuse ((not z, 1) ∷ (not a, 2) ∷ [])
    (if_done
    (refuse ((not z, 1) ∷ (not b, 2) ∷ [])
    (if_done (refuse (((z && (a && b)) && o, 12) ∷ []) (plain 0)) (refuse ((r, 8) ∷ []) (plain 0))))
    (refuse ((r, 8) ∷ []) (plain 0)))
    ≡ refuse ((not z, 1) ∷ (not a, 2) ∷ (not b, 2) ∷ (o, 12) ∷ (r, 8) ∷ []) (plain 0)
unfolding plain
in_order false a b o r = refl
in_order true false b o r = refl
in_order true true false o r = refl
in_order true true true true r = refl
in_order true true true false true = refl
in_order true true true false false = refl

module _ (w h : ℕ) (marker mask : List ℕ) (room : ℕ) where
  pub judged : (found then answer : Told)
      → found ≡ refuse ((
        fits w h marker mask
            && outside (frame w h) (value_at OneBit mask w) (value_at OneBit marker w),
        12,
      ) ∷ []) (plain 0)
      → then ≡ refuse (picture_tests Free OneBit w h mask)
      (if_done found (refuse (room_tests OneBit w h 0 room) (plain 0)))
      → answer ≡ refuse (picture_tests Free OneBit w h marker)
      (if_done then (refuse (room_tests OneBit w h 0 room) (plain 0)))
      → answer ≡ refuse (grow_tests w h marker mask room) (plain 0)
  judged found then answer ef et ea =
      ea
      ∙ ap (λ t. refuse (picture_tests Free OneBit w h marker)
      (if_done t (refuse (room_tests OneBit w h 0 room) (plain 0))))
      (et ∙ ap (λ t. refuse (picture_tests Free OneBit w h mask)
      (if_done t (refuse (room_tests OneBit w h 0 room) (plain 0)))) ef)
      ∙ in_order (sized_frame w h) (eqb (length marker) (picture_bytes OneBit w h))
      (eqb (length mask) (picture_bytes OneBit w h))
      (outside (frame w h) (value_at OneBit mask w) (value_at OneBit marker w))
      (ltb room (0 + picture_bytes OneBit w h))

  -- ---- what a call that is not refused has
  pub record Growable : Type 0 where
    pub sized : sized_frame w h ≡ true
    pub marker_whole : length marker ≡ picture_bytes OneBit w h
    pub mask_whole : length mask ≡ picture_bytes OneBit w h
    pub inside : outside (frame w h) (value_at OneBit mask w) (value_at OneBit marker w) ≡ false
    pub roomy : picture_bytes OneBit w h ≤ room

  pub growable : is_done (refuse (grow_tests w h marker mask room) (plain 0)) ≡ true → Growable
  growable e =
      let p = staged (not (sized_frame w h)) 1 _ (omega arith) e in
      let q = staged (not (eqb (length marker) (picture_bytes OneBit w h))) 2 _ (omega arith) p.1 in
      let r = staged (not (eqb (length mask) (picture_bytes OneBit w h))) 2 _ (omega arith) q.1 in
      let s = staged (outside (frame w h) (value_at OneBit mask w)
      (value_at OneBit marker w)) 12 _ (omega arith) r.1 in
      let t = staged (ltb room (0 + picture_bytes OneBit w h)) 8 (plain 0) (omega arith) s.1 in
      let l = ltb-false room (0 + picture_bytes OneBit w h) t.0 in
      record {
        sized = not-false _ p.0;
        marker_whole = eqb-true _ _ (not-false _ q.0);
        mask_whole = eqb-true _ _ (not-false _ r.0);
        inside = s.0;
        roomy = omega arith;
      }

  pub grow_numbered : Numbered (grow_tests w h marker mask room)
  grow_numbered = (omega arith, (omega arith, (omega arith, (omega arith, (omega arith, tt)))))
