-- What request (iv) asks of a call, from the two equations of its contract.
use Prim.Native.Nat.{ℕ, ◌+◌, ◌≤◌, ◌<◌}
use mathlib.Core.Path.{◌≡◌, refl, sym, ap, ap₂, ◌∙◌}
use mathlib.Core.Bool.{Bool, true, false, not, cond}
use mathlib.Core.List.{List, [], ◌∷◌, ◌++◌}
use mathlib.Core.Logic.{◌↔◌}
use native.Mathlib.Omega.{arith}
use native.Mathlib.Nat.{le_trans}
use borrow.Author.Tests.{eqb-true, eq-eqb, le-ltb, not-false}
use lib.Dec.{eqb, ltb}
use lib.ListN.{length, take, drop}
use lib.Seq.{take_at}
use Rattle.answer.specs.declared.Told.{Told}
use Rattle.answer.specs.Answer.{plain, is_done}
use Rattle.answer.specs.Refuse.{Test, refuse, NoneHolds}
use Rattle.answer.specs.Lent.{unless_refused}
use Rattle.answer.proofs.Order.{Numbered, NoneOf, none_of, none_refuses, none_given, number_of}
use Rattle.answer.proofs.Lent.{all_done, lent_made}
use Rattle.picture.specs.declared.Depth.TheVariants.{OneBit}
use Rattle.picture.specs.Frame.{Frame, frame, sized_frame, picture_bytes}
use Rattle.picture.specs.Points.{value_at}
use Rattle.picture.specs.Bytes.{Picture, bytes_of, written}
use Rattle.picture.proofs.Bytes.{bytes_long, bytes_value}
use Rattle.picture.proofs.Points.{written_value, written_same}
use Rattle.apply.proofs.Twice.{bit_value}
use Rattle.element.specs.Shape.{Shape}
use Rattle.morphology.specs.Operations.{flat, opening}
use Rattle.morphology.proofs.Order.{flat_paired, opening_within}
use Rattle.morphology.specs.Order.{LiesWithin, Alike, Bounded}
use Rattle.grown.specs.declared.Neighbours.{Neighbours}
use Rattle.grown.specs.Grown.{Grown, grown}
use Rattle.grown.specs.Marker.{outside}
use Rattle.grown.proofs.Growing.{grown_one_bit, grown_alike, grown_twice, within_mask}
use Rattle.grown.proofs.Marker.{outside_none, outside_alike, opening_inside}
use Rattle.reconstruct.specs.Reconstruct.{reconstruct_tests, reconstruct_answer, reconstruct_left}
use Rattle.demands.specs.PointsAlone.{SamePoints}
use Rattle.demands.proofs.Alike.{same_alike}

-- a packed picture has values 0 and 1
pub packed_bits : (l : List ℕ) (w : ℕ) (F : Frame) → Bounded 1 F (value_at OneBit l w)
packed_bits l w F p i = bit_value OneBit refl l w p.x p.y

-- the picture at the start of what was written is the picture
first_bytes : (A : Picture) (w h : ℕ) (t : List ℕ)
    → take (picture_bytes OneBit w h) (written OneBit A w h t) ≡ bytes_of OneBit A w h
unfolding written
first_bytes A w h t = take_at (bytes_of OneBit A w h) _ (picture_bytes OneBit w h) (bytes_long OneBit A w h)

-- what a picture's bytes show in the frame
bytes_alike : (A : Picture) (w h : ℕ) → Bounded 1 (frame w h) A
    → Alike (frame w h) (value_at OneBit (bytes_of OneBit A w h) w) A
bytes_alike A w h b p i =
    bytes_value OneBit A w h (λ x y lx ly. b (record { x = x; y = y }) (record { ping = lx; bin = ly }))
    p.x p.y i.ping i.bin

written_alike : (A : Picture) (w h : ℕ) (t : List ℕ) → Bounded 1 (frame w h) A
    → Alike (frame w h) (value_at OneBit (written OneBit A w h t) w) A
written_alike A w h t b p i =
    written_value OneBit A w h t (λ x y lx ly. b (record { x = x; y = y }) (record { ping = lx; bin = ly }))
    p.x p.y i.ping i.bin

alike_trans : {F : Frame} (A C D : Picture) → Alike F A C → Alike F C D → Alike F A D
alike_trans A C D h k p i = h p i ∙ k p i

-- a buffer of a call of which no test holds
lent_done : (was made : List ℕ) (ts : List Test) → NoneOf ts
    → unless_refused (refuse ts (plain 0)) was made ≡ made
unfolding unless_refused
lent_done was made ts none =
    ap (λ t. cond (is_done t) made was) (none_refuses ts (plain 0) none)
    ∙ ap (λ b. cond b made was) all_done

-- ---- a call by itself
module _ (w h : ℕ) (marker mask : List ℕ) (room : ℕ) where
  pub grow_numbered : Numbered (reconstruct_tests w h marker mask room)
  grow_numbered = (omega arith, (omega arith, (omega arith, (omega arith, (omega arith, tt)))))

  -- nothing is refused: the frame is within its limits, both lengths are right, the marker lies within
  pub none_each : NoneHolds (reconstruct_tests w h marker mask room)
      → NoneOf (reconstruct_tests w h marker mask room)
  none_each none =
      none_of (reconstruct_tests w h marker mask room) grow_numbered
      (ap is_done (none_given (plain 0) none) ∙ all_done)

  pub lies_inside : NoneHolds (reconstruct_tests w h marker mask room)
      → LiesWithin (frame w h) (value_at OneBit marker w) (value_at OneBit mask w)
  lies_inside none =
      (outside_none (frame w h) (value_at OneBit mask w) (value_at OneBit marker w)).0
      (none_each none).1.1.1.0

  -- MARKER is not answered where the marker lies within
  pub not_marker : outside (frame w h) (value_at OneBit mask w) (value_at OneBit marker w) ≡ false
      → reconstruct_answer w h marker mask room ≡ plain 12 → ⊥
  not_marker inside e =
      by (not (sized_frame w h)) (not (eqb (length marker) (picture_bytes OneBit w h)))
      (not (eqb (length mask) (picture_bytes OneBit w h))) (ltb room (0 + picture_bytes OneBit w h))
      (ap (λ o. refuse ((not (sized_frame w h), 1)
      ∷ (not (eqb (length marker) (picture_bytes OneBit w h)), 2)
      ∷ (not (eqb (length mask) (picture_bytes OneBit w h)), 2)
      ∷ (o, 12) ∷ (ltb room (0 + picture_bytes OneBit w h), 8) ∷ []) (plain 0)) (sym inside) ∙ e)
    where
      by : (a b c d : Bool)
          → refuse ((a, 1) ∷ (b, 2) ∷ (c, 2) ∷ (false, 12) ∷ (d, 8) ∷ []) (plain 0) ≡ plain 12 → ⊥
      by true b c d e = let z = number_of 1 12 e in omega arith
      by false true c d e = let z = number_of 2 12 e in omega arith
      by false false true d e = let z = number_of 2 12 e in omega arith
      by false false false true e = let z = number_of 8 12 e in omega arith
      by false false false false e = let z = number_of 0 12 e in omega arith

-- ---- a second run
module _ (neighbours : Neighbours) (w h : ℕ) (marker mask before before' : List ℕ)
    (none : NoneHolds (reconstruct_tests w h marker mask (length before)))
    (room : picture_bytes OneBit w h ≤ length before') where
  abbrev F : Frame
  F = frame w h

  abbrev K : Picture
  K = value_at OneBit mask w

  abbrev M : Picture
  M = value_at OneBit marker w

  abbrev G : Picture
  G = grown neighbours F K M

  abbrev left : List ℕ
  left = reconstruct_left neighbours w h marker mask before

  abbrev again : List ℕ
  again = take (picture_bytes OneBit w h) left

  inside : LiesWithin F M K
  inside = lies_inside w h marker mask (length before) none

  bits : Bounded 1 F K
  bits = packed_bits mask w (frame w h)

  grown_bits : Bounded 1 F G
  grown_bits = grown_one_bit neighbours F K bits M inside

  left_is : left ≡ written OneBit G w h before
  left_is = lent_made before _ none

  again_is : again ≡ bytes_of OneBit G w h
  again_is = ap (take (picture_bytes OneBit w h)) left_is ∙ first_bytes G w h before

  again_alike : Alike F (value_at OneBit again w) G
  again_alike p i = ap (λ l. value_at OneBit l w p.x p.y) again_is ∙ bytes_alike G w h grown_bits p i

  again_none : NoneOf (reconstruct_tests w h again mask (length before'))
  again_none =
      let e = none_each w h marker mask (length before) none in (
        e.0,
        (
          ap not (eq-eqb (length again) (picture_bytes OneBit w h)
              (ap length again_is ∙ bytes_long OneBit G w h)),
          (
            e.1.1.0,
            (
              outside_alike F K K (value_at OneBit again w) G (λ p i. refl) again_alike
                  ∙ (outside_none F K G).1 (within_mask neighbours F K bits M inside),
              (le-ltb (length before') (0 + picture_bytes OneBit w h) (omega arith), tt),
            ),
          ),
        ),
      )

  pub again_done : reconstruct_answer w h again mask (length before') ≡ plain 0
  again_done = none_refuses (reconstruct_tests w h again mask (length before')) (plain 0) again_none

  -- the second run leaves the first's picture
  pub again_same : Alike F (value_at OneBit (reconstruct_left neighbours w h again mask before') w)
      (value_at OneBit left w)
  again_same p i =
      let T = value_at OneBit again w in
      let within : LiesWithin F T K =
      (outside_none F K T).0 again_none.1.1.1.0 in
      ap (λ l. value_at OneBit l w p.x p.y)
      (lent_done before' _ (reconstruct_tests w h again mask (length before')) again_none)
      ∙ written_alike (grown neighbours F K T) w h before' (grown_one_bit neighbours F K bits T within) p i
      ∙ grown_alike neighbours F K K (λ q j. refl) T G again_alike p i
      ∙ grown_twice neighbours F K bits M inside p i
      ∙ sym (ap (λ l. value_at OneBit l w p.x p.y) left_is ∙ written_alike G w h before grown_bits p i)

-- ---- an opening as the marker, its source as the mask
pub opened_inside : (w h : ℕ) (B : Shape) (source before : List ℕ)
    → outside (frame w h) (value_at OneBit source w)
    (value_at OneBit (take (picture_bytes OneBit w h)
    (written OneBit (opening 1 (frame w h) B (value_at OneBit source w)) w h before)) w)
    ≡ false
opened_inside w h B source before =
    let A = value_at OneBit source w in
    let O = opening 1 (frame w h) B A in
    outside_alike (frame w h) A A _ O (λ p i. refl)
    (λ p i. ap (λ l. value_at OneBit l w p.x p.y) (first_bytes O w h before)
    ∙ bytes_alike O w h (opening_bits w h B source) p i)
    ∙ opening_inside (frame w h) B A (packed_bits source w (frame w h))
  where
    opening_bits : (w h : ℕ) (B : Shape) (source : List ℕ)
        → Bounded 1 (frame w h) (opening 1 (frame w h) B (value_at OneBit source w))
    opening_bits w h B source p i =
        le_trans (opening_within flat flat 1 (flat_paired 1) (frame w h) B (value_at OneBit source w)
        (packed_bits source w (frame w h)) p i) (packed_bits source w (frame w h) p i)

-- ---- what stands in the padding of marker and mask
module _ (neighbours : Neighbours) (w h : ℕ) (marker marker' mask mask' : List ℕ)
    (k : SamePoints OneBit w h marker marker') (m : SamePoints OneBit w h mask mask') where
  pub answers_alike : (room : ℕ)
      → reconstruct_answer w h marker mask room ≡ reconstruct_answer w h marker' mask' room
  answers_alike room i =
      refuse
      ((not (sized_frame w h), 1)
      ∷ (not (eqb (k.long i) (picture_bytes OneBit w h)), 2)
      ∷ (not (eqb (m.long i) (picture_bytes OneBit w h)), 2)
      ∷ (
        outside_alike (frame w h) (value_at OneBit mask w) (value_at OneBit mask' w)
            (value_at OneBit marker w) (value_at OneBit marker' w)
            (same_alike OneBit w h mask mask' m) (same_alike OneBit w h marker marker' k) i,
        12,
      )
      ∷ (ltb room (0 + picture_bytes OneBit w h), 8) ∷ [])
      (plain 0)

  pub leaves_alike : (before : List ℕ)
      → reconstruct_left neighbours w h marker mask before
      ≡ reconstruct_left neighbours w h marker' mask' before
  leaves_alike before =
      ap₂ (λ t l. unless_refused t before l) (answers_alike (length before))
      (written_same OneBit _ _ w h before (λ x y lx ly.
      grown_alike neighbours (frame w h) (value_at OneBit mask w) (value_at OneBit mask' w)
      (same_alike OneBit w h mask mask' m) (value_at OneBit marker w) (value_at OneBit marker' w)
      (same_alike OneBit w h marker marker' k) (record { x = x; y = y }) (record { ping = lx; bin = ly })))
