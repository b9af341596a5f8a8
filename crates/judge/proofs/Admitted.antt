-- What an admitted picture is, and the refusals one by one.
use Prim.Native.Nat.{ℕ, ◌+◌, ◌≤◌, ◌<◌}
use mathlib.Core.Path.{◌≡◌, refl, sym, ap, ◌∙◌}
use mathlib.Core.Bool.{Bool, true, false, not, cond}
use mathlib.Core.List.{List, ◌++◌}
use native.Mathlib.Omega.{arith}
use borrow.Author.Tests.{eqb-true, ltb-false, eq-eqb, ne_eqb, lt-ltb, le-ltb, not-false}
use lib.Dec.{eqb, ltb}
use lib.ListN.{length}
use Rattle.answer.specs.declared.Told.{Told}
use Rattle.answer.specs.Answer.{plain, is_done}
use Rattle.answer.specs.Refuse.{Test, refuse}
use Rattle.answer.specs.Lent.{if_done}
use Rattle.answer.proofs.Order.{Numbered}
use Rattle.answer.proofs.Lent.{not_done, in_parts, two_parts}
use Rattle.picture.specs.declared.Depth.{Depth}
use Rattle.picture.specs.Frame.{sized_frame, picture_bytes, Holds}
use Rattle.picture.proofs.Sizes.{sized_tells}
use Rattle.judge.specs.declared.Padding.{Padding}
use Rattle.judge.specs.declared.Padding.TheVariants.{Judged, Free}
use Rattle.judge.specs.Tests.{picture_tests, room_tests, shape_tests, element_tests, passes, Admitted}

-- ---- one test
-- where the answer is done the test did not hold, and what follows is done
pub staged : (b : Bool) (n : ℕ) (after : Told) → 0 < n → is_done (cond b (plain n) after) ≡ true
    → (b ≡ false) × (is_done after ≡ true)
staged true n after some e =
    let q = not_done n some in
    let z : ◌≡◌ {A = ℕ} 0 1 = cc in
    absurd (omega arith)
staged false n after some e = (refl, e)

-- an answer that waits on another is done where both are
waited : (first after : Told) (b : Bool) → is_done first ≡ b → is_done (cond b after first) ≡ true
    → (b ≡ true) × (is_done after ≡ true)
waited first after true q e = (refl, e)
waited first after false q e = let z : ◌≡◌ {A = ℕ} 0 1 = cc in absurd (omega arith)

pub both_done : (first after : Told) → is_done (if_done first after) ≡ true
    → (is_done first ≡ true) × (is_done after ≡ true)
both_done first after e = waited first after (is_done first) refl e

-- ---- the four tests of a picture
module _ (padding : Padding) (depth : Depth) (w h : ℕ) (s : List ℕ) where
  -- the bytes of the picture, as the code has their number
  pub bytes_are : (n : ℕ) → n ≡ cond (sized_frame w h) (picture_bytes depth w h) 0 → sized_frame w h ≡ true
      → n ≡ picture_bytes depth w h
  bytes_are n e z = e ∙ ap (λ b. cond b (picture_bytes depth w h) 0) z

  -- the padding, by its own list
  pad_first : (q : Padding) (after : Told) → is_done (refuse (picture_tests q depth w h s) after) ≡ true
      → (sized_frame w h ≡ true)
      × ((length s ≡ picture_bytes depth w h) × ((passes q depth s w h ≡ true) × (is_done after ≡ true)))
  pad_first Judged after e =
      let p = staged (not (sized_frame w h)) 1 _ (omega arith) e in
      let q = staged (not (eqb (length s) (picture_bytes depth w h))) 2 _ (omega arith) p.1 in
      let r = staged (not (passes Judged depth s w h)) 3 _ (omega arith) q.1 in
      (not-false _ p.0, (eqb-true _ _ (not-false _ q.0), (not-false _ r.0, r.1)))
  pad_first Free after e =
      let p = staged (not (sized_frame w h)) 1 _ (omega arith) e in
      let q = staged (not (eqb (length s) (picture_bytes depth w h))) 2 _ (omega arith) p.1 in
      (not-false _ p.0, (eqb-true _ _ (not-false _ q.0), (refl, q.1)))

  -- THE law: where nothing is refused the picture is admitted, and what stands between was done
  pub admitted : (between : Told) (before room : ℕ)
      → is_done (refuse (picture_tests padding depth w h s)
      (if_done between (refuse (room_tests depth w h before room) (plain 0))))
      ≡ true
      → Admitted padding depth w h s before room × (is_done between ≡ true)
  admitted between before room e =
      let p = pad_first padding _ e in
      let q = both_done between _ p.1.1.1 in
      let r = staged (ltb room (before + picture_bytes depth w h)) 8 (plain 0) (omega arith) q.1 in (
        record {
          sized = p.0;
          whole = p.1.0;
          clear = p.1.1.0;
          roomy = ltb-false room (before + picture_bytes depth w h) r.0;
        },
        q.0,
      )

  -- ---- the refusals one by one, as the code finds them
  module _ (after : Told) where
    pub refused_size : sized_frame w h ≡ false → plain 1 ≡ refuse (picture_tests padding depth w h s) after
    refused_size e = simp e

    module _ (z : sized_frame w h ≡ true) (n : ℕ)
        (en : n ≡ cond (sized_frame w h) (picture_bytes depth w h) 0) where
      pub refused_source : (length s ≡ n → ⊥) → plain 2 ≡ refuse (picture_tests padding depth w h s) after
      refused_source ne =
          simp (z, ne_eqb (length s) (picture_bytes depth w h) (λ q. ne (q ∙ sym (bytes_are n en z))))

      module _ (l : length s ≡ n) where
        pub refused_pad : passes padding depth s w h ≡ false
            → plain 3 ≡ refuse (picture_tests padding depth w h s) after
        refused_pad e = by padding e
          where
            by : (q : Padding) → passes q depth s w h ≡ false
                → plain 3 ≡ refuse (picture_tests q depth w h s) after
            by Judged e = simp (z, eq-eqb (length s) (picture_bytes depth w h) (l ∙ bytes_are n en z), e)
            by Free e = let z : ◌≡◌ {A = ℕ} 0 1 = cc in absurd (omega arith)

        pub picture_passed : passes padding depth s w h ≡ true
            → after ≡ refuse (picture_tests padding depth w h s) after
        picture_passed e = by padding e
          where
            by : (q : Padding) → passes q depth s w h ≡ true
                → after ≡ refuse (picture_tests q depth w h s) after
            by Judged e = simp (z, eq-eqb (length s) (picture_bytes depth w h) (l ∙ bytes_are n en z), e)
            by Free e = simp (z, eq-eqb (length s) (picture_bytes depth w h) (l ∙ bytes_are n en z))

  -- after the picture: what stands between, and the room
  pub refused_between : (between after : Told) → is_done between ≡ false → between ≡ if_done between after
  refused_between between after e = ap (λ b. cond b after between) (sym e)

  module _ (between : Told) (e : is_done between ≡ true) (before room : ℕ) where
    pub refused_room : room < before + picture_bytes depth w h
        → plain 8 ≡ if_done between (refuse (room_tests depth w h before room) (plain 0))
    refused_room l = simp (e, lt-ltb room (before + picture_bytes depth w h) l)

    pub nothing_refused : before + picture_bytes depth w h ≤ room
        → plain 0 ≡ if_done between (refuse (room_tests depth w h before room) (plain 0))
    nothing_refused l = simp (e, le-ltb room (before + picture_bytes depth w h) l)

  -- ---- bytes that hold the picture
  pub holds : (n : ℕ) → sized_frame w h ≡ true → picture_bytes depth w h ≤ n → Holds depth n w h
  holds n z l =
      let t = sized_tells w h z in
      record { some_pings = t.some_pings; few_pings = t.few_pings; few_bins = t.few_bins; long = l }

-- ---- a call's own tests ts between the picture and its room: the three lists are one
pub between_tests : (padding : Padding) (depth : Depth) (w h : ℕ) (s : List ℕ) (ts : List Test)
    (before room : ℕ) → Numbered ts
    → refuse (picture_tests padding depth w h s)
    (if_done (refuse ts (plain 0)) (refuse (room_tests depth w h before room) (plain 0)))
    ≡ refuse (picture_tests padding depth w h s ++ (ts ++ room_tests depth w h before room)) (plain 0)
between_tests padding depth w h s ts before room some =
    ap (refuse (picture_tests padding depth w h s)) (two_parts ts (room_tests depth w h before room) some)
    ∙ in_parts (picture_tests padding depth w h s) (ts ++ room_tests depth w h before room) (plain 0)

-- ---- an operation by one element
pub picture_numbered : (padding : Padding) (depth : Depth) (w h : ℕ) (s : List ℕ) (us : List Test)
    → Numbered us
    → Numbered (picture_tests padding depth w h s ++ us)
picture_numbered Judged depth w h s us some = (omega arith, (omega arith, (omega arith, some)))
picture_numbered Free depth w h s us some = (omega arith, (omega arith, some))

module _ (padding : Padding) (depth : Depth) (w h : ℕ) (s : List ℕ) (made : Bool) (room : ℕ) where
  pub element_numbered : Numbered (element_tests padding depth w h s made room)
  element_numbered = picture_numbered padding depth w h s _ (omega arith, (omega arith, tt))

  -- the code's answer is that of the whole list
  pub element_answer : (shape answer : Told) → shape ≡ refuse (shape_tests made) (plain 0)
      → answer ≡ refuse (picture_tests padding depth w h s)
      (if_done shape (refuse (room_tests depth w h 0 room) (plain 0)))
      → answer ≡ refuse (element_tests padding depth w h s made room) (plain 0)
  element_answer shape answer es ea =
      ea ∙ ap (λ x. refuse (picture_tests padding depth w h s)
      (if_done x (refuse (room_tests depth w h 0 room) (plain 0)))) es
      ∙ between_tests padding depth w h s (shape_tests made) 0 room (omega arith, tt)

  -- and where it is done the picture is admitted, by a descriptor that is well made
  pub element_admitted : (shape answer : Told) → shape ≡ refuse (shape_tests made) (plain 0)
      → answer ≡ refuse (picture_tests padding depth w h s)
      (if_done shape (refuse (room_tests depth w h 0 room) (plain 0)))
      → is_done answer ≡ true → Admitted padding depth w h s 0 room × (made ≡ true)
  element_admitted shape answer es ea e =
      let p = admitted padding depth w h s shape 0 room (ap is_done (sym ea) ∙ e) in
      (p.0, not-false made (staged (not made) 4 (plain 0) (omega arith) (ap is_done (sym es) ∙ p.1)).0)

  -- the same of the answer of the whole list
  pub told_admitted : (answer : Told) → answer
      ≡ refuse (element_tests padding depth w h s made room) (plain 0)
      → is_done answer ≡ true → Admitted padding depth w h s 0 room × (made ≡ true)
  told_admitted answer ea e =
      element_admitted (refuse (shape_tests made) (plain 0)) answer refl
      (ea ∙ sym (between_tests padding depth w h s (shape_tests made) 0 room (omega arith, tt))) e
