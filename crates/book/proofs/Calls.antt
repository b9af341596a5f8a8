-- The calls of the book: a share is a part of the bytes.
use Prim.Native.Nat.{ℕ, ◌+◌, ◌-◌, ◌*◌, ◌≤◌, ◌<◌}
use mathlib.Core.Path.{◌≡◌, refl, sym, ap, ap₂, ◌∙◌, subst}
use mathlib.Core.Bool.{Bool, true, false, cond, not, ◌&&◌}
use mathlib.Core.List.{List, [], ◌∷◌, ◌++◌}
use native.Mathlib.Omega.{arith}
use native.Mathlib.Nat.{add-sub_cancel_left}
use borrow.Author.Tests.{leb-true, lt-ltb, le-ltb, not-false}
use borrow.Rule.Slice.PartMut.{mid_of, put_mid}
use lib.Dec.{leb}
use lib.ListN.{length, take, drop, replicate}
use lib.Seq.{take-take, drop_at, drop-drop, length-take-le}
use Rattle.std.proofs.lemmas.List.{drop-take}
use Rattle.basics.proofs.SliceParts.{length_mid}
use Rattle.basics.proofs.Tests.{both}
use Rattle.share.specs.Share.{length_at, place_of, held_at, share_made}
use Rattle.std.specs.Prelude.{Result, Ok, Err}
use Rattle.answer.specs.declared.Refusal.{Refusal}
use Rattle.answer.specs.declared.Refusal.TheVariants.{Room, Book}
use Rattle.answer.specs.declared.Told.{Told}
use Rattle.answer.specs.Answer.{plain, told, told_refusal, is_done}
use Rattle.answer.specs.Lent.{unless_refused}
use Rattle.answer.proofs.Order.{none_of}
use Rattle.answer.proofs.Variants.{err_undone, ok_done, refused_undone, handed_on}
use Rattle.share.specs.Maps.{Call, Get, found, map_answer}
use Rattle.share.specs.Work.{worked, share_after}
use Rattle.share.specs.Steps.Moves.{Within, Whole}
use Rattle.share.proofs.Shares.{held_length}
use Rattle.share.proofs.Steps.{numbered}
use Rattle.share.proofs.Checks.{entry_end, whole_fits, got_below}
use Rattle.book.specs.declared.Found.{Found}
use Rattle.book.specs.declared.Party.{Party}
use Rattle.book.specs.declared.Party.TheVariants.{Display, Export}
use Rattle.book.specs.Book.{numbers, room, version, share_at, share_long, book_long, share_of, with_share}
use Rattle.book.specs.Book.{marked, book_made, start_answer, fresh, started, map_in, book_tests}
use Rattle.book.specs.Book.{book_answer, book_handed, book_after, book_place, place_found, length_found}
use Rattle.book.specs.Book.{FoundAt}
use Rattle.book.proofs.Books.{share_fits, share_long_lem, answer_made, after_made, started_fresh}

-- ---- what the layout tells
module _ (b : List ℕ) (made : book_made b ≡ true) where
  tests_of : ((leb book_long (length b) && marked b ≡ true) ×
      (share_made numbers room (share_of b Display) ≡ true))
      × (share_made numbers room (share_of b Export) ≡ true)
  unfolding book_made
  tests_of =
      let all = both (leb book_long (length b) && marked b && share_made numbers room (share_of b Display))
      (share_made numbers room (share_of b Export)) made in (
        both (leb book_long (length b) && marked b) (share_made numbers room (share_of b Display)) all.0,
        all.1,
      )

  pub made_long : book_long ≤ length b
  made_long = leb-true book_long (length b) (both (leb book_long (length b)) (marked b) tests_of.0.0).0

  pub made_share : (p : Party) → share_made numbers room (share_of b p) ≡ true
  made_share Display = tests_of.0.1
  made_share Export = tests_of.1

  share_whole : (p : Party) → Whole numbers room (share_of b p)
  share_whole p =
      record {
        few = omega arith;
        short = omega arith;
        long = share_long_lem p b made_long;
        made =
            made_share p;
      }

-- ---- the share as the part from `at` on, as many bytes as it has
module _ (b : List ℕ) (p : Party) (at : ℕ) (e : at ≡ share_at p) where
  abbrev part : List ℕ
  part = mid_of at (at + share_long - at) b

  part_is : part ≡ share_of b p
  unfolding share_of
  part_is = ap₂ (λ n k. mid_of n k b) e (add-sub_cancel_left at share_long)

  placed : (x : List ℕ) → put_mid at (at + share_long - at) b x ≡ with_share b p x
  unfolding with_share
  placed x = ap₂ (λ n k. put_mid n k b x) e (add-sub_cancel_left at share_long)

-- ---- BOOK
module _ (b : List ℕ) (p : Party) (c : Call) (e : book_made b ≡ false) where
  pub broken_answer : told_refusal Book ≡ book_answer b p c
  unfolding told_refusal book_answer
  broken_answer =
      ap (λ (t : Bool). cond (not t) (plain 17) (map_answer numbers room (map_in b p) c)) (sym e)

  refused : is_done (book_answer b p c) ≡ false
  unfolding told_refusal plain
  refused = sym (ap is_done broken_answer)

  pub broken_after : b ≡ book_after b p c
  unfolding book_after unless_refused
  broken_after = ap (λ t. cond t (with_share b p (worked numbers (share_of b p) c)) b) (sym refused)

  pub broken_handed : book_handed b p c ≡ []
  unfolding book_handed unless_refused
  broken_handed = ap (λ t. cond t (found (map_in b p) c) []) refused

-- ---- the place of the party's share, or BOOK
module _ (b : List ℕ) (p : Party) (r : Result ℕ Refusal)
    (e : r ≡ cond (book_made b) (Ok (share_at p)) (Err Book)) where
  module _ (at : ℕ) (q : r ≡ Ok at) where
    kept : (book_made b ≡ true) × (at ≡ share_at p)
    kept = by (book_made b) refl (sym q ∙ e)
      where
        by : (t : Bool) → book_made b ≡ t
            → ◌≡◌ {A = Result ℕ Refusal} (Ok at) (cond t (Ok (share_at p)) (Err Book))
            → (book_made b ≡ true) × (at ≡ share_at p)
        by true z o = (z, cc)
        by false z o = cc

    pub placed_at : at ≡ share_at p
    placed_at = kept.1

    pub part_whole : Whole numbers room (mid_of at (at + share_long - at) b)
    part_whole =
        subst (λ (s : List ℕ). Whole numbers room s) (sym (part_is b p at kept.1)) (share_whole b kept.0 p)

    pub part_end : at + share_long ≤ length b
    part_end = subst (λ n. n + share_long ≤ length b) (sym kept.1) (share_fits p b (made_long b kept.0))

    pub call_answer : (c : Call) (t : Told)
        → t ≡ map_answer numbers room (held_at numbers (mid_of at (at + share_long - at) b)) c
        → t ≡ book_answer b p c
    call_answer c t q =
        q ∙ ap (λ (s : List ℕ). map_answer numbers room (held_at numbers s) c) (part_is b p at kept.1)
        ∙ sym (answer_made b kept.0 p c)

    pub call_after : (c : Call) (x : List ℕ)
        → x ≡ share_after numbers room (mid_of at (at + share_long - at) b) c
        → put_mid at (at + share_long - at) b x ≡ book_after b p c
    call_after c x q =
        ap (put_mid at (at + share_long - at) b)
        (q ∙ ap (λ (s : List ℕ). share_after numbers room s c) (part_is b p at kept.1))
        ∙ placed b p at kept.1 (share_after numbers room (share_of b p) c)
        ∙ sym (after_made b kept.0 p c)

  module _ (x : Refusal) (q : r ≡ Err x) where
    broken : book_made b ≡ false
    broken = by (book_made b) refl (sym q ∙ e)
      where
        by : (t : Bool) → book_made b ≡ t
            → ◌≡◌ {A = Result ℕ Refusal} (Err x) (cond t (Ok (share_at p)) (Err Book)) → book_made b ≡ false
        by true z o = cc
        by false z o = z

    -- what hands that refusal on says BOOK, as every call does
    pub unplaced_told : {A : Type 0} (now : Result A Refusal) → (s : Refusal) × (now ≡ Err s) × (s ≡ x)
        → (c : Call) → told now ≡ book_answer b p c
    unfolding told
    unplaced_told {A = A} now h c =
        handed_on r now x q h
        ∙ ap (λ (r : Result ℕ Refusal). told r)
        (e ∙ ap (λ (t : Bool). cond t (Ok (share_at p)) (Err Book)) broken)
        ∙ broken_answer b p c broken

    -- and leaves the bytes
    pub unplaced_after : (c : Call) → b ≡ book_after b p c
    unplaced_after c = broken_after b p c broken

-- ---- what is got
module _ (b : List ℕ) (p : Party) (n : ℕ) (done : is_done (book_answer b p (Get n)) ≡ true) where
  none_hold : (book_made b ≡ true) × (n < numbers)
  unfolding book_answer
  none_hold =
      let none = none_of (book_tests b p (Get n))
      (omega arith, numbered numbers room (map_in b p) (Get n)) done in
      let made = not-false (book_made b) none.0 in
      (made, got_below numbers room (map_in b p) n _ (answer_made b made p (Get n)) done)

  pub got_made : book_made b ≡ true
  got_made = none_hold.0

  within_share : Within numbers n (share_of b p)
  within_share =
      record {
        few = omega arith;
        below = none_hold.1;
        fits = whole_fits numbers room (share_of b p) (share_whole b got_made p);
      }

  pub got_within : (at : ℕ) → at ≡ share_at p → Within numbers n (mid_of at (at + share_long - at) b)
  got_within at e = subst (λ (s : List ℕ). Within numbers n s) (sym (part_is b p at e)) within_share

  handed_held : book_handed b p (Get n) ≡ held_at numbers (share_of b p) n
  unfolding book_handed unless_refused
  handed_held = ap (λ t. cond t (map_in b p n) []) done

  handed_long : length (book_handed b p (Get n)) ≡ length_at (share_of b p) n
  handed_long =
      ap length handed_held
      ∙ held_length numbers room (share_of b p)
      (whole_fits numbers room (share_of b p) (share_whole b got_made p)) n none_hold.1

  pub found_held : (at : ℕ) → at ≡ share_at p → plain 0 ≡ book_answer b p (Get n) → (f : Found)
      → f.place ≡ at + place_of numbers (mid_of at (at + share_long - at) b) n
      → f.length ≡ length_at (mid_of at (at + share_long - at) b) n → FoundAt b p n (Ok f)
  unfolding told book_place place_found length_found
  found_held at e a f q l =
      record {
        answer = a;
        place = q ∙ ap₂ (λ i (s : List ℕ). i + place_of numbers s n) e (part_is b p at e)
            ∙ ap (λ t. cond t (share_at p + place_of numbers (share_of b p) n) 0) (sym done);
        long = l ∙ ap (λ (s : List ℕ). length_at s n) (part_is b p at e) ∙ sym handed_long;
      }

module _ (b : List ℕ) (p : Party) (n : ℕ) (x : Refusal) (a : told_refusal x ≡ book_answer b p (Get n)) where
  refused_get : is_done (book_answer b p (Get n)) ≡ false
  refused_get = sym (ap is_done a) ∙ refused_undone x

  found_none : FoundAt b p n (Err x)
  unfolding told book_place book_handed unless_refused place_found length_found
  found_none =
      record {
        answer = a;
        place = ap (λ t. cond t (share_at p + place_of numbers (share_of b p) n) 0) (sym refused_get);
        long = ap (λ t. length (cond t (map_in b p n) [])) (sym refused_get);
      }

-- what is refused gives neither place nor length
pub found_refused : (b : List ℕ) (p : Party) (n : ℕ) (r : Result Found Refusal) (x : Refusal) → r ≡ Err x
    → told r ≡ book_answer b p (Get n) → FoundAt b p n r
unfolding told
found_refused b p n r x e a =
    subst (λ (r : Result Found Refusal). FoundAt b p n r) (sym e)
    (found_none b p n x (sym (ap (λ (r : Result Found Refusal). told r) e) ∙ a))

-- ---- start
module _ (b : List ℕ) (h : length b < book_long) where
  pub start_answer_short : told_refusal Room ≡ start_answer b
  unfolding told_refusal start_answer
  start_answer_short =
      ap (λ (t : Bool). cond t (plain 8) (plain 0)) (sym (lt-ltb (length b) book_long h))

  pub start_short : b ≡ started b
  unfolding started unless_refused told_refusal plain
  start_short = ap (λ t. cond (is_done t) (fresh b) b) start_answer_short

pub start_answer_lem : (b : List ℕ) → book_long ≤ length b → plain 0 ≡ start_answer b
unfolding start_answer
start_answer_lem b h = ap (λ (t : Bool). cond t (plain 8) (plain 0)) (sym (le-ltb (length b) book_long h))

-- the shares' bytes cleared as one part, then the mark over the first bytes
head_gone : (b y : List ℕ) (n : ℕ) → 4 ≤ length b → drop 4 (put_mid 4 n b y) ≡ y ++ drop (4 + n) b
head_gone b y n h = drop_at (take 4 b) _ 4 (length-take-le 4 b h) ∙ ap (λ l. y ++ l) (drop-drop n 4 b)

pub start_is : (b z m : List ℕ) → book_long ≤ length b
    → z ≡ replicate (length (mid_of 4 (2 * share_long) b)) 0 → m ≡ (69 ∷ 66 ∷ 75 ∷ version ∷ [])
    → m ++ drop 4 (put_mid 4 (2 * share_long) b z) ≡ started b
unfolding fresh
start_is b z m h ez em =
    ap₂ (λ (m z : List ℕ). m ++ drop 4 (put_mid 4 (2 * share_long) b z)) em
    (ez ∙ ap (λ n. replicate n 0) (length_mid 4 (2 * share_long) b (omega arith)))
    ∙ ap (λ (l : List ℕ). (69 ∷ 66 ∷ 75 ∷ version ∷ []) ++ l)
    (head_gone b (replicate (2 * share_long) 0) (2 * share_long) (omega arith))
    ∙ sym (started_fresh b h)

-- ---- the part that get hands back
-- a part of a part is a part of the whole
part_of_part : (a k p n : ℕ) (b : List ℕ) → p + n ≤ k
    → take n (drop p (mid_of a k b)) ≡ take n (drop (a + p) b)
part_of_part a k p n b h =
    let e : k ≡ p + (k - p) = omega arith in
    ap (λ i. take n (drop p (take i (drop a b)))) e
    ∙ ap (take n) (drop-take p (k - p) (drop a b) ∙ ap (take (k - p)) (drop-drop p a b))
    ∙ take-take n (k - p) (drop (a + p) b) (omega arith)

module _ (b : List ℕ) (p : Party) (n : ℕ) (done : is_done (book_answer b p (Get n)) ≡ true) where
  -- number n ends within the share
  in_share : place_of numbers (share_of b p) n + length_at (share_of b p) n ≤ share_long
  unfolding place_of
  in_share =
      let e = entry_end numbers (share_of b p) n _ refl _ refl (within_share b p n done) in
      let l = share_long_lem p b (made_long b (got_made b p n done)) in
      omega arith

  in_book : share_at p + place_of numbers (share_of b p) n + length_at (share_of b p) n ≤ book_long
  in_book = by p (place_of numbers (share_of b p) n) (length_at (share_of b p) n) in_share
    where
      by : (q : Party) (i k : ℕ) → i + k ≤ share_long → share_at q + i + k ≤ book_long
      by Display i k h = omega arith
      by Export i k h = omega arith

  got_part : take (length_at (share_of b p) n) (drop (share_at p + place_of numbers (share_of b p) n) b)
      ≡ book_handed b p (Get n)
  unfolding held_at share_of
  got_part =
      sym (part_of_part (share_at p) share_long (place_of numbers (share_of b p) n)
      (length_at (share_of b p) n) b
      in_share)
      ∙ sym (handed_held b p n done)

module _ (b : List ℕ) (p : Party) (n : ℕ) where
  place_by : (t : Bool) → is_done (book_answer b p (Get n)) ≡ t
      → book_place b p n ≡ cond t (share_at p + place_of numbers (share_of b p) n) 0
  unfolding book_place
  place_by t e = ap (λ t. cond t (share_at p + place_of numbers (share_of b p) n) 0) e

  none_handed : is_done (book_answer b p (Get n)) ≡ false → book_handed b p (Get n) ≡ []
  unfolding book_handed unless_refused
  none_handed e = ap (λ t. cond t (map_in b p n) []) e

  -- what get hands back lies in the book's own bytes
  pub handed_small : book_place b p n + length (book_handed b p (Get n)) ≤ book_long
  handed_small = by (is_done (book_answer b p (Get n))) refl
    where
      by : (t : Bool) → is_done (book_answer b p (Get n)) ≡ t
          → book_place b p n + length (book_handed b p (Get n)) ≤ book_long
      by true e =
          let q = place_by true e in
          let l = handed_long b p n e in
          let h = in_book b p n e in
          omega arith
      by false e =
          let q = place_by false e in
          let l = ap length (none_handed e) in
          omega arith

module _ (b : List ℕ) (p : Party) (n : ℕ) (r : Result Found Refusal) (f : FoundAt b p n r) where
  pub found_small : place_found r + length_found r ≤ book_long
  found_small = let h = handed_small b p n in omega (arith, f.place, f.long)

  -- what is found lies in the buffer, and is what get hands back
  pub found_part : (at : Found) → r ≡ Ok at
      → (at.place ≡ book_place b p n) × (at.place + at.length ≤ length b)
      × (take (at.place + at.length - at.place) (drop at.place b) ≡ book_handed b p (Get n))
  unfolding place_found length_found
  found_part at e =
      let done = sym (ap is_done f.answer) ∙ ok_done r at e in
      let is = sym (ap place_found e) ∙ f.place in
      let q = is ∙ place_by b p n true done in
      let l = sym (ap length_found e) ∙ f.long ∙ handed_long b p n done in
      let h = in_book b p n done in
      let g = made_long b (got_made b p n done) in (
        is,
        omega arith,
        ap (λ i. take i (drop at.place b)) (add-sub_cancel_left at.place at.length)
            ∙ ap₂ (λ i j. take i (drop j b)) l q ∙ got_part b p n done,
      )

  -- and where nothing is found, get hands back nothing, at the buffer's start
  pub found_nothing : (x : Refusal) → r ≡ Err x
      → ((k : ℕ) → k ≡ book_place b p n + k) × ([] ≡ book_handed b p (Get n))
  unfolding place_found
  found_nothing x e = (
    λ k. let q = sym (ap place_found e) ∙ f.place in omega arith,
    sym (none_handed b p n (sym (ap is_done f.answer) ∙ err_undone r x e)),
  )
