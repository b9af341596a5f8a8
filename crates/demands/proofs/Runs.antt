-- What a chained run's contract gives, over the way: the number of its answer by the tests in order,
-- the buffers that a refusal keeps, and the last picture where the finder picks it.
use Prim.Native.Nat.{ℕ, ◌+◌, ◌%◌, ◌≤◌, ◌<◌}
use mathlib.Core.Path.{◌≡◌, refl, sym, ap, ap₂, ◌∙◌, subst}
use mathlib.Core.Bool.{Bool, true, false, not, cond}
use mathlib.Core.Logic.{◌↔◌}
use mathlib.Core.List.{List, [], ◌∷◌, ◌++◌}
use native.Mathlib.Omega.{arith}
use borrow.Author.Tests.{eqb-true, eqb-false, not-false}
use lib.Dec.{eqb, ltb, lit≤}
use lib.ListN.{length, take, drop, length-append}
use Rattle.std.specs.Prelude.{Ok}
use Rattle.answer.specs.declared.Told.{Told}
use Rattle.answer.specs.Answer.{Answer, told, told_refusal, plain, is_done}
use Rattle.answer.specs.Refuse.{Test, refuse, NoneHolds, end, next}
use Rattle.answer.specs.Lent.{if_done, unless_refused}
use Rattle.answer.proofs.Order.{Numbered, none_given}
use Rattle.answer.proofs.Lent.{all_done, in_parts, two_parts}
use Rattle.picture.specs.declared.Depth.{Depth}
use Rattle.picture.specs.declared.Depth.TheVariants.{OneBit}
use Rattle.picture.specs.Frame.{top, sized_frame, picture_bytes, frame}
use Rattle.picture.specs.Points.{value_at}
use Rattle.picture.specs.Bytes.{Picture, bytes_of, written}
use Rattle.picture.proofs.Bytes.{bytes_long, alone}
use Rattle.picture.proofs.Shown.{written_shown}
use Rattle.element.specs.Shape.{Offset}
use Rattle.element.specs.Descriptor.{shape_in}
use Rattle.morphology.specs.Step.{Place, In}
use Rattle.morphology.specs.Operations.{flat}
use Rattle.morphology.specs.Order.{Bounded}
use Rattle.morphology.specs.Chain.{Chained, Accepted, First}
use Rattle.morphology.specs.Demand.{Differs}
use Rattle.morphology.specs.Check.{check_of}
use Rattle.rows.specs.Steps.Ways.{swept_by}
use Rattle.apply.proofs.Twice.{bit_value}
use Rattle.faults.specs.Verdicts.{answer_of}
use Rattle.judge.specs.declared.Padding.TheVariants.{Free}
use Rattle.judge.specs.Tests.{picture_tests, room_tests}
use Rattle.judge.proofs.Admitted.{picture_numbered}
use Rattle.chain.specs.Reading.{counted, chain_tests, check_tests, links_in, checked}
use Rattle.finder.specs.Finder.{is_there, found_at}
use Rattle.chain.proofs.Checking.{some_links}
use Rattle.finder.proofs.Finding.{both_long, in_first_lem, in_second_lem}
use Rattle.chained.specs.Run.{run_answer, eroded, dilated, in_first, in_second, holding, first_after}
use Rattle.chained.specs.Run.{second_after}
use Rattle.chained.specs.Steps.Buffers.{results_by}
use Rattle.chained.proofs.Results.{result_bounded}
use Rattle.chained.proofs.Buffers.{own_bytes, odd_last, even_last}
use Rattle.chained.proofs.Answers.{Passed, passed}
use Rattle.demands.specs.Demands.{ExactlyNumbered, Kept, Shows}
use Rattle.demands.specs.Chains.{WellMade, Strength, split_at, split_tests, run_tests}
use Rattle.demands.specs.RunCalls.{RunCall, room_run, tests_run}
use Rattle.demands.proofs.ByNumber.{bare, bare_refuse, bare_waits, bare_done, NoOffset, refuse_plain}
use Rattle.demands.proofs.ByNumber.{waits_plain, done_plain, both_numbered, numbered_exactly}
use Rattle.demands.proofs.ByNumber.{numbered_kept, split_numbered, check_bare, check_plain, check_done}
use Rattle.demands.proofs.Checks.{split_is_first, chained, done_is_same}
use Rattle.morphology.proofs.Verdicts.{some_top, accepted_dilated, accepted_eroded, accepted_is_same}

-- ---- demand 1

module _ (depth : Depth) (w h : ℕ) (source element : List ℕ) (k : ℕ) (chain : List ℕ) (room : ℕ) where
  abbrev S : List Test
  S = picture_tests Free depth w h source

  abbrev C : List Test
  C = split_tests element k chain

  abbrev R : List Test
  R = room_tests depth w h 0 room

  tests_numbered_lem : Numbered (run_tests depth w h source element k chain room)
  tests_numbered_lem =
      picture_numbered Free depth w h source (C ++ R)
      (both_numbered C R (split_numbered element k chain) (lit≤ tt, tt))

  numbers : bare (run_answer depth w h source element k chain room)
      ≡ refuse (run_tests depth w h source element k chain room) (plain 0)
  unfolding run_answer
  numbers =
      bare_refuse S (if_done (checked element k chain) (refuse R (plain 0)))
      ∙ ap (refuse S)
      (bare_waits (checked element k chain) (refuse R (plain 0))
      ∙ ap₂ if_done (check_bare element k chain) (bare_refuse R (plain 0) ∙ ap (refuse R) bare_done)
      ∙ two_parts C R (split_numbered element k chain))
      ∙ in_parts S (C ++ R) (plain 0)

  no_offset : NoOffset (run_answer depth w h source element k chain room)
  unfolding run_answer
  no_offset =
      refuse_plain S _ (waits_plain (checked element k chain) _ (check_plain element k chain)
      (refuse_plain R (plain 0) done_plain))

module _ (c : RunCall) (t : Told) (p : t
    ≡ run_answer c.depth c.w c.h c.source c.element c.links c.chain (room_run c)) where
  abbrev some : Numbered (tests_run c)
  some = tests_numbered_lem c.depth c.w c.h c.source c.element c.links c.chain (room_run c)

  abbrev by_tests : bare t ≡ refuse (tests_run c) (plain 0)
  by_tests =
      ap bare p ∙ numbers c.depth c.w c.h c.source c.element c.links c.chain (room_run c)

  pub run_exactly : ExactlyNumbered (tests_run c) t
  run_exactly =
      numbered_exactly (tests_run c) t some by_tests
      (subst NoOffset (sym p)
      (no_offset c.depth c.w c.h c.source c.element c.links c.chain (room_run c)))

  pub run_kept : (before after made : List ℕ) → after ≡ unless_refused t before made
      → Kept (tests_run c) before after
  run_kept = numbered_kept (tests_run c) t some by_tests

-- ---- SPLIT

-- the answer is SPLIT dx, dy exactly when the source is as it must be,
-- element and chain are well made, and that offset is the first, in row order,
-- at which a lone echo of that strength, in some frame within the limits, is dilated differently
module _ (depth : Depth) (w h : ℕ) (source element : List ℕ) (k : ℕ) (chain : List ℕ) (room : ℕ) (r : Answer)
    (p : told r ≡ run_answer depth w h source element k chain room) (e : Offset) where
  abbrev first_difference : ℕ → Type 0
  first_difference strength =
      WellMade element k chain × First (Differs strength (shape_in element) (links_in k chain)) e

  other : (n : ℕ) → (n ≡ 7 → ⊥) → plain n ≡ split_at e → ⊥
  unfolding plain
  other n s q = s (ap (λ (t : Told). t.number) q)

  after_source : (a b : Bool) (after : Told) → refuse ((a, 1) ∷ (b, 2) ∷ []) after ≡ split_at e
      → NoneHolds ((a, 1) ∷ (b, 2) ∷ []) × (after ≡ split_at e)
  after_source true b after q = absurd (other 1 (λ z. omega arith) q)
  after_source false true after q = absurd (other 2 (λ z. omega arith) q)
  after_source false false after q = (next (next end), q)

  not_room : (b : Bool) → refuse ((b, 8) ∷ []) (plain 0) ≡ split_at e → ⊥
  not_room true q = other 8 (λ z. omega arith) q
  not_room false q = other 0 (λ z. omega arith) q

  pub run_split : (strength : ℕ) → Strength depth strength
      → (told r ≡ split_at e)
      ↔ (NoneHolds (picture_tests Free depth w h source) × first_difference strength)
  unfolding run_answer checked
  run_split strength heard = (there, back)
    where
      Y : Told
      Y = refuse (room_tests depth w h 0 room) (plain 0)

      by : (b : Bool) → is_done (checked element k chain) ≡ b → cond b Y (checked element k chain)
          ≡ split_at e
          → checked element k chain ≡ split_at e
      by true d q = absurd (not_room (ltb room (0 + picture_bytes depth w h)) q)
      by false d q = q

      there : told r ≡ split_at e
          → NoneHolds (picture_tests Free depth w h source) × first_difference strength
      there t =
          let s = after_source (not (sized_frame w h)) (not (eqb (length source) (picture_bytes depth w h)))
          (if_done (checked element k chain) Y) (sym p ∙ t) in
          let c = by (is_done (checked element k chain)) refl s.1 in
          (s.0, (split_is_first element chain k r (t ∙ sym c) depth strength heard e).0 t)

      back : NoneHolds (picture_tests Free depth w h source) × first_difference strength
          → told r ≡ split_at e
      back f =
          let v = answer_of (check_of (shape_in element) (links_in k chain)) in
          let c : told v ≡ checked element k chain = sym (none_given (told v) f.1.0) in
          p ∙ none_given (if_done (checked element k chain) Y) f.0
          ∙ ap (λ t. if_done t Y) (sym c ∙ (split_is_first element chain k v c depth strength heard e).1 f.1)

-- ---- the last picture

one_bounded : (depth : Depth) (w h : ℕ) (source : List ℕ) → depth ≡ OneBit
    → Bounded (top depth) (frame w h) (value_at depth source w)
one_bounded depth w h source e p i =
    subst (λ n. value_at depth source w p.x p.y ≤ n)
    (sym (ap top e)) (bit_value depth e source w p.x p.y)

module _ (depth : Depth) (w h : ℕ) (result : ℕ → Picture) where
  written_long : (A : Picture) (t : List ℕ) → picture_bytes depth w h ≤ length (written depth A w h t)
  unfolding written
  written_long A t =
      omega
      (arith, length-append (bytes_of depth A w h) (drop (picture_bytes depth w h) t), bytes_long depth A w h)

  buffer_long : (i : ℕ) (t : List ℕ) → picture_bytes depth w h ≤ length t
      → picture_bytes depth w h ≤ length (holding depth w h result i t)
  buffer_long i t l = by (eqb i 0)
    where
      by : (b : Bool) → picture_bytes depth w h ≤ length (cond b t (written depth (result i) w h t))
      by true = l
      by false = written_long (result i) t

  first_long : (k : ℕ) (t : List ℕ) → picture_bytes depth w h ≤ length t
      → picture_bytes depth w h ≤ length (first_after depth w h result k t)
  unfolding first_after
  first_long k t l = buffer_long (in_first k) t l

  second_long : (k : ℕ) (t : List ℕ) → picture_bytes depth w h ≤ length t
      → picture_bytes depth w h ≤ length (second_after depth w h result k t)
  unfolding second_after
  second_long k t l = buffer_long (in_second k) t l

-- the finder picks the last result's own bytes
module _ (depth : Depth) (w h : ℕ) (result : ℕ → Picture)
    (source element : List ℕ) (k : ℕ) (chain first second : List ℕ) (room : ℕ)
    (y : Passed depth w h source element k chain room)
    (l : picture_bytes depth w h ≤ length first) (m : picture_bytes depth w h ≤ length second) where
  abbrev one : List ℕ
  one = first_after depth w h result k first

  abbrev two : List ℕ
  two = second_after depth w h result k second

  right : counted k ≡ true
  unfolding check_tests chain_tests
  right = not-false (counted k) y.made.1.0

  found : found_at one two depth w h k ≡ bytes_of depth (result k) w h
  found = by (eqb (k % 2) 1) refl
    where
      n : ℕ
      n = picture_bytes depth w h

      -- wherever the buffers begin
      place : ℕ × ℕ
      place = (0, 0)

      count : n ≡ cond (sized_frame w h) n 0
      count = ap (λ b. cond b n 0) (sym y.picture.sized)

      longs : (n ≤ length one) × (n ≤ length two)
      longs = (first_long depth w h result k first l, second_long depth w h result k second m)

      there : is_there (length one) (length two) depth w h k ≡ true
      there =
          sym (both_long (length one) (length two) depth w h k
          y.picture.sized right n count longs.0 longs.1)

      by : (b : Bool) → eqb (k % 2) 1 ≡ b → found_at one two depth w h k ≡ bytes_of depth (result k) w h
      by true e =
          let o = eqb-true (k % 2) 1 e in
          sym (in_first_lem one two depth w h k place place there n refl o).0
          ∙ ap (take n) (odd_last depth w h result k first o) ∙ own_bytes depth w h (result k) first n refl
      by false e =
          let o = eqb-false (k % 2) 1 e in
          let some = some_links k right in
          sym (in_second_lem one two depth w h k place place there n refl o).0
          ∙ ap (take n) (even_last depth w h result k second o (λ z. omega arith))
          ∙ own_bytes depth w h (result k) second n refl

-- a chain that is accepted does the element's work on any picture
module _ (depth : Depth) (w h : ℕ) (source element : List ℕ) (k : ℕ)
    (chain : List ℕ) (done : is_done (checked element k chain) ≡ true) where
  told_done : told (Ok (tt {0})) ≡ checked element k chain
  unfolding told told_refusal
  told_done = sym (check_done element k chain done)

  works : (grows : Bool) (p : Place) → In (frame w h) p
      → results_by grows depth w h source chain k p.x p.y
      ≡ swept_by grows flat (top depth) (frame w h) (shape_in element) (value_at depth source w) p.x p.y
  unfolding eroded dilated
  works grows p i =
      let s = (done_is_same element chain k (Ok (tt {0})) told_done).0
      (told_done ∙ check_done element k chain done) in
      let C = chained element chain k (Ok (tt {0})) told_done s.0 in
      let none = (accepted_is_same (shape_in element)
      (links_in k chain) C (top depth) (some_top depth)).1 (s.1 depth) in
      by C none grows
    where
      by : Chained (shape_in element) (links_in k chain) → Accepted (shape_in element) (links_in k chain)
          → (grows : Bool)
          → results_by grows depth w h source chain k p.x p.y
          ≡ swept_by grows flat (top depth) (frame w h)
          (shape_in element) (value_at depth source w) p.x p.y
      by C none true =
          accepted_dilated (shape_in element) (links_in k chain) C none (frame w h) (value_at depth source w)
          p i
      by C none false =
          accepted_eroded (shape_in element) (links_in k chain) C none (top depth)
          (frame w h) (value_at depth source w) p i

made : (t : Told) (was new : List ℕ) → is_done t ≡ true → unless_refused t was new ≡ new
unfolding unless_refused
made t was new e = ap (λ b. cond b new was) e

-- so where nothing is refused the finder's part shows the element's own erosion or dilation
module _ (grows : Bool) (c : RunCall) (t : Told) (p : t
    ≡ run_answer c.depth c.w c.h c.source c.element c.links c.chain (room_run c)) where
  abbrev results : ℕ → Picture
  results = results_by grows c.depth c.w c.h c.source c.chain

  pub run_shows : c.first_after
      ≡ unless_refused t c.first (first_after c.depth c.w c.h results c.links c.first)
      → c.second_after
      ≡ unless_refused t c.second (second_after c.depth c.w c.h results c.links c.second)
      → Shows (tests_run c) c.depth c.w c.h
      (found_at c.first_after c.second_after c.depth c.w c.h c.links)
      (swept_by grows flat (top c.depth) (frame c.w c.h)
      (shape_in c.element) (value_at c.depth c.source c.w))
  run_shows e f none q hx hy =
      let done : is_done t ≡ true = ap is_done ((run_exactly c t p).done.1 none) ∙ all_done in
      let y = passed c.depth c.w c.h c.source c.element
      c.links c.chain (room_run c) (ap is_done (sym p) ∙ done) in
      let fits = y.picture.roomy in
      ap (λ l. value_at c.depth l c.w q.ping.0 q.bin.0)
      (ap₂ (λ a b. found_at a b c.depth c.w c.h c.links)
      (e ∙ made t c.first _ done) (f ∙ made t c.second _ done)
      ∙ found c.depth c.w c.h results c.source c.element c.links c.chain
      c.first c.second (room_run c) y (omega (arith, fits)) (omega (arith, fits))
      ∙ sym (alone c.depth (results c.links) c.w c.h))
      ∙ written_shown c.depth (results c.links) c.w c.h [] small q.ping.0 q.bin.0 hx hy
      ∙ works c.depth c.w c.h c.source c.element c.links c.chain
      y.accepted grows (record { x = q.ping.0; y = q.bin.0 }) (record { ping = hx; bin = hy })
    where
      small : c.depth ≡ OneBit → (x y : ℕ) → x < c.w → y < c.h → results c.links x y ≤ 1
      small o x y hx hy =
          subst (λ n. results c.links x y ≤ n) (ap top o)
          (result_bounded c.depth c.w c.h c.source c.chain
          (one_bounded c.depth c.w c.h c.source o) grows c.links
          (record { x = x; y = y }) (record { ping = hx; bin = hy }))
