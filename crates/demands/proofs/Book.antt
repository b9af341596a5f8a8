-- The element book. Demand 1 of each call: each number is given exactly where its test is the first to hold,
-- and a refusal changes no byte. And over any sequence of calls on a fresh book: get answers
-- as two plain maps do, tidy changes no answer, BOOK is never given,
-- and neither party sees what the other does.
use Prim.Native.Nat.{ℕ, ◌≤◌, ◌<◌}
use mathlib.Core.Path.{◌≡◌, refl, sym, ap, ap₂, ◌∙◌, subst}
use mathlib.Core.Bool.{Bool, true, false, cond}
use mathlib.Core.List.{List, [], ◌∷◌}
use native.Mathlib.Omega.{arith}
use borrow.Author.Tests.{ltb-true, ltb-false}
use lib.Dec.{ltb}
use lib.ListN.{length}
use Rattle.answer.specs.Answer.{told, plain, is_done}
use Rattle.answer.proofs.Order.{Numbered, none_of}
use Rattle.share.specs.Maps.{empty, Call, Put, Get, Remove, Tidy, Reply, map_replies}
use Rattle.book.specs.declared.Party.{Party}
use Rattle.book.specs.History.{Asked, calls_of, replies_to}
use Rattle.share.proofs.Steps.{numbered}
use Rattle.book.specs.Book.{numbers, room, book_long, share_of, with_share, map_in, start_tests, start_answer}
use Rattle.book.specs.Book.{started}
use Rattle.book.specs.Book.{book_made, book_tests, book_answer, book_handed, book_after}
use Rattle.book.specs.Steps.Runs.{replies, left}
use Rattle.book.proofs.Stays.{own_share, get_stays, put_hands_none, remove_hands_none, tidy_hands_none}
use Rattle.book.proofs.Marks.{book_short}
use Rattle.book.proofs.Calls.{start_short}
use Rattle.book.proofs.Histories.{answers_as_maps, answers_to_one, tidy_changes_none}
use Rattle.book.proofs.Histories.{layout_kept, never_book, refused_all, broken_to}
use Rattle.book.proofs.start.Kinds as start-kinds
use Rattle.book.proofs.start.Reads as start-reads
use Rattle.book.proofs.put.Kinds as put-kinds
use Rattle.book.proofs.put.Reads as put_reads
use Rattle.book.proofs.remove.Kinds as remove-kinds
use Rattle.book.proofs.remove.Reads as remove-reads
use Rattle.book.proofs.tidy.Kinds as tidy-kinds
use Rattle.book.proofs.tidy.Reads as tidy-reads
use Rattle.book.proofs.find.Kinds as find-kinds
use Rattle.book.proofs.find.Reads as find-reads
use Rattle.book.proofs.get.Kinds as get-kinds
use Rattle.book.proofs.get.Reads as get-reads
use Rattle.demands.specs.Demands.{Every, Exactly, Kept}
use Rattle.demands.specs.BookCalls.{Step, puts, removes, tidies, gets, History, none, next}
use Rattle.demands.specs.Books.{Fresh, AsMaps, TidyChangesNone, NeverBook, Isolated, OwnShare}
use Rattle.demands.proofs.Laws.{exactly_of, kept_of}

call_numbered : (b : List ℕ) (p : Party) (c : Call) → Numbered (book_tests b p c)
call_numbered b p c = (omega arith, numbered numbers room (map_in b p) c)

-- ---- demand 1
pub book_start_exactly : Every 1 start-kinds.ps start-kinds.r start-reads.Learnt
    (λ κs a r e. Exactly (start_tests a.0.now) (told r))
unfolding start_answer
book_start_exactly κs a r e p = exactly_of (start_tests a.0.now) (told r) (omega arith, tt) p.0

pub book_start_kept : Every 1 start-kinds.ps start-kinds.r start-reads.Learnt
    (λ κs a r e. Kept (start_tests a.0.now) a.0.now e.0.now)
unfolding start_answer started
book_start_kept κs a r e p = kept_of (start_tests a.0.now) _ _ _ (omega arith, tt) p.1

pub book_put_exactly : Every 2 put-kinds.ps put-kinds.r put_reads.Learnt
    (λ κs a r e. Exactly (book_tests a.0.now a.1.0 (Put a.1.1.0 a.1.1.1.0.now)) (told r))
unfolding book_answer
book_put_exactly κs a r e p =
    let c = Put a.1.1.0 a.1.1.1.0.now in
    exactly_of (book_tests a.0.now a.1.0 c) (told r) (call_numbered a.0.now a.1.0 c) p.0

pub book_put_kept : Every 2 put-kinds.ps put-kinds.r put_reads.Learnt
    (λ κs a r e. Kept (book_tests a.0.now a.1.0 (Put a.1.1.0 a.1.1.1.0.now))
    a.0.now e.0.now)
unfolding book_answer book_after
book_put_kept κs a r e p =
    let c = Put a.1.1.0 a.1.1.1.0.now in
    kept_of (book_tests a.0.now a.1.0 c) _ _ _ (call_numbered a.0.now a.1.0 c) p.1

pub book_remove_exactly : Every 1 remove-kinds.ps remove-kinds.r remove-reads.Learnt
    (λ κs a r e. Exactly (book_tests a.0.now a.1.0 (Remove a.1.1.0)) (told r))
unfolding book_answer
book_remove_exactly κs a r e p =
    let c = Remove a.1.1.0 in
    exactly_of (book_tests a.0.now a.1.0 c) (told r) (call_numbered a.0.now a.1.0 c) p.0

pub book_remove_kept : Every 1 remove-kinds.ps remove-kinds.r remove-reads.Learnt
    (λ κs a r e. Kept (book_tests a.0.now a.1.0 (Remove a.1.1.0)) a.0.now e.0.now)
unfolding book_answer book_after
book_remove_kept κs a r e p =
    let c = Remove a.1.1.0 in
    kept_of (book_tests a.0.now a.1.0 c) _ _ _ (call_numbered a.0.now a.1.0 c) p.1

pub book_tidy_exactly : Every 1 tidy-kinds.ps tidy-kinds.r tidy-reads.Learnt
    (λ κs a r e. Exactly (book_tests a.0.now a.1.0 Tidy) (told r))
unfolding book_answer
book_tidy_exactly κs a r e p =
    exactly_of (book_tests a.0.now a.1.0 Tidy) (told r) (call_numbered a.0.now a.1.0 Tidy)
    p.0

pub book_tidy_kept : Every 1 tidy-kinds.ps tidy-kinds.r tidy-reads.Learnt
    (λ κs a r e. Kept (book_tests a.0.now a.1.0 Tidy) a.0.now e.0.now)
unfolding book_answer book_after
book_tidy_kept κs a r e p =
    kept_of (book_tests a.0.now a.1.0 Tidy) _ _ _ (call_numbered a.0.now a.1.0 Tidy) p.1

pub book_find_exactly : Every 1 find-kinds.ps find-kinds.r find-reads.Learnt
    (λ κs a r e. Exactly (book_tests a.0.now a.1.0 (Get a.1.1.0)) (told r))
unfolding book_answer
book_find_exactly κs a r e p =
    let c = Get a.1.1.0 in
    exactly_of (book_tests a.0.now a.1.0 c) (told r)
    (call_numbered a.0.now a.1.0 c) p.answer

-- and a get that is refused hands back nothing
pub book_get_kept : Every 1 get-kinds.ps get-kinds.r get-reads.Learnt
    (λ κs a part e. Kept (book_tests a.0.now a.1.0 (Get a.1.1.0)) [] part.now)
unfolding book_answer book_handed
book_get_kept κs a part e p =
    let c = Get a.1.1.0 in
    kept_of (book_tests a.0.now a.1.0 c) _ _ _ (call_numbered a.0.now a.1.0 c) p.0

-- ---- a call by its contract is the definition's
abbrev Stepped : List ℕ → Asked → Reply → List ℕ → Type 0
Stepped b (p, c) r after =
    (◌≡◌ {A = Reply} r (book_answer b p c, book_handed b p c)) × (after ≡ book_after b p c)

stepped : (b : List ℕ) (c : Asked) (r : Reply) (after : List ℕ) → Step b c r after → Stepped b c r after
stepped b c r after (puts κs a x e p) =
    (λ i. (p.0 i, sym (put_hands_none a.0.now a.1.0 a.1.1.0 a.1.1.1.0.now) i), p.1)
stepped b c r after (removes κs a x e p) =
    (λ i. (p.0 i, sym (remove_hands_none a.0.now a.1.0 a.1.1.0) i), p.1)
stepped b c r after (tidies κs a x e p) =
    (λ i. (p.0 i, sym (tidy_hands_none a.0.now a.1.0) i), p.1)
stepped b c r after (gets κs a x e p κs' a' part e' q same whose number) = (
  λ i. (p.answer i, (q.0 ∙ λ j. book_handed (same j) (whose j) (Get (number j))) i),
  sym (get_stays a.0.now a.1.0 a.1.1.0),
)

run : (b : List ℕ) (cs : List Asked) (rs : List Reply) (end : List ℕ) → History b cs rs end
    → (rs ≡ replies b cs) × (end ≡ left b cs)
unfolding replies left
run b cs rs end none = (refl, refl)
run b (c ∷ cs) (r ∷ rs) end (next {b' = b'} s h) =
    let p = stepped b c r b' s in
    let q = run b' cs rs end h in (
      λ i. p.0 i ∷ (q.0 ∙ ap (λ l. replies l cs) p.1) i,
      q.1 ∙ ap (λ l. left l cs) p.1,
    )

-- ---- on a fresh book
long_enough : (b : List ℕ) → is_done (start_answer b) ≡ true → book_long ≤ length b
unfolding start_answer
long_enough b e = ltb-false (length b) book_long (none_of (start_tests b) (omega arith, tt) e).0

on_fresh : (P : List ℕ → Type 0) → ((b : List ℕ) → book_long ≤ length b → P (started b)) → Fresh P
on_fresh P f κs a x e p done =
    subst P (sym p.1) (f a.0.now (long_enough a.0.now (sym (ap is_done p.0) ∙ done)))

pub book_as_maps : AsMaps
book_as_maps =
    on_fresh _ (λ b long cs rs end h. (run (started b) cs rs end h).0 ∙ answers_as_maps b long cs)

pub book_tidy_changes_none : TidyChangesNone
book_tidy_changes_none =
    on_fresh _ (λ b long before said l h p r tidied s cs rs rs' end end' h' h''.
    let e = (run (started b) before said l h).1 in
    (run tidied cs rs' end' h'').0
    ∙ ap (λ l. replies l cs) ((stepped l (p, Tidy) r tidied s).1 ∙ ap (λ l. book_after l p Tidy) e)
    ∙ tidy_changes_none b long before p cs
    ∙ sym ((run l cs rs end h').0 ∙ ap (λ l. replies l cs) e))

pub book_never_book : NeverBook
book_never_book =
    on_fresh _ (λ b long cs rs end h.
    let e = (run (started b) cs rs end h).1 in (
      subst (λ l. book_made l ≡ true) (sym e) (layout_kept b long cs),
      λ c r after s z. never_book b long cs c.0 c.1
          (ap (λ l. book_answer l c.0 c.1) (sym e)
          ∙ sym (ap (λ (q : Reply). q.0) (stepped end c r after s).0) ∙ z),
    ))

too_short : (b : List ℕ) → is_done (start_answer b) ≡ false → length b < book_long
unfolding start_answer plain
too_short b e = by (ltb (length b) book_long) refl
  where
    by : (t : Bool) → ltb (length b) book_long ≡ t → length b < book_long
    by true h = ltb-true (length b) book_long h
    by false h =
        let z = ap {B = ℕ} (λ (t : Bool). cond t 1 0)
        (sym (ap (λ (t : Bool). is_done (cond t (plain 8) (plain 0))) h) ∙ e) in
        absurd (omega arith)

-- ---- what one party does is not seen by the other
-- of a start that is done, one party sees its own map; of a start that is refused, BOOK alone
seen : Party → Bool → List Call → List Reply
seen p true cs = map_replies numbers room empty cs
seen p false cs = refused_all cs

one_sees : (p : Party) (b : List ℕ) (cs : List Asked) (done : Bool) → is_done (start_answer b) ≡ done
    → replies_to p cs (replies (started b) cs) ≡ seen p done (calls_of p cs)
unfolding seen
one_sees p b cs true e = answers_to_one b (long_enough b e) p cs
one_sees p b cs false e =
    ap (λ l. replies_to p cs (replies l cs)) (sym (start_short b (too_short b e)))
    ∙ broken_to p b (sym (book_short b (too_short b e))) cs

pub book_isolated : Isolated
book_isolated κs a x e q κs' a' x' e' q' same p cs cs' rs rs' end end' h h' calls =
    let b = a.0.now in
    let b' = a'.0.now in
    let one = ap (replies_to p cs) ((run e.0.now cs rs end h).0 ∙ ap (λ l. replies l cs) q.1) in
    let two = ap (replies_to p cs') ((run e'.0.now cs' rs' end' h').0 ∙ ap (λ l. replies l cs') q'.1) in
    let done = is_done (start_answer b) in
    one ∙ one_sees p b cs done refl ∙ ap (seen p done) calls
    ∙ sym (two ∙ one_sees p b' cs' done (sym (ap is_done (sym q.0 ∙ same ∙ q'.0))))

pub book_own_share : OwnShare
book_own_share b p c r after s =
    let e = (stepped b (p, c) r after s).1 in
    e ∙ own_share b p c ∙ ap (λ l. with_share b p (share_of l p)) (sym e)
