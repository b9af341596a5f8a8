-- The theorems of document 02, (vi) and (vii), over any list of calls after a start, by the definitions.
use Prim.Native.Nat.{ℕ, ◌≤◌}
use mathlib.Core.Path.{◌≡◌, refl, sym, ap, ap₂, ◌∙◌}
use mathlib.Core.Bool.{true, false}
use mathlib.Core.List.{List, [], ◌∷◌}
use lib.ListN.{length}
use Rattle.answer.specs.declared.Refusal.TheVariants.{Book}
use Rattle.answer.specs.Answer.{plain, told_refusal}
use Rattle.share.specs.Maps.{empty, Call, Tidy, Reply, map_reply, map_after, map_replies}
use Rattle.share.proofs.Steps.{no_book}
use Rattle.book.specs.declared.Party.{Party}
use Rattle.book.specs.declared.Party.TheVariants.{Display, Export}
use Rattle.book.specs.Book.{numbers, room, book_long, book_made, started}
use Rattle.book.specs.Book.{map_in, book_answer, book_handed, book_after}
use Rattle.book.specs.History.{Asked, Maps, no_maps, maps_after, maps_replies, calls_of, replies_to}
use Rattle.book.specs.Steps.Runs.{replies, left}
use Rattle.book.proofs.Calls.{broken_answer, broken_handed, broken_after}
use Rattle.book.proofs.Books.{Kept, kept_made, kept_as, kept_reply, kept_after, answer_made}
use Rattle.book.proofs.Books.{started_kept}

-- ---- of a book that holds two maps
kept_replies : (b : List ℕ) (ms : Maps) → Kept b ms → (asked : List Asked)
    → replies b asked ≡ maps_replies ms asked
unfolding replies maps_replies
kept_replies b ms k [] = refl
kept_replies b ms k ((p, c) ∷ more) =
    ap₂ (λ (r : Reply) (l : List Reply). r ∷ l) (kept_reply b ms k p c)
    (kept_replies (book_after b p c) (maps_after ms (p, c)) (kept_after b ms k p c) more)

kept_left : (b : List ℕ) (ms : Maps) → Kept b ms → (asked : List Asked) → (ks : Maps) × Kept (left b asked) ks
unfolding left
kept_left b ms k [] = (ms, k)
kept_left b ms k ((p, c) ∷ more) =
    kept_left (book_after b p c) (maps_after ms (p, c)) (kept_after b ms k p c) more

tidied : (ms : Maps) (p q : Party) (n : ℕ) → maps_after ms (p, Tidy) q n ≡ ms q n
unfolding map_after plain
tidied ms Display Display n = refl
tidied ms Display Export n = refl
tidied ms Export Display n = refl
tidied ms Export Export n = refl

-- ---- of two maps alone: one party sees its own map
to_one : (p : Party) (ms : Maps) (asked : List Asked)
    → replies_to p asked (maps_replies ms asked) ≡ map_replies numbers room (ms p) (calls_of p asked)
unfolding replies_to maps_replies calls_of map_replies
to_one p ms [] = refl
to_one Display ms ((Display, c) ∷ more) =
    ap (λ (l : List Reply). map_reply numbers room (ms Display) c ∷ l)
    (to_one Display (maps_after ms (Display, c)) more)
to_one Display ms ((Export, c) ∷ more) = to_one Display (maps_after ms (Export, c)) more
to_one Export ms ((Display, c) ∷ more) = to_one Export (maps_after ms (Display, c)) more
to_one Export ms ((Export, c) ∷ more) =
    ap (λ (l : List Reply). map_reply numbers room (ms Export) c ∷ l)
    (to_one Export (maps_after ms (Export, c)) more)

-- ---- after a start
module _ (b : List ℕ) (long : book_long ≤ length b) where
  -- every reply, refusals and bytes, is that of two plain maps that begin empty
  pub answers_as_maps : (asked : List Asked) → replies (started b) asked ≡ maps_replies no_maps asked
  answers_as_maps asked = kept_replies (started b) no_maps (started_kept b long) asked

  -- and those to one party are those of one plain map to that party's calls alone
  pub answers_to_one : (p : Party) (asked : List Asked)
      → replies_to p asked (replies (started b) asked) ≡ map_replies numbers room empty (calls_of p asked)
  answers_to_one p asked = ap (replies_to p asked) (answers_as_maps asked) ∙ to_one p no_maps asked

  -- a tidy changes no reply, whatever came before it and whatever follows
  pub tidy_changes_none : (before : List Asked) (p : Party) (more : List Asked)
      → replies (book_after (left (started b) before) p Tidy) more ≡ replies (left (started b) before) more
  tidy_changes_none before p more =
      let l = left (started b) before in
      let k = kept_left (started b) no_maps (started_kept b long) before in
      kept_replies (book_after l p Tidy) k.0
      (kept_as (book_after l p Tidy) (maps_after k.0 (p, Tidy)) k.0 (tidied k.0 p)
      (kept_after l k.0 k.1 p Tidy)) more
      ∙ sym (kept_replies l k.0 k.1 more)

  -- the bytes that a start and these calls have left keep the layout, and BOOK is never answered
  pub layout_kept : (asked : List Asked) → book_made (left (started b) asked) ≡ true
  layout_kept asked =
      let k = kept_left (started b) no_maps (started_kept b long) asked in
      kept_made (left (started b) asked) k.0 k.1

  pub never_book : (asked : List Asked) (p : Party) (c : Call)
      → book_answer (left (started b) asked) p c ≡ plain 17 → ⊥
  never_book asked p c e =
      no_book numbers room (map_in (left (started b) asked) p) c
      (sym (answer_made (left (started b) asked) (layout_kept asked) p c) ∙ e)

-- ---- bytes that break the layout: every call answers BOOK, and they stay
pub broken : Reply
broken = (told_refusal Book, [])

pub refused_all : List Call → List Reply
refused_all [] = []
refused_all (c ∷ cs) = broken ∷ refused_all cs

broken_reply : (b : List ℕ) → book_made b ≡ false → (p : Party) (c : Call)
    → ◌≡◌ {A = Reply} (book_answer b p c, book_handed b p c) broken
unfolding broken
broken_reply b e p c i = (sym (broken_answer b p c e) i, broken_handed b p c e i)

pub broken_to : (p : Party) (b : List ℕ) → book_made b ≡ false → (asked : List Asked)
    → replies_to p asked (replies b asked) ≡ refused_all (calls_of p asked)
unfolding replies_to replies calls_of refused_all
broken_to p b e [] = refl
broken_to Display b e ((Display, c) ∷ more) =
    ap₂ (λ (r : Reply) (l : List Reply). r ∷ l) (broken_reply b e Display c)
    (ap (λ (l : List ℕ). replies_to Display more (replies l more)) (sym (broken_after b Display c e))
    ∙ broken_to Display b e more)
broken_to Display b e ((Export, c) ∷ more) =
    ap (λ (l : List ℕ). replies_to Display more (replies l more)) (sym (broken_after b Export c e))
    ∙ broken_to Display b e more
broken_to Export b e ((Display, c) ∷ more) =
    ap (λ (l : List ℕ). replies_to Export more (replies l more)) (sym (broken_after b Display c e))
    ∙ broken_to Export b e more
broken_to Export b e ((Export, c) ∷ more) =
    ap₂ (λ (r : Reply) (l : List Reply). r ∷ l) (broken_reply b e Export c)
    (ap (λ (l : List ℕ). replies_to Export more (replies l more)) (sym (broken_after b Export c e))
    ∙ broken_to Export b e more)
