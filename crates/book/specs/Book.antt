-- Document 02, (vi) and (vii): the book of two parties, and each call of it, for all bytes.
-- Bytes 0 to 3 are the letters EBK and the version; then the share of the display, then that of the export.
use Rattle.std.specs.Prelude.{ℕ, ◌+◌, ◌*◌, ◌≡◌, Bool, cond, not, ◌&&◌, List, [], ◌∷◌, ◌++◌, leb, ltb, eqb}
use Rattle.std.specs.Prelude.{Result, Ok, Err, length, get_or, take, drop, replicate}
use Rattle.answer.specs.declared.Refusal.{Refusal}
use Rattle.answer.specs.declared.Told.{Told}
use Rattle.answer.specs.Answer.{plain, told, is_done}
use Rattle.answer.specs.Refuse.{Test, refuse}
use Rattle.answer.specs.Lent.{unless_refused}
use Rattle.share.specs.Share.{place_of, held_at, share_made}
use Rattle.share.specs.Work.{worked}
use Rattle.share.specs.Maps.{Map, Call, Get, tests, found}
use Rattle.book.specs.declared.Found.{Found}
use Rattle.book.specs.declared.Party.{Party}
use Rattle.book.specs.declared.Party.TheVariants.{Display, Export}

-- each party's numbers are 0 to 7, and its descriptors have 1,000 bytes
abbrev pub numbers : ℕ
numbers = 8

abbrev pub room : ℕ
room = 1000

-- the layout's version: 1 was the book of one party
abbrev pub version : ℕ
version = 2

-- the bytes of a share, and of the book; where a party's share begins
abbrev pub share_long : ℕ
share_long = 2 * numbers + room

abbrev pub book_long : ℕ
book_long = 4 + 2 * share_long

abbrev pub share_at : Party → ℕ
share_at Display = 4
share_at Export = 4 + share_long

-- a party's share, and the book with that share s
unfoldable pub share_of : List ℕ → Party → List ℕ
share_of b p = take share_long (drop (share_at p) b)

unfoldable pub with_share : List ℕ → Party → List ℕ → List ℕ
with_share b p s = take (share_at p) b ++ (s ++ drop share_long (drop (share_at p) b))

-- the written layout
unfoldable pub marked : List ℕ → Bool
marked b = eqb (get_or b 0 0) 69 && eqb (get_or b 1 0) 66 && eqb (get_or b 2 0) 75
    && eqb (get_or b 3 0) version

unfoldable pub book_made : List ℕ → Bool
book_made b =
    leb book_long (length b) && marked b && share_made numbers room (share_of b Display)
    && share_made numbers room (share_of b Export)

-- ---- start: 8 ROOM where the buffer is too short; else the mark, and nothing held. Further bytes stay
abbrev pub start_tests : List ℕ → List Test
start_tests b = (ltb (length b) book_long, 8) ∷ []

unfoldable pub start_answer : List ℕ → Told
start_answer b = refuse (start_tests b) (plain 0)

unfoldable pub fresh : List ℕ → List ℕ
fresh b = (69 ∷ 66 ∷ 75 ∷ version ∷ []) ++ (replicate (2 * share_long) 0 ++ drop book_long b)

unfoldable pub started : List ℕ → List ℕ
started b = unless_refused (start_answer b) b (fresh b)

-- ---- a call: 17 BOOK where the bytes break the layout, in either share,
-- then the refusals of the map that the party's share holds
abbrev pub map_in : List ℕ → Party → Map
map_in b p = held_at numbers (share_of b p)

abbrev pub book_tests : List ℕ → Party → Call → List Test
book_tests b p c = (not (book_made b), 17) ∷ tests numbers room (map_in b p) c

-- the answer, the bytes handed back, and the book afterwards
unfoldable pub book_answer : List ℕ → Party → Call → Told
book_answer b p c = refuse (book_tests b p c) (plain 0)

unfoldable pub book_handed : List ℕ → Party → Call → List ℕ
book_handed b p c = unless_refused (book_answer b p c) [] (found (map_in b p) c)

unfoldable pub book_after : List ℕ → Party → Call → List ℕ
book_after b p c = unless_refused (book_answer b p c) b (with_share b p (worked numbers (share_of b p) c))

-- ---- where the bytes that get hands back begin in the book: at its start where they are refused
unfoldable pub book_place : List ℕ → Party → ℕ → ℕ
book_place b p n = cond (is_done (book_answer b p (Get n))) (share_at p + place_of numbers (share_of b p) n) 0

-- by where the lent buffer begins: a place is a block and an offset in it
abbrev pub place_in : List ℕ → Party → ℕ → ℕ × ℕ → ℕ × ℕ
place_in b p n at = (at.0, book_place b p n + at.1)

-- the place and the length of what is found, 0 and 0 where it is refused
unfoldable pub place_found : Result Found Refusal → ℕ
place_found (Ok f) = f.place
place_found (Err r) = 0

unfoldable pub length_found : Result Found Refusal → ℕ
length_found (Ok f) = f.length
length_found (Err r) = 0

-- the call beside get: its answer, and the place and the length of what get hands back
pub record FoundAt (b : List ℕ) (p : Party) (n : ℕ) (r : Result Found Refusal) : Type 0 where
  pub answer : told r ≡ book_answer b p (Get n)
  pub place : place_found r ≡ book_place b p n
  pub long : length_found r ≡ length (book_handed b p (Get n))
