-- The number that C gets of a get.
use Rattle.std.specs.Prelude.{ℕ, ◌+◌, ◌*◌, ◌^◌, List, length}
use Rattle.answer.specs.Packed.{packed}
use Rattle.share.specs.Maps.{Get}
use Rattle.book.specs.declared.Party.{Party}
use Rattle.book.specs.Book.{book_answer, book_handed, book_place}

-- number + 65536·place + 4294967296·length of what get hands back; a refused one gives 0 for both
unfoldable pub get_number : List ℕ → Party → ℕ → ℕ
get_number b p n =
    packed (book_answer b p (Get n)) + book_place b p n * 2 ^ 16 + length (book_handed b p (Get n))
    * 4294967296
