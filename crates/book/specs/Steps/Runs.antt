-- The replies of a book to calls one after another, and the book that is left, by the definitions alone.
use Rattle.std.specs.Prelude.{ℕ, List, [], ◌∷◌}
use Rattle.share.specs.Maps.{Reply}
use Rattle.book.specs.Book.{book_answer, book_handed, book_after}
use Rattle.book.specs.History.{Asked}

unfoldable pub replies : List ℕ → List Asked → List Reply
replies b [] = []
replies b (a ∷ more) =
    (book_answer b a.0 a.1, book_handed b a.0 a.1) ∷ replies (book_after b a.0 a.1) more

unfoldable pub left : List ℕ → List Asked → List ℕ
left b [] = b
left b (a ∷ more) = left (book_after b a.0 a.1) more
