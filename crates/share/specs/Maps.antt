-- Document 02, (vi): "a plain map of numbers to descriptors", and what it answers to a call.
use Rattle.std.specs.Prelude.{ℕ, ◌+◌, Bool, cond, not, ◌||◌, List, [], ◌∷◌, leb, ltb, eqb, length}
use Rattle.answer.specs.declared.Told.{Told}
use Rattle.answer.specs.Answer.{plain, is_done}
use Rattle.answer.specs.Refuse.{Test, refuse}
use Rattle.answer.specs.Lent.{unless_refused}
use Rattle.element.specs.Descriptor.{well_made}
use Rattle.share.specs.Share.{sum_to}

-- the descriptor under each number, [] where there is none: no descriptor is empty
abbrev pub Map : Type 0
Map = ℕ → List ℕ

abbrev pub empty : Map
empty n = []

abbrev pub with : Map → ℕ → List ℕ → Map
with m n d i = cond (eqb i n) d (m i)

-- what is asked of a book
pub data Call : Type 0 where
  Put : ℕ → List ℕ → Call
  Get : ℕ → Call
  Remove : ℕ → Call
  Tidy : Call

-- the bytes of the live descriptors, number n aside
abbrev pub others : ℕ → Map → ℕ → ℕ
others N m n = sum_to (λ i. cond (eqb i n) 0 (length (m i))) N

-- a number not held, or not below N
abbrev pub absent : ℕ → Map → ℕ → Bool
absent N m n = leb N n || eqb (length (m n)) 0

-- the refusals of a call in order, with N numbers and M bytes: 14 ABSENT, 4 SHAPE, and 13 FULL
-- exactly when the live descriptors other than the one replaced, with the new one, would exceed M bytes
abbrev pub tests : ℕ → ℕ → Map → Call → List Test
tests N M m (Put n d) = (leb N n, 14) ∷ (not (well_made d), 4) ∷ (ltb M (others N m n + length d), 13) ∷ []
tests N M m (Get n) = (absent N m n, 14) ∷ []
tests N M m (Remove n) = (absent N m n, 14) ∷ []
tests N M m Tidy = []

-- what is handed back, and the map afterwards, where nothing is refused
abbrev pub found : Map → Call → List ℕ
found m (Put n d) = []
found m (Get n) = m n
found m (Remove n) = []
found m Tidy = []

abbrev pub changed : Map → Call → Map
changed m (Put n d) = with m n d
changed m (Get n) = m
changed m (Remove n) = with m n []
changed m Tidy = m

-- the answer: the first refusal, or done
abbrev pub map_answer : ℕ → ℕ → Map → Call → Told
map_answer N M m c = refuse (tests N M m c) (plain 0)

-- what a call gives: its answer, and the bytes handed back
abbrev pub Reply : Type 0
Reply = Told × List ℕ

unfoldable pub map_reply : ℕ → ℕ → Map → Call → Reply
map_reply N M m c = (map_answer N M m c, unless_refused (map_answer N M m c) [] (found m c))

unfoldable pub map_after : ℕ → ℕ → Map → Call → Map
map_after N M m c = cond (is_done (map_answer N M m c)) (changed m c) m

-- the replies to calls one after another
unfoldable pub map_replies : ℕ → ℕ → Map → List Call → List Reply
map_replies N M m [] = []
map_replies N M m (c ∷ cs) = map_reply N M m c ∷ map_replies N M (map_after N M m c) cs
